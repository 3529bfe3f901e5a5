-- S8: a whole request that creates a token.
use Rattle.std.proofs.Common.{◌≡◌, ◌<◌, ◌^◌, [], length, map, ap, subst, sym, ◌∙◌}
use Rattle.std.specs.Prelude.{None, slice_get}
use Rattle.std.specs.List.{All}
use Rattle.mux_history.specs.declared.cause.Cause.TheVariants.{FromServer}
use Rattle.event_model.specs.Does.{Done}
use Rattle.event_model.specs.Event.{with_cause}
use Rattle.event_model.specs.Stages.{Life, is_first_result, life_of}
use Rattle.event_model.proofs.Turns.{does_alike}
use Rattle.group_rows.specs.Asks.{goes_to_one, may_wait, running_in}
use Rattle.group_rows.specs.Created.{created_of, created_token, names_create}
use Rattle.group_rows.specs.CreatedRows.{create_row}
use Rattle.group_rows.specs.Live.{changes_live}
use Rattle.group_words.specs.Houses.{is_first_error}
use Rattle.rpc_message.specs.Message.{message_of}
use Rattle.mux_tables.specs.Documents.{AllStand, nothing_owed}
use Rattle.mux_tables.specs.Stands.{number_in, of_life}
use Rattle.mux_tables.proofs.Starts.{start_at_place}
use Rattle.mux_turns.proofs.Matched.{not_early, not_first, not_spawning, whole_entry}
use Rattle.mux_turns.proofs.Offering.{few_starts, no_starts, small_heard}
use Rattle.mux_starts.specs.Creates.{Creates}
use Rattle.mux_starts.proofs.Early.{asked_named}
use Rattle.mux_starts.proofs.Offered.{asks_all, made_by, refused_row}
use Rattle.mux_starts.proofs.Parking.{hasty, other_keeps}
use Rattle.mux_starts.proofs.Singles.{fresh_here}
use Rattle.mux_starts.proofs.Uncreated.{refused_creates}
use Rattle.mux_starts.proofs.Unlisted.{asks_unlisted}
use Rattle.mux_starts.proofs.creates.take_create.Goals as goal

pub offer_each-requires-clause-editors : goal.offer_each-requires-clause-editors
offer_each-requires-clause-editors c = subst (λ ns. All (λ e. e < length c.create.new.self.editors) ns) (sym c.deref.ensures.value) (subst (λ n. All (λ e. e < n) c.in_ok-numbers.numbers.items) (sym (ap length c.create.ensures.editors)) c.in_ok-numbers.ensures.inside)

pub returns-in-None-clause-does : goal.returns-in-None-clause-does
returns-in-None-clause-does c = λ settings before body method id params s x read says class fresh first here ready at settled st ds.
    let m = message_of body in
    let base = with_cause before (FromServer s body) in
    let t = c.args.tables.now in
    let u = c.hear_answer.new.self in
    let xs = c.args.outs.now in
    let ys = c.decline.new.outs in
    let own = start_at_place t.lasts.items c.args.g s x here at in
    let none = subst (λ n. created_token body (created_of settings n before) ≡ None) own (subst (Creates body (created_of settings x.life.start before)) c.in-None.is (c.in_ok-found.ensures settings before body method id params x read says here st)) in
    let stay = hasty settings before s body id method params says (ap may_wait class) in
    let moved = c.hear_answer.ensures.moves settings before s body x here at (not_early (is_first_result m) x.life.stage ready) (not_first (is_first_error m) x.life.stage ready) stay (other_keeps settings before s body id method params says (ap changes_live class)) (asks_unlisted before s body id method params says) (refused_creates settings before s body id method params says none) (asked_named m id method params says) st in
    let docs = c.hear_answer.ensures.documents settings nothing_owed before s body x here at (not_first (is_first_result m) x.life.stage ready) (λ e. not_spawning x.life.stage ready e) st ds in
    whole_entry (λ k events. AllStand settings k events) (create_row settings before x.life.group s body) base (u, nothing_owed) (u, nothing_owed) xs ys first (moved, docs)
    (does_alike (λ _. refused_row settings before x.life.group s body none)
    (c.in_ok-decline-in-None.ensures.does settings base body method id params s read says (ap (λ ns. slice_get ns c.args.g) c.hear_answer.ensures.starts ∙ at) (fresh_here settings before s body xs first id stay fresh)))

pub returns-clause-does : goal.returns-clause-does
returns-clause-does c = λ settings before body method id params s x read says class fresh first here ready at settled st ds.
    let base = with_cause before (FromServer s body) in
    let t = c.args.tables.now in
    let g = c.args.g in
    let u = c.create.new.self in
    let v = c.offer_each.new.tables in
    let xs = c.args.outs.now in
    let ys = c.accept.new.outs in
    let zs = c.offer_each.new.outs in
    let own = start_at_place t.lasts.items g s x here at in
    let next = c.in_ok-k-in-Some.ensures.number settings before x here st ∙ ap (λ n. (created_of settings n before).next) own in
    let low = subst (λ n. n < 2 ^ 64) next c.offer_each.ensures.low in
    let found = subst (Creates body (created_of settings s before)) c.in-Some.is (subst (λ n. Creates body (created_of settings n before) c.in_ok-found.found) own (c.in_ok-found.ensures settings before body method id params x read says here st)) low in
    let creates = ap names_create class in
    let stay = hasty settings before s body id method params says (ap may_wait class) in
    let docs = c.in_ok-k-in-Some.ensures.documents settings nothing_owed before body method id params s x here ready at says st ds in
    let those = c.deref.ensures.value ∙ (c.in_ok-numbers.ensures.those settings before st ∙ ap (λ h. running_in settings h before) (c.group_number-group.ensures x here)) in
    let lasts = c.create.ensures.lasts in
    let granted = c.in_ok-accept-in-Some.ensures.does settings base body method id params s read says (ap (λ ls. slice_get (map number_in ls.items) g) lasts ∙ at) (fresh_here settings before s body xs first id stay fresh) in
    let stage = ap (λ n. (life_of n before).stage) (sym own) ∙ (ap (λ (l : Life). l.stage) ((st.lasts.each g x here).parts of_life) ∙ ready) in
    let small = small_heard settings before (no_starts settings t before st) settled (few_starts settings t before st) (FromServer s body) in
    made_by (Done (λ k events. AllStand settings k events) (create_row settings before x.life.group s body) base [] (v, nothing_owed) zs) (created_token body (created_of settings s before)) c.in-Some.token found (λ token makes text.
    let moved = c.in_ok-k-in-Some.ensures.stands settings before body method id params s x token here ready at says creates fresh makes text st in
    whole_entry (λ k events. AllStand settings k events) (create_row settings before x.life.group s body) base (u, nothing_owed) (v, nothing_owed) xs zs first (moved, docs)
    (asks_all settings before s body method id params says creates stage fresh token makes x.life.group xs first (ap goes_to_one class) u v ys zs c.deref.result.now those x.life.start c.in_ok-k-in-Some.k own next small granted
    (λ apart runs idle can. c.in_ok-offer_each-in-Some.ensures.does settings base x token (ap (λ ls. slice_get ls.items g) lasts ∙ here) apart runs idle can.live can.unasked can.small)))
