-- A list of diagnostics goes to those that it fits.
use Rattle.std.proofs.Common.{◌≡◌, ◌<◌, length, ap, sym, subst, ◌∙◌}
use Rattle.std.specs.Prelude.{Some}
use Rattle.std.specs.List.{All, AllByRecursion}
use Rattle.event_model.specs.Event.{with_cause}
use Rattle.event_model.specs.Stages.{is_first_result}
use Rattle.event_model.proofs.Turns.{does_alike, does_nothing}
use Rattle.group_rows.specs.Asks.{running_in}
use Rattle.group_rows.specs.ListRows.{list_row}
use Rattle.group_rows.specs.Lists.{sayings_of}
use Rattle.group_rows.specs.diagnostics_route.specs.Published.{published}
use Rattle.group_rows.proofs.ListsKept.{published_body}
use Rattle.group_words.specs.Houses.{is_first_error}
use Rattle.mux_history.specs.declared.cause.Cause.TheVariants.{FromServer}
use Rattle.rpc_message.specs.Message.{message_of}
use Rattle.rpc_message.specs.Parsed.{IsRead}
use Rattle.mux_starts.specs.Lists.{IsInside, IsListed, all_shown}
use Rattle.mux_tables.specs.Documents.{AllStand, nothing_owed}
use Rattle.mux_tables.proofs.Homes.{group_seen}
use Rattle.mux_tables.proofs.Starts.{start_at_place}
use Rattle.mux_tables.proofs.Publishing.{list_apart}
use Rattle.mux_starts.proofs.Early.{noticed_named}
use Rattle.mux_starts.proofs.Listing.{all_listed, given_none, given_one, no_list, shows_those}
use Rattle.mux_starts.proofs.Parking.{noticed, noticed_keeps}
use Rattle.mux_starts.proofs.Uncreated.{other_tells}
use Rattle.mux_starts.proofs.Unlisted.{shapeless_unlisted}
use Rattle.mux_turns.proofs.Matched.{not_early, not_first, not_spawning, whole_entry}
use Rattle.mux_starts.proofs.lists.take_list.Goals as goal

pub returns-in-None-clause-does : goal.returns-in-None-clause-does
returns-in-None-clause-does c = λ settings before body method params s x read says class first here ready at meant st ds.
    let m = message_of body in
    let base = with_cause before (FromServer s body) in
    let t = c.args.tables.now in
    let u = c.hear_answer.new.self in
    let xs = c.args.outs.now in
    let own = start_at_place t.lasts.items c.args.g s x here at in
    let place = c.notices_sent-place.result in
    let counted = c.notices_sent-place.ensures settings before x here ready ds ∙ ap (λ n. sayings_of n before) own in
    let none = sym (c.in_ok-found.ensures body read) ∙ c.in-None.is in
    let moved = c.hear_answer.ensures.moves settings before s body x here at (not_early (is_first_result m) x.life.stage ready) (not_first (is_first_error m) x.life.stage ready) (noticed settings before s body method params says) (noticed_keeps settings before s body method params says)
    (shapeless_unlisted before s body method params says (given_none settings s before body place counted none)) (other_tells settings before s body method params says (list_apart method class)) (noticed_named m method params says) st in
    let docs = c.hear_answer.ensures.documents settings nothing_owed before s body x here at (not_first (is_first_result m) x.life.stage ready) (λ e. not_spawning x.life.stage ready e) st ds in
    whole_entry (λ k events. AllStand settings k events) (list_row settings s before body) base (u, nothing_owed) (u, nothing_owed) xs xs first (moved, docs)
    (does_alike (λ _. no_list settings s before body place counted none) does_nothing)

pub tell_each-requires : goal.tell_each-requires
tell_each-requires c =
    let n = length c.args.tables.now.editors in
    let all = subst (All (λ e. e < n)) (sym c.deref.ensures.value) c.in_ok-numbers-in-Some.ensures.inside in
    subst (λ m. AllByRecursion (IsInside m) c.in_ok-tellings-in-Some.tellings.items) (ap length (sym c.in_ok-publish-in-Some.ensures.editors)) (c.in_ok-tellings-in-Some.ensures.inside n all)

pub returns-in_ok-tell_each-in-Some-clause-does : goal.returns-in_ok-tell_each-in-Some-clause-does
returns-in_ok-tell_each-in-Some-clause-does c = λ settings before body method params s x read says class first here ready at meant st ds.
    let base = with_cause before (FromServer s body) in
    let t = c.args.tables.now in
    let u = c.publish.new.self in
    let xs = c.args.outs.now in
    let ys = c.tell_each.new.outs in
    let l = c.in-Some.list in
    let own = start_at_place t.lasts.items c.args.g s x here at in
    let place = c.notices_sent-place.result in
    let counted = c.notices_sent-place.ensures settings before x here ready ds ∙ ap (λ n. sayings_of n before) own in
    let one = sym (c.in_ok-found.ensures body read) ∙ c.in-Some.is in
    let is_body = published_body place body l one in
    let note = ap message_of is_body ∙ says in
    let those = c.deref.ensures.value ∙ (c.in_ok-numbers-in-Some.ensures.those settings before st ∙ ap (λ h. running_in settings h before) (c.group_number-group.ensures x here)) in
    let shown = c.in_ok-tellings-in-Some.ensures.shown settings before x (subst (λ b. IsRead c.args.message.now b) (sym is_body) read) here ready st ds in
    let so = shown ∙ ap (λ n. all_shown settings before n l c.deref.result.now) own in
    let given = given_one settings s before body place counted l one in
    let moved = c.in_ok-publish-in-Some.ensures.stands settings before body method params s x here ready at says class given st in
    let docs = c.in_ok-publish-in-Some.ensures.documents settings nothing_owed before body method params s x here ready at says st ds in
    let uri = c.bytes.ensures ∙ c.in_ok-uri-in-Some.ensures in
    let alone = subst (λ b. published place b ≡ Some l) (sym is_body) one in
    let listed = subst (λ ts. AllByRecursion (IsListed l.uri l.empty) ts) (sym so) (all_listed settings before s l meant method params place note class alone c.deref.result.now) in
    whole_entry (λ k events. AllStand settings k events) (list_row settings s before body) base (u, nothing_owed) (c.tell_each.new.tables, nothing_owed) xs ys first (moved, docs)
    (does_alike (λ _. shows_those settings s before body place counted l one x.life.group c.deref.result.now c.in_ok-tellings-in-Some.tellings.items (group_seen settings t before c.args.g s x st here at).0 those so)
    (c.in_ok-tell_each-in-Some.ensures.does settings base (subst (λ w. AllByRecursion (IsListed w l.empty) c.in_ok-tellings-in-Some.tellings.items) (sym uri) listed)))
