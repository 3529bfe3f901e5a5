-- S6: a whole request that registers.
use Rattle.std.proofs.Common.{◌<◌, length, Some, ap, ap₂, subst, sym, ◌∙◌}
use Rattle.std.specs.Prelude.{option_map, slice_get}
use Rattle.std.specs.List.{All}
use Rattle.mux_history.specs.declared.cause.Cause.TheVariants.{FromServer}
use Rattle.event_model.specs.Event.{with_cause}
use Rattle.event_model.specs.Stages.{is_first_result}
use Rattle.event_model.proofs.Turns.{does_alike}
use Rattle.group_rows.specs.Asks.{goes_to_one, may_wait, running_in}
use Rattle.group_rows.specs.Created.{names_create}
use Rattle.group_rows.specs.Live.{live_of}
use Rattle.group_rows.specs.LiveRows.{register_row, registering}
use Rattle.group_rows.proofs.LiveTexts.{again_written, live_written, registered_written}
use Rattle.group_words.specs.Houses.{is_first_error}
use Rattle.group_rows.specs.registrations.specs.Items.{again}
use Rattle.rpc_message.specs.Message.{message_of}
use Rattle.mux_tables.specs.Documents.{AllStand, nothing_owed}
use Rattle.mux_tables.proofs.Registering.{unregistered_live}
use Rattle.mux_tables.proofs.Starts.{start_at_place}
use Rattle.mux_turns.proofs.Called.{register_call, unregister_call}
use Rattle.mux_turns.proofs.Matched.{not_early, not_first, not_spawning, whole_entry}
use Rattle.mux_starts.proofs.Early.{asked_named}
use Rattle.mux_starts.proofs.Parking.{hasty}
use Rattle.mux_starts.proofs.Registering.{registered_row, tells, told_all, unregistered_row}
use Rattle.mux_starts.proofs.Singles.{fresh_here}
use Rattle.mux_starts.proofs.Uncreated.{other_creates}
use Rattle.mux_starts.proofs.Unlisted.{asks_unlisted}
use Rattle.mux_starts.proofs.registered.take_register.Goals as goal

pub register_all-requires : goal.register_all-requires
register_all-requires c = subst (λ ns. All (λ e. e < length c.register.new.self.editors) ns) (sym c.deref-in-Some.ensures.value) (subst (λ n. All (λ e. e < n) c.in_ok-numbers.numbers.items) (sym (ap length c.register.ensures.editors)) c.in_ok-numbers.ensures.inside)

pub returns-in-None-clause-does : goal.returns-in-None-clause-does
returns-in-None-clause-does c = λ settings before body method id params s x read says class fresh first here ready at st ds.
    let m = message_of body in
    let base = with_cause before (FromServer s body) in
    let u = c.hear_answer.new.self in
    let xs = c.args.outs.now in
    let ys = c.decline.new.outs in
    let none = sym (c.in_ok-found.ensures body read) ∙ ap (option_map (λ v. v.items)) c.in-None.is in
    let stay = hasty settings before s body id method params says (ap may_wait class) in
    let moved = c.hear_answer.ensures.moves settings before s body x here at (not_early (is_first_result m) x.life.stage ready) (not_first (is_first_error m) x.life.stage ready) stay (unregistered_live settings s s before body method m id params says class none) (asks_unlisted before s body id method params says) (other_creates settings before s body id method params says (ap names_create class)) (asked_named m id method params says) st in
    let docs = c.hear_answer.ensures.documents settings nothing_owed before s body x here at (not_first (is_first_result m) x.life.stage ready) (λ e. not_spawning x.life.stage ready e) st ds in
    whole_entry (λ k events. AllStand settings k events) (register_row settings before x.life.group s body) base (u, nothing_owed) (u, nothing_owed) xs ys first (moved, docs)
    (does_alike (λ _. unregistered_row settings before x.life.group s body none)
    (c.in_ok-decline-in-None.ensures.does settings base body method id params s read says (ap (λ ns. slice_get ns c.args.g) c.hear_answer.ensures.starts ∙ at) (fresh_here settings before s body xs first id stay fresh)))

pub returns-clause-does : goal.returns-clause-does
returns-clause-does c = λ settings before body method id params s x read says class fresh first here ready at st ds.
    let base = with_cause before (FromServer s body) in
    let t = c.args.tables.now in
    let u = c.register.new.self in
    let v = c.register_all.new.tables in
    let xs = c.args.outs.now in
    let ys = c.accept.new.outs in
    let zs = c.register_all.new.outs in
    let items = c.in-Some.items.items in
    let live = live_of settings s before in
    let own = start_at_place t.lasts.items c.args.g s x here at in
    let some = sym (c.in_ok-found.ensures body read) ∙ ap (option_map (λ v. v.items)) c.in-Some.is in
    let copied = c.in_ok-kept-in-Some.ensures ∙ c.deref.ensures.value in
    let stay = hasty settings before s body id method params says (ap may_wait class) in
    let moved = c.in_ok-gone-in-Some.ensures.stands settings before body method id params s x here ready at says class fresh (some ∙ ap Some (sym copied)) st in
    let docs = c.in_ok-gone-in-Some.ensures.documents settings nothing_owed before body method id params s x here ready at says st ds in
    let those = c.deref-in-Some.ensures.value ∙ (c.in_ok-numbers.ensures.those settings before st ∙ ap (λ h. running_in settings h before) (c.group_number-group.ensures x here)) in
    let gone = c.deref-in-Some-2.ensures.value ∙ (c.in_ok-gone-in-Some.ensures.gone settings before x here ready st ∙ ap₂ (λ rs n. again rs (live_of settings n before)) copied own) in
    let granted = c.in_ok-accept-in-Some.ensures.does settings base body method id params s read says (ap (λ ns. slice_get ns c.args.g) c.in_ok-gone-in-Some.ensures.starts ∙ at) (fresh_here settings before s body xs first id stay fresh) in
    let called = unregister_call (again items live) (again_written items live (live_written settings s before)) in
    let enrolled = register_call items (registered_written body items some) in
    whole_entry (λ k events. AllStand settings k events) (register_row settings before x.life.group s body) base (u, nothing_owed) (v, nothing_owed) xs zs first (moved, docs)
    (does_alike (λ _. registered_row settings before x.life.group s body items some)
    (told_all settings before s x.life.group body method id params xs first says (ap goes_to_one class) u v ys zs c.deref-in-Some.result.now those (registering (again items live) items) granted
    (λ runs idle. tells settings base u v ys zs c.deref-in-Some.result.now c.deref-in-Some-2.result.now (again items live) c.deref-in-Some-3.result.now items gone c.deref-in-Some-3.ensures.value called enrolled (λ a b. c.in_ok-register_all-in-Some.ensures.does settings base a b runs idle))))
