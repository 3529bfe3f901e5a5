-- A notification of a start goes to each editor of its group that runs.
use Rattle.std.proofs.Common.{ap, subst, ◌∙◌}
use Rattle.event_model.specs.Does.{Does}
use Rattle.event_model.specs.Event.{with_cause}
use Rattle.event_model.specs.Row.{each, nothing, on}
use Rattle.event_model.specs.Stages.{is_first_result}
use Rattle.event_model.proofs.Turns.{alike, does_alike}
use Rattle.group_rows.specs.AskRows.{broadcast, broadcast_row}
use Rattle.group_rows.specs.Asks.{running_in}
use Rattle.group_words.specs.Houses.{is_first_error}
use Rattle.mux_history.specs.declared.cause.Cause.TheVariants.{FromServer}
use Rattle.rpc_message.specs.Message.{message_of}
use Rattle.mux_tables.specs.Documents.{AllStand, nothing_owed}
use Rattle.mux_tables.proofs.DocumentOwed.{all_does}
use Rattle.mux_tables.proofs.Homes.{group_seen}
use Rattle.mux_starts.proofs.Early.{noticed_named}
use Rattle.mux_starts.proofs.Parking.{noticed, noticed_keeps}
use Rattle.mux_turns.proofs.Matched.{not_early, not_first, not_spawning, whole_entry}
use Rattle.mux_starts.proofs.Uncreated.{other_tells}
use Rattle.mux_starts.proofs.Unlisted.{tells_unlisted}
use Rattle.mux_starts.proofs.broadcasts.take_broadcast.Goals as goal

pub returns-clause-does : goal.returns-clause-does
returns-clause-does c = λ settings before body method params s x read says untelling unlisting first here ready at st ds.
    let g = c.args.g in
    let m = message_of body in
    let base = with_cause before (FromServer s body) in
    let u = c.hear_answer.new.self in
    let xs = c.args.outs.now in
    let ys = c.spread.new.outs in
    let is = c.bytes.ensures.bytes ∙ read.bytes_are in
    let those = c.deref.ensures.value ∙ (c.in_ok-numbers.ensures.those settings before st ∙ ap (λ h. running_in settings h before) (c.group_number-group.ensures x here)) in
    let named = noticed_named m method params says in
    let moved = c.hear_answer.ensures.moves settings before s body x here at (not_early (is_first_result m) x.life.stage ready) (not_first (is_first_error m) x.life.stage ready) (noticed settings before s body method params says) (noticed_keeps settings before s body method params says) (tells_unlisted before s body method params says unlisting) (other_tells settings before s body method params says untelling) named st in
    let docs = c.hear_answer.ensures.documents settings nothing_owed before s body x here at (not_first (is_first_result m) x.life.stage ready) (λ e. not_spawning x.life.stage ready e) st ds in
    let sent = subst (λ w. Does (λ k events. AllStand settings k events) (each (broadcast w) (running_in settings x.life.group before)) base (u, nothing_owed) xs (u, nothing_owed) ys) is
    (subst (λ ns. Does (λ k events. AllStand settings k events) (each (broadcast c.bytes.result.now) ns) base (u, nothing_owed) xs (u, nothing_owed) ys) those
    (all_does settings u u nothing_owed nothing_owed base xs ys (c.in_ok-spread.ensures.does settings base method params unlisting (ap message_of is ∙ says)) (λ _ d. c.in_ok-spread.ensures.documents settings nothing_owed base d))) in
    whole_entry (λ k events. AllStand settings k events) (broadcast_row settings before s body) base (u, nothing_owed) (u, nothing_owed) xs ys first (moved, docs)
    (does_alike (λ _. alike (ap (λ o. on o nothing (λ h. each (broadcast body) (running_in settings h before))) (group_seen settings c.args.tables.now before g s x st here at).0)) sent)
