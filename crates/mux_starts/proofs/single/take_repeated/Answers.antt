-- A request under an id that is open.
use Rattle.std.proofs.Common.{[], refl}
use Rattle.event_model.specs.Event.{with_cause}
use Rattle.event_model.specs.Row.{nothing}
use Rattle.event_model.specs.Stages.{is_first_result}
use Rattle.event_model.proofs.Turns.{does_nothing}
use Rattle.group_words.specs.Houses.{is_first_error}
use Rattle.mux_history.specs.declared.cause.Cause.TheVariants.{FromServer}
use Rattle.rpc_message.specs.Message.{message_of}
use Rattle.mux_tables.specs.Documents.{AllStand, nothing_owed}
use Rattle.mux_starts.proofs.Early.{asked_named}
use Rattle.mux_starts.proofs.Parking.{repeated, repeated_keeps}
use Rattle.mux_turns.proofs.Matched.{not_early, not_first, not_spawning, whole_entry}
use Rattle.mux_starts.proofs.Uncreated.{repeated_creates}
use Rattle.mux_starts.proofs.Unlisted.{asks_unlisted}
use Rattle.mux_starts.proofs.single.take_repeated.Goals as goal

pub returns-clause-does : goal.returns-clause-does
returns-clause-does c = λ settings before body method id params s x says taken here ready at st ds.
    let m = message_of body in
    let u = c.hear_answer.new.self in
    let moved = c.hear_answer.ensures.moves settings before s body x here at (not_early (is_first_result m) x.life.stage ready) (not_first (is_first_error m) x.life.stage ready) (repeated settings before s body id method params says taken) (repeated_keeps settings before s body id method params says taken) (asks_unlisted before s body id method params says) (repeated_creates settings before s body id method params says taken) (asked_named m id method params says) st in
    let docs = c.hear_answer.ensures.documents settings nothing_owed before s body x here at (not_first (is_first_result m) x.life.stage ready) (λ e. not_spawning x.life.stage ready e) st ds in
    whole_entry (λ k events. AllStand settings k events) nothing (with_cause before (FromServer s body)) (u, nothing_owed) (u, nothing_owed) [] [] refl (moved, docs) does_nothing
