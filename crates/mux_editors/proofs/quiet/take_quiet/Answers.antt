-- A message that gives nothing.
use Rattle.std.proofs.Common.{[], refl, sym}
use Rattle.event_model.specs.Event.{with_cause}
use Rattle.event_model.specs.Row.{nothing}
use Rattle.event_model.proofs.Turns.{does_nothing}
use Rattle.mux_history.specs.declared.cause.Cause.TheVariants.{FromEditor}
use Rattle.rpc_message.specs.Message.{message_of}
use Rattle.mux_tables.specs.Documents.{AllStand, nothing_owed}
use Rattle.mux_editors.proofs.Asides.{aside}
use Rattle.mux_editors.proofs.Staying.{unheld_unasked}
use Rattle.mux_turns.proofs.Matched.{whole_entry}
use Rattle.mux_editors.proofs.quiet.take_quiet.Goals as goal

pub returns-clause-does : goal.returns-clause-does
returns-clause-does c = λ settings before body read other quiet silent untaken st ds.
    let e = c.args.e in
    let base = with_cause before (FromEditor e body) in
    let u = c.hear_editor.new.self in
    let off = aside before e (message_of body) other in
    let stays = c.phase_behind.ensures.stands before e body read other (sym (c.phase_of-phase.ensures.stands settings before st)) in
    let heard = c.hear_editor.ensures.stands settings before body st silent untaken (unheld_unasked settings e body (message_of body) before other) off.placed off.stopped (off.unopened settings.servers) stays in
    let docs = c.hear_editor.ensures.documents settings nothing_owed before body quiet ds in
    whole_entry (λ k events. AllStand settings k events) nothing base (u, nothing_owed) (u, nothing_owed) [] [] refl (heard, docs) does_nothing
