-- A message of an editor whose link is to be ended.
use Rattle.std.proofs.Common.{[], ap, refl, sym, ◌∙◌}
use Rattle.event_model.specs.Event.{with_cause}
use Rattle.event_model.specs.Phases.{is_new, is_served}
use Rattle.event_model.specs.Row.{nothing}
use Rattle.event_model.proofs.Turns.{does_nothing}
use Rattle.mux_history.specs.declared.cause.Cause.TheVariants.{FromEditor}
use Rattle.rpc_message.specs.Message.{message_of}
use Rattle.mux_tables.specs.Documents.{AllStand, nothing_owed}
use Rattle.mux_editors.proofs.Asides.{closed_keeps, closed_placed, closed_stays, closed_stops, old_unopened}
use Rattle.mux_turns.proofs.Matched.{whole_entry}
use Rattle.mux_editors.proofs.Takings.{takes_unserved}
use Rattle.mux_editors.proofs.Staying.{unheld_unserved}
use Rattle.mux_editors.proofs.quiet.take_closed.Goals as goal

pub returns-clause-does : goal.returns-clause-does
returns-clause-does c = λ settings before body closed silent settled st ds.
    let e = c.args.e in
    let base = with_cause before (FromEditor e body) in
    let u = c.hear_editor.new.self in
    let here = c.phase_of-phase.ensures.stands settings before st in
    let heard = c.hear_editor.ensures.stands settings before body st silent (takes_unserved settings before settled c.args.tables.now st e (message_of body) (ap is_served closed)) (unheld_unserved settings e body (message_of body) before (ap is_served closed)) (closed_placed before e (message_of body) closed) (closed_stops before e (message_of body) closed)
    (old_unopened settings.servers before e (message_of body) (ap is_new closed)) (closed_stays before e body closed ∙ sym (here ∙ closed)) in
    let docs = c.hear_editor.ensures.documents settings nothing_owed before body (closed_keeps before e (message_of body) closed) ds in
    whole_entry (λ k events. AllStand settings k events) nothing base (u, nothing_owed) (u, nothing_owed) [] [] refl (heard, docs) does_nothing
