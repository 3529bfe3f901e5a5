-- A request that waits is answered.
use Rattle.std.proofs.Common.{ap, ◌∙◌}
use Rattle.std.specs.Prelude.{Some}
use Rattle.event_model.specs.Event.{behind}
use Rattle.event_model.specs.Requests.{answered_id}
use Rattle.rpc_message.specs.Message.{message_of}
use Rattle.group_rows.specs.Waiting.{cancelled_text}
use Rattle.mux_turns.specs.group_facts.proofs.Held.{cancelled_says}
use Rattle.mux_turns.proofs.Keeping.{keeps_error, told_as}
use Rattle.mux_editors.proofs.cancelled.cancel_waiting.Goals as goal

pub returns-clause-does : goal.returns-clause-does
returns-clause-does c = λ settings base named.
    let id = c.args.id.now in
    let text = c.in_ok-text.text in
    let says = cancelled_says named.0 id named.1 in
    let answers = ap message_of c.in_ok-text.ensures ∙ says.1 in
    told_as settings base c.args.tables.now c.answer.new.self c.args.outs.now c.answer.new.outs c.args.e text (cancelled_text id) c.in_ok-text.ensures
    (c.in_ok-answer.ensures.does settings base (keeps_error c.args.e text (behind base c.args.outs.now) (Some named.0) says.0 answers) (record { name = named.0; is = named.1; says = ap answered_id answers }))
