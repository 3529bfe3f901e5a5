-- What is open under an id fails.
use Rattle.std.proofs.Common.{◌≡◌, ap, ◌∙◌}
use Rattle.std.specs.Prelude.{Some}
use Rattle.rpc_message.specs.Message.{error, message_of}
use Rattle.rpc_message.specs.Texts.{error_text, error_tree, request_failed}
use Rattle.rpc_message.proofs.Fixed.{error_law, id_as_response}
use Rattle.event_model.specs.Event.{behind}
use Rattle.event_model.specs.Requests.{answered_id}
use Rattle.mux_turns.proofs.Keeping.{keeps_error, told_as}
use Rattle.mux_turns.proofs.Refusing.{informs_one}
use Rattle.mux_turns.proofs.initials.refuse_id.Goals as goal

pub returns-clause-told : goal.returns-clause-told
returns-clause-told c = informs_one c.args.outs.now c.answer.new.outs c.args.e c.in_ok-text.text c.in_ok-answer.ensures.outs

pub returns-clause-does : goal.returns-clause-does
returns-clause-does c = λ settings base named.
    let id = c.args.id.now in
    let text = c.in_ok-text.text in
    let says : message_of text ≡ error (Some named.0) (error_tree request_failed) = ap message_of c.in_ok-text.ensures ∙ error_law (Some named.0) id request_failed (id_as_response named.0 id named.1) in
    told_as settings base c.args.tables.now c.answer.new.self c.args.outs.now c.answer.new.outs c.args.e text (error_text id request_failed) c.in_ok-text.ensures
    (c.in_ok-answer.ensures.does settings base (keeps_error c.args.e text (behind base c.args.outs.now) (Some named.0) (error_tree request_failed) says) (record { name = named.0; is = named.1; says = ap answered_id says }))
