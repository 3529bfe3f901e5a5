-- A request is refused.
use Rattle.std.proofs.Common.{ap, ◌∙◌}
use Rattle.std.specs.Prelude.{Some}
use Rattle.rpc_message.specs.Codes.{code_of}
use Rattle.rpc_message.specs.Message.{id_bytes}
use Rattle.rpc_message.specs.Texts.{error_text, error_tree}
use Rattle.event_model.specs.Event.{behind}
use Rattle.event_model.specs.Requests.{answered_id}
use Rattle.mux_turns.proofs.Keeping.{answers_own, keeps_error, refused_says, told_as}
use Rattle.mux_turns.proofs.refusals.refuse.Goals as goal

pub returns-clause-does : goal.returns-clause-does
returns-clause-does c = λ settings base body method id params read says.
    let code = code_of c.args.code in
    let own = c.id_bytes-id.ensures body read in
    let answers = refused_says c.in_ok-text.text body c.id_bytes-id.result.now method id params code c.in_ok-text.ensures own says in
    told_as settings base c.args.tables.now c.answer.new.self c.args.outs.now c.answer.new.outs c.args.e c.in_ok-text.text (error_text (id_bytes body) code) (c.in_ok-text.ensures ∙ ap (λ w. error_text w code) own)
    (c.in_ok-answer.ensures.does settings base (keeps_error c.args.e c.in_ok-text.text (behind base c.args.outs.now) (Some id) (error_tree code) answers)
    (answers_own c.in_ok-text.text body c.id_bytes-id.result.now method id params own says (ap answered_id answers)))
