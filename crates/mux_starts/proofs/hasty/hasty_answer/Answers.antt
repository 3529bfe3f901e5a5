-- The answer to a request that comes too early.
use Rattle.std.proofs.Common.{◌≡◌, ap, subst, sym, ◌∙◌, codes}
use Rattle.std.specs.Prelude.{IfOk}
use Rattle.rpc_message.specs.Message.{message_of}
use Rattle.rpc_message.specs.Texts.{error_text, invalid_request, ok_text}
use Rattle.mux_starts.proofs.Early.{message_answer, other_answer}
use Rattle.mux_starts.proofs.hasty.hasty_answer.Goals as goal

pub returns-then-is_message_request : goal.returns-then-is_message_request
returns-then-is_message_request c = λ body method id params read says.
    subst (λ w. IfOk c.ok_reply.result (λ text. text ≡ w)) (ap (λ w. ok_text w (codes "null")) (c.id_bytes.ensures body read) ∙ message_answer method body id params (message_of body) says (sym (c.is_message_request.ensures body read) ∙ c.if-is_message_request.true)) c.ok_reply.ensures

pub returns-else-is_message_request : goal.returns-else-is_message_request
returns-else-is_message_request c = λ body method id params read says.
    subst (λ w. IfOk c.error_answer.result (λ text. text ≡ w)) (ap (λ w. error_text w invalid_request) (c.id_bytes-else-is_message_request.ensures body read) ∙ other_answer method body id params (message_of body) says (sym (c.is_message_request.ensures body read) ∙ c.if-is_message_request.false)) c.error_answer.ensures
