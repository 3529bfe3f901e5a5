-- The number of a response's id.
use Rattle.std.proofs.Common.{refl, subst, sym}
use Rattle.rpc_message.specs.Message.{message_of}
use Rattle.rpc_message.specs.ValueTexts.{IsResponseIdText}
use Rattle.event_model.specs.Requests.{answered_id}
use Rattle.mux_turns.proofs.Numbers.{answered_text, unanswered}
use Rattle.mux_turns.proofs.answered.answered_ask.Goals as goal

pub returns-then-is_response : goal.returns-then-is_response
returns-then-is_response c = λ body read. c.number_in.ensures (answered_id (message_of body))
    (subst (λ w. IsResponseIdText (answered_id (message_of body)) w) (sym (c.id_bytes.ensures body read)) (answered_text body (message_of body) c.is_response.result c.sort.result refl (c.sort.ensures body read) c.is_response.ensures c.if-is_response.true))

pub returns-else-is_response : goal.returns-else-is_response
returns-else-is_response c = λ body read. unanswered (message_of body) c.is_response.result c.sort.result (c.sort.ensures body read) c.is_response.ensures c.if-is_response.false
