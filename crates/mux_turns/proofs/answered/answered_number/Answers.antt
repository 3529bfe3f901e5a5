-- The number of a response's id, where it is small.
use Rattle.event_model.specs.Requests.{answered_id}
use Rattle.rpc_message.specs.Message.{message_of}
use Rattle.mux_turns.proofs.answered.answered_number.Goals as goal

pub returns : goal.returns
returns c = λ body read. c.narrow.ensures (answered_id (message_of body)) (c.answered_ask.ensures body read)
