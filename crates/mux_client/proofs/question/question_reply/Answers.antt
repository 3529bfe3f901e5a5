use Rattle.std.proofs.Common.{refl}
use Rattle.mux_client.specs.Requests.{question_id}
use Rattle.mux_client.proofs.Replying.{question_id_text}
use Rattle.mux_client.proofs.question.question_reply.Goals as goal

pub returns : goal.returns
returns c = c.read_reply.ensures question_id question_id_text refl
