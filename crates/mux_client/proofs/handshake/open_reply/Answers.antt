use Rattle.std.proofs.Common.{refl}
use Rattle.mux_client.specs.Requests.{open_id}
use Rattle.mux_client.proofs.Replying.{open_id_text}
use Rattle.mux_client.proofs.handshake.open_reply.Goals as goal

pub returns : goal.returns
returns c = c.read_reply.ensures open_id open_id_text refl
