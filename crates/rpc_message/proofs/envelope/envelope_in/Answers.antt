use Rattle.rpc_message.proofs.Enveloped.{no_envelope}
use Rattle.rpc_message.proofs.envelope.envelope_in.Goals as goal

pub returns-else-branch-clause-tells : goal.returns-else-branch-clause-tells
returns-else-branch-clause-tells c = λ j a. no_envelope j c.in_ok-is_enveloped.field-0 (c.in_ok-is_enveloped.ensures j a) c.if-branch.false
