use Rattle.rpc_message.proofs.Reading.{refused_text, text_refused}
use Rattle.rpc_message.proofs.laws.refusals_law.Goals as goal

pub returns : goal.returns
returns c = λ bytes. (refused_text bytes, text_refused bytes)
