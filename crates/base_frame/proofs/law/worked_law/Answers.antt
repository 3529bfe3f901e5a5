use Rattle.base_frame.proofs.Examples.{worked}
use Rattle.base_frame.proofs.law.worked_law.Goals as goal

pub returns : goal.returns
returns c = worked
