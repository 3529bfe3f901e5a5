use Rattle.base_frame.proofs.Ties.{faults_are}
use Rattle.base_frame.proofs.law.fault_law.Goals as goal

pub returns : goal.returns
returns c = faults_are
