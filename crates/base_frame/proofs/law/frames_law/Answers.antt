use Rattle.base_frame.proofs.OneWay.{one_split, frames_stay, faults_stay, one_fault}
use Rattle.base_frame.proofs.law.frames_law.Goals as goal

pub returns : goal.returns
returns c = record { one = one_split; frames = frames_stay; faults = faults_stay; one_fault = one_fault }
