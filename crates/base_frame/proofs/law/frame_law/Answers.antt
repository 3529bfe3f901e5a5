use Rattle.base_frame.proofs.Ties.{frames_are}
use Rattle.base_frame.proofs.law.frame_law.Goals as goal

pub returns : goal.returns
returns c = frames_are
