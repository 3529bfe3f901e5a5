use Rattle.base_frame.proofs.ReadBack.{contents_fit, written_back, all_back}
use Rattle.base_frame.proofs.law.written_law.Goals as goal

pub returns : goal.returns
returns c = record { fits = contents_fit; back = written_back; all = all_back }
