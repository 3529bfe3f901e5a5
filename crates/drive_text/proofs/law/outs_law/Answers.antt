use Rattle.drive_text.proofs.Laws.{forms_are_outs, same_outs}
use Rattle.drive_text.proofs.law.outs_law.Goals as goal

pub returns : goal.returns
returns c = record { lines = forms_are_outs; same = same_outs }
