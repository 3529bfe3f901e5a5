use Rattle.drive_text.proofs.Laws.{forms_are_lines, one_cause}
use Rattle.drive_text.proofs.law.causes_law.Goals as goal

pub returns : goal.returns
returns c = record { lines = forms_are_lines; one = one_cause }
