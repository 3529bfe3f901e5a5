use Rattle.capability_meet.proofs.TextLaws.{declared_text_greatest}
use Rattle.capability_meet.proofs.laws.declared_text_is_greatest.Goals as goal

pub returns : goal.returns
returns c = declared_text_greatest
