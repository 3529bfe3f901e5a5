use Rattle.capability_meet.proofs.TextLaws.{meet_text_greatest}
use Rattle.capability_meet.proofs.laws.meet_text_is_greatest.Goals as goal

pub returns : goal.returns
returns c = meet_text_greatest
