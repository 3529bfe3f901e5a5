use Rattle.capability_meet.proofs.MeetSays.{declared_text_says}
use Rattle.capability_meet.proofs.laws.declared_says.Goals as goal

pub returns : goal.returns
returns c = declared_text_says
