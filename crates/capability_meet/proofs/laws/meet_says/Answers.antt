use Rattle.capability_meet.proofs.MeetSays.{meet_text_says}
use Rattle.capability_meet.proofs.laws.meet_says.Goals as goal

pub returns : goal.returns
returns c = meet_text_says
