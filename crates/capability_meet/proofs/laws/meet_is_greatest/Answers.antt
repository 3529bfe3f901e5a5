use Rattle.capability_meet.proofs.MeetLaws.{meet_greatest}
use Rattle.capability_meet.proofs.laws.meet_is_greatest.Goals as goal

pub returns : goal.returns
returns c = meet_greatest
