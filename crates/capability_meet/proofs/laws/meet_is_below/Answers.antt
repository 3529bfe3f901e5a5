use Rattle.capability_meet.proofs.MeetLaws.{meet_below}
use Rattle.capability_meet.proofs.laws.meet_is_below.Goals as goal

pub returns : goal.returns
returns c = meet_below
