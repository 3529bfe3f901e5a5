use Rattle.capability_meet.proofs.BelowLaws.{members_law}
use Rattle.capability_meet.proofs.laws.below_members.Goals as goal

pub returns : goal.returns
returns c = members_law
