use Rattle.capability_meet.proofs.BelowLaws.{below_self}
use Rattle.capability_meet.proofs.laws.below_reflexive.Goals as goal

pub returns : goal.returns
returns c = below_self
