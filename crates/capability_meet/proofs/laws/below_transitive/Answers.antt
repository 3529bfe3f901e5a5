use Rattle.capability_meet.proofs.BelowLaws.{below_through}
use Rattle.capability_meet.proofs.laws.below_transitive.Goals as goal

pub returns : goal.returns
returns c = below_through
