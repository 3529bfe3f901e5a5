use Rattle.std.proofs.Common.{refl}
use Rattle.diagnostics_route.proofs.reading.version_in.Goals as goal

pub returns : goal.returns
returns c = λ o f. c.version_of.ensures _ (c.member.ensures refl o f)
