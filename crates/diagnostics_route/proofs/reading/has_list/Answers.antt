use Rattle.std.proofs.Common.{refl}
use Rattle.diagnostics_route.proofs.reading.has_list.Goals as goal

pub returns : goal.returns
returns c = λ o f. c.is_array.ensures _ (c.member.ensures refl o f)
