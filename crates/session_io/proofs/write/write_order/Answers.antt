use Rattle.std.proofs.Common.{refl}
use Rattle.session_io.specs.Writes.{wrote}
use Rattle.session_io.proofs.write.write_order.Goals as goal

pub returns-clause-some : goal.returns-clause-some
returns-clause-some g c = wrote c.in_ok-whole.whole c.if-broke.false refl c.in_ok-whole.ensures.some.0 c.in_ok-whole.ensures.some.1
