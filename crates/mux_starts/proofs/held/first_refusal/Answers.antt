-- What waits longest is refused.
use Rattle.std.proofs.Common.{refl}
use Rattle.std.specs.Prelude.{None}
use Rattle.mux_starts.proofs.Passing.{none_waits}
use Rattle.mux_starts.proofs.held.first_refusal.Goals as goal

pub returns-in-None-clause-first : goal.returns-in-None-clause-first
returns-in-None-clause-first c = λ settings before st. none_waits settings c.args.group c.args.tables.now before None refl (c.in-None.ensures.stands settings before st)
