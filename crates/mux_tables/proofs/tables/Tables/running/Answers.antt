-- The editors of a group that run.
use Rattle.mux_tables.proofs.Seen.{running_so}
use Rattle.mux_tables.proofs.Waits.{running_inside}
use Rattle.mux_tables.proofs.tables.Tables.running.Goals as goal

pub returns-clause-inside : goal.returns-clause-inside
returns-clause-inside c = running_inside c.args.self.now.editors c.args.g c.in_ok-numbers.numbers.items c.in_ok-numbers.ensures

pub returns-clause-those : goal.returns-clause-those
returns-clause-those c = λ settings events st. running_so settings c.args.self.now events c.args.g c.in_ok-numbers.numbers.items st c.in_ok-numbers.ensures
