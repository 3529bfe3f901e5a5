-- The editors of a group that wait.
use Rattle.mux_tables.proofs.Waits.{waiting_inside, waiting_so}
use Rattle.mux_tables.proofs.tables.Tables.waiting.Goals as goal

pub returns-clause-inside : goal.returns-clause-inside
returns-clause-inside c = waiting_inside c.args.self.now.editors c.args.g c.in_ok-numbers.numbers.items c.in_ok-numbers.ensures

pub returns-clause-those : goal.returns-clause-those
returns-clause-those c = λ settings events st. waiting_so settings c.args.self.now events c.args.g c.in_ok-numbers.numbers.items st c.in_ok-numbers.ensures
