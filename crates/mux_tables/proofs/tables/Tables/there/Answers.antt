-- The editors that are there.
use Rattle.mux_tables.proofs.Waits.{there_inside, there_so}
use Rattle.mux_tables.proofs.tables.Tables.there.Goals as goal

pub returns-clause-inside : goal.returns-clause-inside
returns-clause-inside c = there_inside c.args.self.now.editors c.in_ok-numbers.numbers.items c.in_ok-numbers.ensures

pub returns-clause-those : goal.returns-clause-those
returns-clause-those c = λ settings events st. there_so settings c.args.self.now events c.in_ok-numbers.numbers.items st c.in_ok-numbers.ensures
