-- The editors of a group.
use Rattle.mux_tables.proofs.Live.{begun_so}
use Rattle.mux_tables.proofs.Waits.{members_inside}
use Rattle.mux_tables.proofs.tables.Tables.members.Goals as goal

pub returns-clause-inside : goal.returns-clause-inside
returns-clause-inside c = members_inside c.args.self.now.editors c.args.g c.in_ok-numbers.numbers.items c.in_ok-numbers.ensures

pub returns-clause-those : goal.returns-clause-those
returns-clause-those c = λ settings events st. begun_so settings c.args.self.now events c.args.g c.in_ok-numbers.numbers.items st c.in_ok-numbers.ensures
