-- An editor's group.
use Rattle.mux_tables.proofs.Seen.{group_given}
use Rattle.mux_tables.proofs.tables.Tables.group.Goals as goal

pub returns-clause-start : goal.returns-clause-start
returns-clause-start c = λ settings events st. group_given settings c.args.self.now events c.args.e c.in_ok-g.g st c.requires c.in_ok-g.ensures c.place_of.result c.place_of.ensures.number c.place_of.ensures.lost
