-- Which editor was asked under an id.
use Rattle.mux_tables.proofs.Searched.{seat_seen}
use Rattle.mux_tables.proofs.tables.Tables.asked_under.Goals as goal

pub returns : goal.returns
returns c = λ settings events x i at ready own st. seat_seen settings c.args.self.now events c.args.g x c.index.result.now at c.requires c.index.ensures ready st i c.args.id.now c.find.result own c.find.ensures.exact
