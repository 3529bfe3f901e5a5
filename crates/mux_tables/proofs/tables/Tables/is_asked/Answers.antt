-- Whether an ask has an id.
use Rattle.mux_tables.proofs.Searched.{open_seen}
use Rattle.mux_tables.proofs.tables.Tables.is_asked.Goals as goal

pub returns : goal.returns
returns c = λ settings events x i at ready own st. open_seen settings c.args.self.now events c.args.g x c.index.result.now at c.requires c.index.ensures ready st i c.args.id.now c.has_open.result own c.has_open.ensures
