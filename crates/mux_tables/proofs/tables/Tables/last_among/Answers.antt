-- The editor of the last open request.
use Rattle.mux_tables.proofs.Searched.{last_inside, last_seen}
use Rattle.mux_tables.proofs.tables.Tables.last_among.Goals as goal

pub returns-clause-last : goal.returns-clause-last
returns-clause-last c = λ settings events s at st. last_seen settings c.args.self.now events c.args.g s c.args.among.now c.index.result.now c.last_editor.result at c.requires c.index.ensures c.last_editor.ensures st

pub returns-clause-one : goal.returns-clause-one
returns-clause-one c = last_inside c.args.among.now c.index.result.now.ids.requests c.last_editor.result c.last_editor.ensures
