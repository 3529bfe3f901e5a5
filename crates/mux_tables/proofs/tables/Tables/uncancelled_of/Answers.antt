-- An editor's open requests that it didn't cancel.
use Rattle.mux_tables.proofs.Homes.{open_at}
use Rattle.mux_tables.proofs.tables.Tables.uncancelled_of.Goals as goal

pub returns : goal.returns
returns c = λ settings events s at st. open_at settings c.args.self.now events c.args.g s c.index.result.now at c.requires c.index.ensures st c.args.e c.in_ok-numbers.numbers.items c.in_ok-numbers.ensures
