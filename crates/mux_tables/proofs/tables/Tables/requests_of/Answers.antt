-- An editor's open requests.
use Rattle.mux_tables.proofs.Seen.{requests_so}
use Rattle.mux_tables.proofs.tables.Tables.requests_of.Goals as goal

pub returns : goal.returns
returns c = λ settings events s at st. requests_so settings c.args.self.now events c.args.g s c.args.e c.index.result.now c.in_ok-numbers.numbers.items at c.requires c.index.ensures c.in_ok-numbers.ensures st
