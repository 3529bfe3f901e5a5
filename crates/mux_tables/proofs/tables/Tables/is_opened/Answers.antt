-- Whether a new editor sent `lspmux/open`.
use Rattle.mux_tables.proofs.Seen.{opened_so}
use Rattle.mux_tables.proofs.tables.Tables.is_opened.Goals as goal

pub returns : goal.returns
returns c = λ settings events st new. opened_so settings c.args.self.now events c.args.e st c.requires new c.is_opened.result c.is_opened.ensures
