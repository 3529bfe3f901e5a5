-- What one editor was asked, and didn't answer.
use Rattle.std.proofs.Common.{◌∙◌}
use Rattle.std.proofs.lemmas.Result.{IfOk-weaker}
use Rattle.mux_tables.proofs.Ending.{asks_seen}
use Rattle.mux_tables.proofs.tables.Tables.open_asks.Goals as goal

pub returns : goal.returns
returns c = λ settings events x at ready st. IfOk-weaker c.numbers_of.result _ _
    (λ numbers is. is ∙ asks_seen settings c.args.self.now events c.args.g c.args.e x c.index.result.now at c.requires c.index.ensures ready st) c.numbers_of.ensures
