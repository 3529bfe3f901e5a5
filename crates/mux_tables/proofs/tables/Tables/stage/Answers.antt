-- Where the last start stands.
use Rattle.std.proofs.Common.{sym, ◌∙◌}
use Rattle.mux_tables.proofs.Homes.{stage_at}
use Rattle.mux_tables.proofs.tables.Tables.stage.Goals as goal

pub returns : goal.returns
returns c = λ settings events s at st. c.stage.ensures.stage ∙ sym (stage_at settings c.args.self.now events c.args.g s c.index.result.now at c.requires c.index.ensures st)
