-- What editors are shown of a result.
use Rattle.std.proofs.Common.{◌∙◌}
use Rattle.mux_tables.proofs.Homes.{shown_at}
use Rattle.mux_tables.proofs.tables.Tables.shown.Goals as goal

pub returns : goal.returns
returns c = λ settings events s at st ready.
    let kept = shown_at settings c.args.self.now events c.args.g s c.index.result.now at c.requires c.index.ensures st ready in
    (kept.0, kept.1, c.as_ref.ensures.value ∙ kept.2)
