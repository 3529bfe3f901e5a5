-- What began at an editor.
use Rattle.std.proofs.Common.{◌∙◌, ap}
use Rattle.std.proofs.lemmas.Result.{IfOk-weaker}
use Rattle.mux_tokens.specs.progress_route.specs.Tables.{begun_at}
use Rattle.mux_tokens.specs.Rows.{table_of}
use Rattle.mux_tokens.proofs.Ending.{begun_seen}
use Rattle.mux_tables.proofs.Creating.{number_is}
use Rattle.mux_tables.proofs.tables.Tables.begun.Goals as goal

pub returns : goal.returns
returns c = λ settings events x at st. IfOk-weaker c.begun.result _ _
    (λ found is. is ∙ (ap (λ n. begun_at c.args.e (table_of n c.args.self.now.origins.created)) (number_is c.args.self.now.lasts.items c.args.g x c.index.result.now c.start.result at c.requires c.index.ensures c.start.ensures)
    ∙ begun_seen settings c.args.self.now.origins.created events st.created x.life.start c.args.e))
    c.begun.ensures
