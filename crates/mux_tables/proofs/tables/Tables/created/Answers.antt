-- All live tokens.
use Rattle.std.proofs.Common.{◌∙◌, ap}
use Rattle.std.proofs.lemmas.Result.{IfOk-weaker}
use Rattle.mux_tokens.specs.progress_route.specs.Tables.{all_of}
use Rattle.mux_tokens.specs.Rows.{table_of}
use Rattle.mux_tokens.proofs.Seen.{all_seen}
use Rattle.mux_tables.proofs.Creating.{number_is}
use Rattle.mux_tables.proofs.tables.Tables.created.Goals as goal

pub returns : goal.returns
returns c = λ settings events x at st. IfOk-weaker c.all.result _ _
    (λ all is. is ∙ (ap (λ n. all_of (table_of n c.args.self.now.origins.created)) (number_is c.args.self.now.lasts.items c.args.g x c.index.result.now c.start.result at c.requires c.index.ensures c.start.ensures) ∙ all_seen settings c.args.self.now.origins.created events st.created x.life.start))
    c.all.ensures
