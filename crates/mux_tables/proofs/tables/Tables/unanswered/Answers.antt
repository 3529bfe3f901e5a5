-- What an editor was asked to take, and didn't answer.
use Rattle.std.proofs.Common.{◌∙◌, ap}
use Rattle.std.proofs.lemmas.Result.{IfOk-weaker}
use Rattle.mux_tokens.specs.progress_route.specs.Tables.{at, numbers_in}
use Rattle.mux_tokens.specs.Rows.{table_of}
use Rattle.mux_tokens.proofs.Ending.{unanswered_seen}
use Rattle.mux_tables.proofs.Creating.{number_is}
use Rattle.mux_tables.proofs.tables.Tables.unanswered.Goals as goal

pub returns : goal.returns
returns c = λ settings events x here st. IfOk-weaker c.unanswered.result _ _
    (λ numbers is. is ∙ (ap (λ n. numbers_in (at c.args.e (table_of n c.args.self.now.origins.created).parts)) (number_is c.args.self.now.lasts.items c.args.g x c.index.result.now c.start.result here c.requires c.index.ensures c.start.ensures)
    ∙ unanswered_seen settings c.args.self.now.origins.created events st.created x.life.start c.args.e))
    c.unanswered.ensures
