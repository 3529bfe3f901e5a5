-- Whether an editor accepted a token.
use Rattle.std.proofs.Common.{◌∙◌, ap}
use Rattle.mux_tokens.specs.progress_route.specs.Tables.{accepted_in, at}
use Rattle.mux_tokens.specs.Rows.{table_of}
use Rattle.mux_tokens.proofs.Seen.{accepted_seen}
use Rattle.mux_tables.proofs.Creating.{number_is}
use Rattle.mux_tables.proofs.tables.Tables.has_taken.Goals as goal

pub returns : goal.returns
returns c = λ settings events x here st.
    c.has_accepted.ensures ∙ (ap (λ n. accepted_in c.args.k (at c.args.e (table_of n c.args.self.now.origins.created).parts)) (number_is c.args.self.now.lasts.items c.args.g x c.index.result.now c.start.result here c.requires c.index.ensures c.start.ensures)
    ∙ accepted_seen settings c.args.self.now.origins.created events st.created x.life.start c.args.e c.args.k)
