-- The number of a live token.
use Rattle.std.proofs.Common.{◌∙◌, ap}
use Rattle.mux_tokens.specs.progress_route.specs.Tables.{number_in}
use Rattle.mux_tokens.specs.Rows.{table_of}
use Rattle.mux_tokens.proofs.Seen.{number_seen}
use Rattle.mux_tables.proofs.Creating.{number_is}
use Rattle.mux_tables.proofs.tables.Tables.created_as.Goals as goal

pub returns : goal.returns
returns c = λ settings events x i at text st.
    c.number_of.ensures ∙ (ap (λ n. number_in c.args.token.now (table_of n c.args.self.now.origins.created).names) (number_is c.args.self.now.lasts.items c.args.g x c.index.result.now c.start.result at c.requires c.index.ensures c.start.ensures)
    ∙ number_seen settings c.args.self.now.origins.created events st.created x.life.start i c.args.token.now text)
