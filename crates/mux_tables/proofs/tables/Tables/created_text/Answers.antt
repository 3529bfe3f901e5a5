-- The text of a live token.
use Rattle.std.proofs.Common.{◌∙◌, ap}
use Rattle.mux_tokens.specs.progress_route.specs.Tables.{at}
use Rattle.mux_tokens.specs.Rows.{table_of}
use Rattle.mux_tokens.proofs.Seen.{text_seen}
use Rattle.mux_tables.proofs.Creating.{number_is}
use Rattle.mux_tables.proofs.tables.Tables.created_text.Goals as goal

pub returns : goal.returns
returns c = λ settings events x here st.
    c.text_of.ensures ∙ (ap (λ n. at c.args.k (table_of n c.args.self.now.origins.created).names) (number_is c.args.self.now.lasts.items c.args.g x c.index.result.now c.start.result here c.requires c.index.ensures c.start.ensures)
    ∙ text_seen settings c.args.self.now.origins.created events st.created x.life.start c.args.k)
