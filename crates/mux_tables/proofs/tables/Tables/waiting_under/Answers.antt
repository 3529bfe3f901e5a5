-- One that waits under an id.
use Rattle.std.proofs.Common.{◌∙◌}
use Rattle.mux_waits.proofs.Unheld.{meant_found}
use Rattle.mux_tables.proofs.tables.Tables.waiting_under.Goals as goal

pub returns : goal.returns
returns c = λ settings events i text st. c.find.ensures ∙ meant_found settings c.args.self.now.origins.waiting c.args.g c.args.e events i c.args.id.now text st.waiting
