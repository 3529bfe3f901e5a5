-- The first that waits.
use Rattle.std.proofs.Common.{◌∙◌, ap}
use Rattle.std.specs.Prelude.{slice_get}
use Rattle.mux_tables.proofs.tables.Tables.first_waiting.Goals as goal

pub returns-clause-stands : goal.returns-clause-stands
returns-clause-stands c = λ settings events st. c.first.ensures ∙ ap (λ rs. slice_get rs 0) (st.waiting c.args.g).same
