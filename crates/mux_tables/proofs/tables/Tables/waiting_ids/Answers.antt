-- The ids of those that wait.
use Rattle.std.proofs.Common.{◌∙◌, ap}
use Rattle.std.proofs.lemmas.Result.{IfOk-weaker}
use Rattle.mux_waits.specs.held_requests.specs.Tables.{ids_of, of_editor}
use Rattle.mux_tables.proofs.tables.Tables.waiting_ids.Goals as goal

pub returns : goal.returns
returns c = λ settings events st. IfOk-weaker c.ids_of.result _ _ (λ ids h. h ∙ ap (λ rs. ids_of (of_editor c.args.e rs)) (st.waiting c.args.g).same) c.ids_of.ensures
