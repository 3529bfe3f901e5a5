-- Those of a list leave.
use Rattle.std.proofs.Common.{◌∙◌, ap}
use Rattle.focus_switch.specs.Rows.{Step}
use Rattle.mux_tables.proofs.DocumentGroups.{left_next, left_whole}
use Rattle.mux_tables.proofs.documents.leave_each.Goals as goal

pub loop-e-preserved : goal.loop-e-preserved
loop-e-preserved c = ap (λ (w : Step). w.after) c.in_ok-leave.ensures ∙ left_next c.args.editors.now c.loop-e.e-index c.args.documents.now c.loop-e.documents c.loop-e-test.true c.loop-e.invariant

pub returns : goal.returns
returns c = c.loop-e.invariant ∙ left_whole c.args.editors.now c.loop-e.e-index c.args.documents.now c.loop-e-test.false
