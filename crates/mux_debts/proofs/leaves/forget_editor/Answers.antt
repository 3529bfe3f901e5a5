-- An editor's link ended.
use Rattle.std.proofs.Common.{subst, sym}
use Rattle.mux_history.specs.declared.cause.Cause.TheVariants.{EditorGone}
use Rattle.event_model.specs.Event.{with_cause}
use Rattle.mux_debts.specs.Stands.{DebtsStand}
use Rattle.mux_debts.proofs.Standing.{left_stands}
use Rattle.mux_debts.proofs.leaves.forget_editor.Goals as goal

pub returns : goal.returns
returns c = λ settings events why st. subst (λ rows. DebtsStand settings rows (with_cause events (EditorGone c.args.e why))) (sym c.leave.ensures) (left_stands settings c.args.debts.now events st c.args.e why)
