-- A start's program ended, or couldn't be run.
use Rattle.std.proofs.Common.{subst, sym}
use Rattle.mux_history.specs.declared.cause.Cause.TheVariants.{ServerGone, StartFailed}
use Rattle.event_model.specs.Event.{with_cause}
use Rattle.mux_debts.specs.Stands.{DebtsStand}
use Rattle.mux_debts.proofs.Standing.{failed_stands, gone_stands}
use Rattle.mux_debts.proofs.leaves.forget_start.Goals as goal

pub returns : goal.returns
returns c = record {
  gone = λ settings events st. subst (λ rows. DebtsStand settings rows (with_cause events (ServerGone c.args.s))) (sym c.over.ensures) (gone_stands settings c.args.debts.now events st c.args.s);
  failed = λ settings events st. subst (λ rows. DebtsStand settings rows (with_cause events (StartFailed c.args.s))) (sym c.over.ensures) (failed_stands settings c.args.debts.now events st c.args.s);
}
