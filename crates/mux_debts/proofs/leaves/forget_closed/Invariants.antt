-- The outs so far were said.
use Rattle.std.proofs.Common.{List, take}
use Rattle.event_model.specs.Event.{Event, behind}
use Rattle.event_model.specs.Settings.{Settings}
use Rattle.mux_debts.specs.Stands.{DebtsStand}
use Rattle.mux_debts.proofs.leaves.forget_closed.Given as goal

abbrev pub invariant-loop-out : goal.invariant-loop-out
invariant-loop-out l = (settings : Settings) (base : List Event) → DebtsStand settings l.initial.debts base → DebtsStand settings l.debts (behind base (take l.out-index l.out-items))
