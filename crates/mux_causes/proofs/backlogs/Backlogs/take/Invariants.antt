use Rattle.std.proofs.Common.{List, take}
use Rattle.event_model.specs.Event.{Event, behind}
use Rattle.mux_causes.specs.Backlogs.{BacklogsStand}
use Rattle.mux_causes.proofs.backlogs.Backlogs.take.Given as goal

abbrev pub invariant-loop-out : goal.invariant-loop-out
invariant-loop-out l = (base : List Event) → BacklogsStand l.initial.self base → BacklogsStand l.self (behind base (take l.out-index l.out-items))
