use Rattle.std.proofs.Common.{◌≡◌}
use Rattle.mux_lanes.specs.Ticks.{TickedSoFar}
use Rattle.mux_lanes.proofs.ticker.ticker_lane.Given as goal

abbrev pub invariant-loop : goal.invariant-loop
invariant-loop g l = record {
  queue : l.inn.queue ≡ l.initial.inn.queue;
  ticked : TickedSoFar (g.C.Clock.given l.initial.clock) (g.C.Clock.given l.clock) (g.C.Clock.left l.initial.clock) (g.C.Clock.left l.clock) l.initial.inn.pushed l.inn.pushed;
}
