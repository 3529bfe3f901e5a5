use Rattle.mux_lanes.specs.Lanes.{IsSameLane, RanSoFar, standing}
use Rattle.mux_lanes.specs.Starts.{Begun, WholeStart}
use Rattle.mux_lanes.proofs.server.server_lane.Given as goal

abbrev pub invariant-loop : goal.invariant-loop
invariant-loop g l = record {
  lane : IsSameLane l.initial.ends l.ends;
  ran : RanSoFar (Begun (WholeStart l.fn.limit)) (standing g.B.Berth.runs g.B.Berth.left g.B.Berth.faults l.initial.berth l.initial.ends) (standing g.B.Berth.runs g.B.Berth.left g.B.Berth.faults l.berth l.ends);
}
