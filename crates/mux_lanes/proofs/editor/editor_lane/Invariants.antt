use Rattle.lane_lists.specs.declared.item.Posted.TheVariants as posted
use Rattle.mux_lanes.specs.Lanes.{IsSameLane, RanSoFar, WholeLink, standing}
use Rattle.mux_lanes.proofs.editor.editor_lane.Given as goal

abbrev pub invariant-loop : goal.invariant-loop
invariant-loop g l = record {
  lane : IsSameLane l.initial.ends l.ends;
  ran : RanSoFar (WholeLink posted.Link l.fn.limit) (standing g.P.Port.sessions g.P.Port.links g.P.Port.faults l.initial.port l.initial.ends) (standing g.P.Port.sessions g.P.Port.links g.P.Port.faults l.port l.ends);
}
