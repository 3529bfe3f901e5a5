use Rattle.std.proofs.Common.{◌≤◌}
use Rattle.mux_client.specs.Firsts.{FirstSoFar}
use Rattle.mux_client.proofs.exchange.take_frame.Given as goal

abbrev pub invariant-loop : goal.invariant-loop
invariant-loop g l = record {
  first : FirstSoFar l.limit l.reader (g.S.Source.taken l.initial.source) (g.S.Source.taken l.source) (g.S.Source.left l.initial.source) (g.S.Source.left l.source);
  later : g.S.Source.faults l.initial.source ≤ g.S.Source.faults l.source;
}
