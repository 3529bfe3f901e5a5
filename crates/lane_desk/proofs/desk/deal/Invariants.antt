use Rattle.std.proofs.Common.{◌≡◌, ◌+◌, true, length}
use Rattle.lane_desk.specs.Desks.{Dealt, Pairwise}
use Rattle.lane_desk.specs.Places.{name}
use Rattle.lane_desk.proofs.desk.deal.Given as goal

abbrev pub invariant-loop-lane : goal.invariant-loop-lane
invariant-loop-lane g l = record {
  dealt : Pairwise (λ i. Dealt (name l.fn.counts.editors l.fn.counts.servers i) l.fn.orders.items l.lane-iterator.rest.items true) l.fn.ends.items l.ends.items;
  size : length l.ends.items ≡ l.fn.counts.editors + l.fn.counts.servers + 1;
}
