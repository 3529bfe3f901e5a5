use Rattle.std.proofs.Common.{◌≡◌, ◌+◌, length}
use Rattle.lane_lists.specs.Deeds.{begin_all}
use Rattle.lane_desk.specs.Givens.{with_orders}
use Rattle.lane_desk.proofs.given.begin_all.Given as goal

abbrev pub invariant-loop : goal.invariant-loop
invariant-loop l = record {
  same : begin_all (with_orders l.orders.items l.seats) ≡ begin_all (with_orders l.fn.orders.items l.fn.seats);
  left : length l.seats.waiting + l.counter ≡ l.count;
}
