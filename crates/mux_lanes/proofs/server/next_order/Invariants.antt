use Rattle.std.proofs.Common.{◌≡◌}
use Rattle.mux_lanes.proofs.server.next_order.Given as goal

abbrev pub invariant-loop : goal.invariant-loop
invariant-loop g l = record {
  queue : l.out.orders.queue ≡ l.initial.out.orders.queue;
  taken : l.out.orders.taken ≡ l.initial.out.orders.taken;
  sides : l.out.sides ≡ l.initial.out.sides;
}
