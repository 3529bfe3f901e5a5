use Rattle.std.proofs.Common.{◌≡◌, fold}
use Rattle.lane_lists.specs.Seats.{give_out}
use Rattle.lane_desk.specs.Givens.{with_orders}
use Rattle.lane_desk.proofs.given.give_outs.Given as goal

abbrev pub invariant-loop-out : goal.invariant-loop-out
invariant-loop-out l = fold give_out (with_orders l.orders.items l.seats) l.out-iterator.rest.items ≡ fold give_out (with_orders l.fn.orders.items l.fn.seats) l.fn.outs
