use Rattle.std.proofs.Common.{◌≡◌, replicate}
use Rattle.lane_lists.specs.Seats.{free_seat}
use Rattle.lane_desk.proofs.seats.free_seats.Given as goal

abbrev pub invariant-loop : goal.invariant-loop
invariant-loop l = l.seats.items ≡ replicate l.counter free_seat
