use Rattle.std.proofs.Common.{◌≡◌, drop}
use Rattle.base_frame.specs.Machine.{front_from}
use Rattle.base_frame.proofs.front.front_at.Given as goal

abbrev pub invariant-loop-at : goal.invariant-loop-at
invariant-loop-at l = front_from l.limit l.at l.state (drop l.at l.bytes) ≡ front_from l.limit l.fn.place.at l.fn.place.state (drop l.fn.place.at l.bytes)
