use Rattle.std.proofs.Common.{length, ◌-◌}
use Rattle.base_frame.specs.Machine.{IsAt}
use Rattle.base_frame.proofs.front.advance.Given as goal

abbrev pub invariant-loop-at : goal.invariant-loop-at
invariant-loop-at l = IsAt l.limit l.at l.state l.bytes

abbrev pub decreases-loop-at : goal.decreases-loop-at
decreases-loop-at l = length l.bytes - l.at
