use Rattle.std.proofs.Common.{◌-◌, ◌≤◌, length}
use Rattle.id_rewrite.proofs.Slotting.{AtLeast, Below}
use Rattle.id_rewrite.proofs.slots.place.Given as goal

abbrev pub invariant-loop-low : goal.invariant-loop-low
invariant-loop-low l = (l.low ≤ l.high) × (l.high ≤ length l.slots) × Below l.n l.slots l.low × AtLeast l.n l.slots l.high

abbrev pub decreases-loop-low : goal.decreases-loop-low
decreases-loop-low l = l.high - l.low
