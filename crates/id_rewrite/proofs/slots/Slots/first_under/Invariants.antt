use Rattle.id_rewrite.proofs.Slotting.{UnderFrom}
use Rattle.id_rewrite.proofs.slots.Slots.first_under.Given as goal

abbrev pub invariant-loop-slot : goal.invariant-loop-slot
invariant-loop-slot l = UnderFrom l.editor l.id l.slot-items l.slot-index
