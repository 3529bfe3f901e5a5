-- The editors of the requests so far.
use Rattle.id_rewrite.proofs.Slotting.{EditorsTo}
use Rattle.id_rewrite.proofs.slots.Slots.editors.Given as goal

abbrev pub invariant-loop-slot : goal.invariant-loop-slot
invariant-loop-slot l = EditorsTo l.slot-items l.slot-index l.editors.items
