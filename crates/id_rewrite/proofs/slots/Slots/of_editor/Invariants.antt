use Rattle.id_rewrite.proofs.Slotting.{NumbersTo}
use Rattle.id_rewrite.proofs.slots.Slots.of_editor.Given as goal

abbrev pub invariant-loop-slot : goal.invariant-loop-slot
invariant-loop-slot l = NumbersTo l.editor l.slot-items l.slot-index l.numbers.items
