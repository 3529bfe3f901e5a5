use Rattle.std.proofs.Common.{◌≤◌, length}
use Rattle.id_rewrite.proofs.Slotting.{LastWithin}
use Rattle.id_rewrite.proofs.slots.Slots.last_editor.Given as goal

abbrev pub invariant-loop-end : goal.invariant-loop-end
invariant-loop-end l = (l.end ≤ length l.self-inside.slots.items) × LastWithin l.among l.self-inside.slots.items l.end

abbrev pub decreases-loop-end : goal.decreases-loop-end
decreases-loop-end l = l.end
