-- Those so far.
use Rattle.std.proofs.Common.{◌≡◌, take}
use Rattle.mux_starts.proofs.registered.copies.Given as goal

abbrev pub invariant-loop-item : goal.invariant-loop-item
invariant-loop-item l = l.all.items ≡ take l.item-index l.items
