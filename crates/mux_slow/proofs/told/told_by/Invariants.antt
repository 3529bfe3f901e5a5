use Rattle.std.proofs.Common.{◌≡◌, take}
use Rattle.mux_slow.specs.Told.{told_in}
use Rattle.mux_slow.proofs.told.told_by.Given as goal

abbrev pub invariant-loop-out : goal.invariant-loop-out
invariant-loop-out l = l.told.keys ≡ told_in (take l.out-index l.out-items)
