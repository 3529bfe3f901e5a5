-- It is none of those that were looked at.
use Rattle.std.proofs.Common.{◌≡◌, drop}
use Rattle.mux_turns.specs.Carried.{carried}
use Rattle.mux_turns.proofs.carried.get.Given as goal

abbrev pub invariant-loop-one : goal.invariant-loop-one
invariant-loop-one l = carried l.g l.list ≡ carried l.g (drop l.one-index l.list)
