-- Those before are cancelled.
use Rattle.std.proofs.Common.{◌≡◌, ◌++◌, take}
use Rattle.mux_exits.specs.Losses.{cancelled}
use Rattle.mux_exits.proofs.losses.cancel_each.Given as goal

abbrev pub invariant-loop-n : goal.invariant-loop-n
invariant-loop-n l = l.losses.items ≡ l.initial.losses.items ++ cancelled l.e (take l.n-index l.numbers)
