-- Those before end.
use Rattle.std.proofs.Common.{◌≡◌, ◌++◌, take}
use Rattle.mux_exits.specs.Losses.{ended}
use Rattle.mux_exits.proofs.losses.end_each.Given as goal

abbrev pub invariant-loop-k : goal.invariant-loop-k
invariant-loop-k l = l.losses.items ≡ l.initial.losses.items ++ ended l.s l.e (take l.k-index l.tokens)
