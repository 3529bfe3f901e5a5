use Rattle.std.proofs.Common.{◌≡◌, ◌++◌}
use Rattle.mux_slow.specs.Told.{told_in}
use Rattle.mux_slow.proofs.told.told_in.Given as goal

abbrev pub invariant-loop-e : goal.invariant-loop-e
invariant-loop-e l = l.numbers.items ++ l.e-iterator ≡ told_in l.outs
