-- Those before are pushed.
use Rattle.std.proofs.Common.{◌≡◌, ◌++◌}
use Rattle.std.specs.Map.{keys_of}
use Rattle.mux_tokens.proofs.created.all_starts.Given as goal

abbrev pub invariant-loop-s : goal.invariant-loop-s
invariant-loop-s l = l.all.items ++ l.s-iterator ≡ keys_of l.starts.entries
