use Rattle.std.proofs.Common.{◌≡◌, ◌++◌}
use Rattle.std.specs.Prelude.{is_some, map}
use Rattle.progress_route.specs.Tables.{all_in, at}
use Rattle.progress_route.proofs.tokens.all_in.Given as goal

abbrev pub invariant-loop-number : goal.invariant-loop-number
invariant-loop-number l = l.all.items ++ map (λ n. (n, is_some (at n l.begins.entries))) l.number-iterator ≡ all_in l.names.entries l.begins.entries
