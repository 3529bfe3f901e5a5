use Rattle.std.proofs.Common.{◌≡◌, ◌++◌, drop}
use Rattle.std.specs.Prelude.{not}
use Rattle.diagnostics_route.specs.Lists.{nonempty}
use Rattle.diagnostics_route.specs.Rows.{numbers_from}
use Rattle.diagnostics_route.proofs.lists.nonempty_in.Given as goal

abbrev pub invariant-loop-number : goal.invariant-loop-number
invariant-loop-number l = l.numbers.items ++ numbers_from l.number (λ x. not x.empty) (drop l.number l.lists) ≡ nonempty l.lists
