use Rattle.std.proofs.Common.{◌≡◌}
use Rattle.diagnostics_route.specs.Rows.{first_of}
use Rattle.diagnostics_route.proofs.lists.first_of.Given as goal

abbrev pub invariant-loop-number : goal.invariant-loop-number
invariant-loop-number l = first_of l.number-iterator ≡ first_of l.numbers.keys
