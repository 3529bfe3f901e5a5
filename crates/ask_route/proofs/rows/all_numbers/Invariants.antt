use Rattle.std.proofs.Common.{◌≡◌, ◌++◌}
use Rattle.ask_route.specs.Rows.{numbers_among}
use Rattle.ask_route.proofs.rows.all_numbers.Given as goal

abbrev pub invariant-loop-at : goal.invariant-loop-at
invariant-loop-at l = l.numbers.items ++ numbers_among l.editor l.rows.entries l.at-iterator ≡ numbers_among l.editor l.rows.entries l.among.keys
