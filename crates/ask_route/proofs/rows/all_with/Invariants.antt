use Rattle.std.proofs.Common.{◌≡◌, ◌++◌}
use Rattle.ask_route.specs.Tables.{is_with}
use Rattle.ask_route.specs.Rows.{chosen}
use Rattle.ask_route.proofs.rows.all_with.Given as goal

abbrev pub invariant-loop-number : goal.invariant-loop-number
invariant-loop-number l = l.found.items ++ chosen (is_with l.holder) l.rows.entries l.number-iterator ≡ chosen (is_with l.holder) l.rows.entries l.numbers.keys
