use Rattle.std.proofs.Common.{◌≡◌}
use Rattle.ask_route.specs.Tables.{is_seated}
use Rattle.ask_route.specs.Rows.{first_number}
use Rattle.ask_route.proofs.rows.first_seated.Given as goal

abbrev pub invariant-loop-at : goal.invariant-loop-at
invariant-loop-at l = first_number (is_seated l.editor l.number) l.rows.entries l.at-iterator ≡ first_number (is_seated l.editor l.number) l.rows.entries l.numbers.keys
