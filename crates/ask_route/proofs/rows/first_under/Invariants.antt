use Rattle.std.proofs.Common.{◌≡◌}
use Rattle.ask_route.specs.Tables.{is_under}
use Rattle.ask_route.specs.Rows.{first_number}
use Rattle.ask_route.proofs.rows.first_under.Given as goal

abbrev pub invariant-loop-number : goal.invariant-loop-number
invariant-loop-number l = first_number (is_under l.id) l.rows.entries l.number-iterator ≡ first_number (is_under l.id) l.rows.entries l.numbers.keys
