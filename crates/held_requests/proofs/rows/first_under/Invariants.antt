use Rattle.std.proofs.Common.{◌≡◌}
use Rattle.numbered_rows.specs.Rows.{first_number}
use Rattle.held_requests.specs.Tables.{is_under}
use Rattle.held_requests.proofs.rows.first_under.Given as goal

abbrev pub invariant-loop-number : goal.invariant-loop-number
invariant-loop-number l = first_number (is_under l.editor l.id) l.rows.entries l.number-iterator ≡ first_number (is_under l.editor l.id) l.rows.entries l.numbers.keys
