use Rattle.std.proofs.Common.{◌≡◌, ◌++◌}
use Rattle.numbered_rows.specs.Rows.{rows_among}
use Rattle.held_requests.specs.Tables.{ids_of, is_of}
use Rattle.held_requests.proofs.rows.all_ids.Given as goal

abbrev pub invariant-loop-number : goal.invariant-loop-number
invariant-loop-number l = l.ids.items ++ ids_of (rows_among (is_of l.editor) l.rows.entries l.number-iterator) ≡ ids_of (rows_among (is_of l.editor) l.rows.entries l.numbers.keys)
