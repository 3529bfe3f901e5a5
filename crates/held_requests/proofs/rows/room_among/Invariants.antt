use Rattle.std.proofs.Common.{◌≡◌}
use Rattle.numbered_rows.specs.Rows.{rows_among}
use Rattle.held_requests.specs.Tables.{bytes_most, is_of, requests_most}
use Rattle.held_requests.specs.Rows.{has_room}
use Rattle.held_requests.proofs.rows.room_among.Given as goal

abbrev pub invariant-loop-number : goal.invariant-loop-number
invariant-loop-number l = has_room l.bytes l.count l.left (rows_among (is_of l.editor) l.rows.entries l.number-iterator) ≡ has_room l.bytes requests_most bytes_most (rows_among (is_of l.editor) l.rows.entries l.numbers.keys)
