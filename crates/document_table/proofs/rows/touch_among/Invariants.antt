use Rattle.std.proofs.Common.{◌≡◌}
use Rattle.document_table.specs.Numbered.{touch_rows}
use Rattle.document_table.specs.Shown.{all_numbered}
use Rattle.document_table.proofs.rows.touch_among.Given as goal

abbrev pub invariant-loop-number : goal.invariant-loop-number
invariant-loop-number g l = touch_rows l.turn (all_numbered g.T.Text.bytes l.rows.entries) l.number-iterator ≡ touch_rows l.turn (all_numbered g.T.Text.bytes l.initial.rows.entries) l.numbers.keys
