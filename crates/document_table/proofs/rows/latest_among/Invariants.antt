use Rattle.std.proofs.Common.{◌≡◌, option_map, fold}
use Rattle.std.specs.Prelude.{if◌then◌else◌}
use Rattle.document_model.specs.Opens.{later, latest}
use Rattle.document_table.specs.Numbered.{is_beside, rows_at}
use Rattle.document_table.specs.Shown.{shown, all_numbered}
use Rattle.document_table.proofs.rows.latest_among.Given as goal

abbrev pub invariant-loop-number : goal.invariant-loop-number
invariant-loop-number g l = fold (λ best o. if is_beside l.beside o then later o best else best) (option_map (λ o. shown g.T.Text.bytes o.now) l.best) (rows_at (all_numbered g.T.Text.bytes l.rows.entries) l.number-iterator)
    ≡ latest (is_beside l.beside) (rows_at (all_numbered g.T.Text.bytes l.rows.entries) l.numbers.keys)
