use Rattle.std.proofs.Common.{◌≡◌, ◌++◌, map}
use Rattle.document_model.specs.Opens.{Open}
use Rattle.document_table.specs.Numbered.{rows_at}
use Rattle.document_table.specs.Shown.{all_bytes, all_numbered}
use Rattle.document_table.proofs.rows.uris_among.Given as goal

abbrev pub invariant-loop-number : goal.invariant-loop-number
invariant-loop-number g l = all_bytes l.uris.items ++ map (λ (o : Open). o.uri) (rows_at (all_numbered g.T.Text.bytes l.rows.entries) l.number-iterator) ≡ map (λ (o : Open). o.uri) (rows_at (all_numbered g.T.Text.bytes l.rows.entries) l.numbers.keys)
