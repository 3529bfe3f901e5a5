use Rattle.std.proofs.Common.{◌≡◌, nat_eq}
use Rattle.document_model.specs.Opens.{Open}
use Rattle.document_table.specs.Numbered.{first_number}
use Rattle.document_table.specs.Shown.{all_numbered}
use Rattle.document_table.proofs.rows.number_among.Given as goal

abbrev pub invariant-loop-number : goal.invariant-loop-number
invariant-loop-number g l = first_number (λ (o : Open). nat_eq o.editor l.editor) (all_numbered g.T.Text.bytes l.rows.entries) l.number-iterator ≡ first_number (λ (o : Open). nat_eq o.editor l.editor) (all_numbered g.T.Text.bytes l.rows.entries) l.numbers.keys
