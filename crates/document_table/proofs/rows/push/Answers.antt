use Rattle.std.proofs.Common.{◌∙◌, ap, subst, List, ℕ}
use Rattle.std.specs.Int.{to_be_bytes, w64}
use Rattle.number_index.specs.Numbers.{Changes, with_number, without_number}
use Rattle.document_table.specs.Shown.{all_numbered}
use Rattle.document_table.proofs.Keeping.{index_undone}
use Rattle.document_table.proofs.Mapping.{insert_shown}
use Rattle.document_table.proofs.rows.push.Goals as goal

pub returns-in-Ok-clause-rows : goal.returns-in-Ok-clause-rows
returns-in-Ok-clause-rows g c = ap (all_numbered g.T.Text.bytes) c.in-Ok.ensures.entries ∙ insert_shown g.T.Text.bytes c.args.rows.now.entries c.args.number c.args.opening

pub returns-clause-err_uris : goal.returns-clause-err_uris
returns-clause-err_uris g c = index_undone c.args.opening.uri.bytes.items c.args.number c.args.numbers.now.by_uri c.add.new.self.by_uri c.remove.new.self.by_uri c.requires.uris
    (subst (λ (u : List ℕ). Changes u (with_number c.args.number) c.args.numbers.now.by_uri c.add.new.self.by_uri) c.as_bytes.ensures.value c.in_ok-add.ensures.uris)
    (subst (λ (u : List ℕ). Changes u (without_number c.args.number) c.add.new.self.by_uri c.remove.new.self.by_uri) (c.as_bytes-in-Err.ensures.value ∙ ap (λ p. p.1.uri.bytes.items) c.in-Err.ensures.value_returned) c.remove.ensures.uris)

pub returns-clause-err_editors : goal.returns-clause-err_editors
returns-clause-err_editors g c = index_undone (to_be_bytes w64 c.args.opening.editor) c.args.number c.args.numbers.now.by_editor c.add.new.self.by_editor c.remove.new.self.by_editor c.requires.editors c.in_ok-add.ensures.editors
    (subst (λ (u : List ℕ). Changes u (without_number c.args.number) c.add.new.self.by_editor c.remove.new.self.by_editor) (ap (λ p. to_be_bytes w64 p.1.editor) c.in-Err.ensures.value_returned) c.remove.ensures.editors)
