use Rattle.std.proofs.Common.{◌∙◌, ℕ, List, ap, sym, subst, map}
use Rattle.std.specs.Map.{values_of}
use Rattle.document_model.specs.Opens.{Open}
use Rattle.document_table.specs.Numbered.{Kept}
use Rattle.document_table.specs.Rows.{touched_at}
use Rattle.document_table.specs.Shown.{all_numbered}
use Rattle.document_table.proofs.Standing.{touched_is, kept_touched}
use Rattle.document_table.proofs.opens.Opens.touch_all.Goals as goal

pub invariant_of-self : goal.invariant_of-self
invariant_of-self g c =
    subst (λ (rs : List (ℕ × Open)). Kept rs c.self.inside.next c.self.inside.numbers.by_uri c.self.inside.numbers.by_editor) (sym c.touch_under.ensures)
    (kept_touched (all_numbered g.T.Text.bytes c.self.inside.rows.entries) c.self.inside.next c.self.inside.numbers.by_uri c.self.inside.numbers.by_editor c.self.invariant c.args.editor c.args.turn c.ranges.editor.fits)

pub returns : goal.returns
returns g c =
    ap values_of c.touch_under.ensures ∙ (touched_is (all_numbered g.T.Text.bytes c.self.inside.rows.entries) c.self.inside.next c.self.inside.numbers.by_uri c.self.inside.numbers.by_editor c.self.invariant c.args.editor c.args.turn c.ranges.editor.fits
    ∙ ap (map (touched_at c.args.editor c.args.turn)) c.self.view_is)
