use Rattle.std.proofs.Common.{◌∙◌, ◌≡◌, ℕ, List, ap, sym, subst}
use Rattle.std.specs.Ordering.{nat_cmp}
use Rattle.std.specs.BTreeMap.{is_at}
use Rattle.std.specs.Map.{values_of}
use Rattle.document_model.specs.Opens.{Open, drop_open}
use Rattle.document_table.specs.Numbered.{Kept}
use Rattle.document_table.specs.Shown.{all_numbered}
use Rattle.document_table.proofs.Mapping.{remove_shown}
use Rattle.document_table.proofs.Standing.{number_found, drop_is, drop_not, kept_drop}
use Rattle.document_table.proofs.opens.Opens.remove.Goals as goal

pub returns-in_default : goal.returns-in_default
returns-in_default g c =
    let rows = all_numbered g.T.Text.bytes c.self.inside.rows.entries in
    sym c.self.view_is ∙ (drop_not rows c.self.inside.next c.self.inside.numbers.by_uri c.self.inside.numbers.by_editor c.self.invariant c.args.editor c.args.uri.now
    (sym (number_found rows c.self.inside.next c.self.inside.numbers.by_uri c.self.inside.numbers.by_editor c.self.invariant c.args.editor c.args.uri.now) ∙ sym c.in_default.ensures)
    ∙ ap (drop_open c.args.editor c.args.uri.now) c.self.view_is)

pub invariant_of-self : goal.invariant_of-self
invariant_of-self g c =
    let rows = all_numbered g.T.Text.bytes c.self.inside.rows.entries in
    let some = sym (number_found rows c.self.inside.next c.self.inside.numbers.by_uri c.self.inside.numbers.by_editor c.self.invariant c.args.editor c.args.uri.now) ∙ sym c.in-Some.ensures in
    let is = ap (all_numbered g.T.Text.bytes) c.remove-gone.ensures.entries ∙ remove_shown g.T.Text.bytes (is_at (nat_cmp c.in-Some.number)) c.self.inside.rows.entries in
    subst (λ (rs : List (ℕ × Open)). Kept rs c.self.inside.next c.remove.new.self.by_uri c.remove.new.self.by_editor) (sym is)
    (kept_drop rows c.self.inside.next c.self.inside.numbers.by_uri c.self.inside.numbers.by_editor c.self.invariant c.args.editor c.args.uri.now c.in-Some.number c.remove.new.self.by_uri c.remove.new.self.by_editor some c.remove.ensures.uris c.remove.ensures.editors)

pub returns : goal.returns
returns g c =
    let rows = all_numbered g.T.Text.bytes c.self.inside.rows.entries in
    let some = sym (number_found rows c.self.inside.next c.self.inside.numbers.by_uri c.self.inside.numbers.by_editor c.self.invariant c.args.editor c.args.uri.now) ∙ sym c.in-Some.ensures in
    ap values_of (ap (all_numbered g.T.Text.bytes) c.remove-gone.ensures.entries ∙ remove_shown g.T.Text.bytes (is_at (nat_cmp c.in-Some.number)) c.self.inside.rows.entries)
    ∙ (drop_is rows c.self.inside.next c.self.inside.numbers.by_uri c.self.inside.numbers.by_editor c.self.invariant c.args.editor c.args.uri.now c.in-Some.number some ∙ ap (drop_open c.args.editor c.args.uri.now) c.self.view_is)
