use Rattle.std.proofs.Common.{◌∙◌, ◌≡◌, ◌+◌, ℕ, List, ap, sym, subst, arith, rules}
use Rattle.std.specs.Prelude.{Some, None}
use Rattle.std.specs.Int.{to_be_bytes, w64}
use Rattle.std.specs.Map.{values_of}
use Rattle.document_model.specs.Opens.{Open, is_open_at, put_open}
use Rattle.document_table.specs.Numbered.{Kept}
use Rattle.document_table.specs.Shown.{shown, all_numbered}
use Rattle.document_table.proofs.Numbering.{first_with}
use Rattle.document_table.proofs.Standing.{number_found, put_is, kept_put, last_is, kept_last, uris_below, editors_below}
use Rattle.document_table.proofs.opens.Opens.put.Goals as goal

pub invariant_of-self : goal.invariant_of-self
invariant_of-self g c =
    let rows = all_numbered g.T.Text.bytes c.self.inside.rows.entries in
    let some = subst (λ (u : List ℕ). first_with (is_open_at c.args.opening.editor u) rows ≡ Some c.in-Some.number) c.as_bytes.ensures.value
    (sym (number_found rows c.self.inside.next c.self.inside.numbers.by_uri c.self.inside.numbers.by_editor c.self.invariant c.args.opening.editor c.as_bytes.result.now) ∙ sym c.in-Some.ensures) in
    subst (λ (rs : List (ℕ × Open)). Kept rs c.self.inside.next c.self.inside.numbers.by_uri c.self.inside.numbers.by_editor) (sym c.replace.ensures)
    (kept_put rows c.self.inside.next c.self.inside.numbers.by_uri c.self.inside.numbers.by_editor c.self.invariant (shown g.T.Text.bytes c.args.opening) c.fits.ensures c.in-Some.number some)

pub returns-in-Some : goal.returns-in-Some
returns-in-Some g c =
    let rows = all_numbered g.T.Text.bytes c.self.inside.rows.entries in
    let some = subst (λ (u : List ℕ). first_with (is_open_at c.args.opening.editor u) rows ≡ Some c.in-Some.number) c.as_bytes.ensures.value
    (sym (number_found rows c.self.inside.next c.self.inside.numbers.by_uri c.self.inside.numbers.by_editor c.self.invariant c.args.opening.editor c.as_bytes.result.now) ∙ sym c.in-Some.ensures) in
    ap values_of c.replace.ensures ∙ (put_is rows c.self.inside.next c.self.inside.numbers.by_uri c.self.inside.numbers.by_editor c.self.invariant (shown g.T.Text.bytes c.args.opening) c.fits.ensures c.in-Some.number some
    ∙ ap (put_open (shown g.T.Text.bytes c.args.opening)) c.self.view_is)

pub push-requires-clause-uris : goal.push-requires-clause-uris
push-requires-clause-uris g c = uris_below (all_numbered g.T.Text.bytes c.self.inside.rows.entries) c.self.inside.next c.self.inside.numbers.by_uri c.self.inside.numbers.by_editor c.self.invariant c.args.opening.uri.bytes.items

pub push-requires-clause-editors : goal.push-requires-clause-editors
push-requires-clause-editors g c = editors_below (all_numbered g.T.Text.bytes c.self.inside.rows.entries) c.self.inside.next c.self.inside.numbers.by_uri c.self.inside.numbers.by_editor c.self.invariant (to_be_bytes w64 c.args.opening.editor)

pub invariant_of-self-2 : goal.invariant_of-self-2
invariant_of-self-2 g c =
    let rows = all_numbered g.T.Text.bytes c.self.inside.rows.entries in
    let none = subst (λ (u : List ℕ). first_with (is_open_at c.args.opening.editor u) rows ≡ None) c.as_bytes.ensures.value
    (sym (number_found rows c.self.inside.next c.self.inside.numbers.by_uri c.self.inside.numbers.by_editor c.self.invariant c.args.opening.editor c.as_bytes.result.now) ∙ sym c.in_default.ensures) in
    let grown : c.in-Some-checked_add.next ≡ c.self.inside.next + 1 = search rules in
    subst (λ n. Kept (all_numbered g.T.Text.bytes c.push.new.rows.entries) n c.push.new.numbers.by_uri c.push.new.numbers.by_editor) (sym grown)
    (subst (λ (rs : List (ℕ × Open)). Kept rs (c.self.inside.next + 1) c.push.new.numbers.by_uri c.push.new.numbers.by_editor) (sym c.in_ok-push.ensures.rows)
    (kept_last rows c.self.inside.next c.self.inside.numbers.by_uri c.self.inside.numbers.by_editor c.self.invariant (shown g.T.Text.bytes c.args.opening) c.fits.ensures c.push.new.numbers.by_uri c.push.new.numbers.by_editor none c.in_ok-push.ensures.uris c.in_ok-push.ensures.editors))

pub returns : goal.returns
returns g c =
    let rows = all_numbered g.T.Text.bytes c.self.inside.rows.entries in
    let none = subst (λ (u : List ℕ). first_with (is_open_at c.args.opening.editor u) rows ≡ None) c.as_bytes.ensures.value
    (sym (number_found rows c.self.inside.next c.self.inside.numbers.by_uri c.self.inside.numbers.by_editor c.self.invariant c.args.opening.editor c.as_bytes.result.now) ∙ sym c.in_default.ensures) in
    ap values_of c.in_ok-push.ensures.rows ∙ (last_is rows c.self.inside.next c.self.inside.numbers.by_uri c.self.inside.numbers.by_editor c.self.invariant (shown g.T.Text.bytes c.args.opening) c.fits.ensures none
    ∙ ap (put_open (shown g.T.Text.bytes c.args.opening)) c.self.view_is)
