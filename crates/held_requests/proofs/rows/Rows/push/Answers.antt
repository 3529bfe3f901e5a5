use Rattle.std.proofs.Common.{◌≡◌, ◌+◌, ℕ, List, ◌++◌, [], ◌∷◌, ◌∙◌, sym, ap, subst, rules}
use Rattle.held_requests.specs.declared.request.Request.{Request}
use Rattle.held_requests.specs.Rows.{IsKept, Numbered}
use Rattle.numbered_rows.proofs.Numbering.{insert_last}
use Rattle.held_requests.proofs.Keeping.{kept_last, kept_undone}
use Rattle.held_requests.proofs.rows.Rows.push.Goals as goal

pub invariant_of-self-in-Ok : goal.invariant_of-self-in-Ok
invariant_of-self-in-Ok c =
    let grown : c.in-Some.next ≡ c.self.inside.next + 1 = search rules in
    subst (λ n. IsKept c.insert.new.self.entries n c.add.new.index) (sym grown)
    (subst (λ (rows : List (ℕ × Request)). IsKept rows (c.self.inside.next + 1) c.add.new.index) (sym c.in-Ok.ensures.entries)
    (kept_last c.self.inside.rows.entries c.self.inside.next c.self.inside.editors c.self.invariant c.args.request c.add.new.index c.in_ok-add.ensures.ok))

pub returns-in-Ok-clause-ok : goal.returns-in-Ok-clause-ok
returns-in-Ok-clause-ok c = c.in-Ok.ensures.entries ∙ (insert_last c.args.request 0 c.self.inside.next c.self.inside.rows.entries c.self.invariant.rise ∙ ap (λ (t : Numbered). t.rows ++ (t.next, c.args.request) ∷ []) c.self.view_is)

pub invariant_of-self-in-Err : goal.invariant_of-self-in-Err
invariant_of-self-in-Err c =
    subst (λ (rows : List (ℕ × Request)). IsKept rows c.self.inside.next c.remove.new.index) (sym c.in-Err.ensures.err)
    (kept_undone c.self.inside.rows.entries c.self.inside.next c.self.inside.editors c.self.invariant c.args.request c.add.new.index c.remove.new.index c.in_ok-add.ensures.ok c.remove.ensures)
