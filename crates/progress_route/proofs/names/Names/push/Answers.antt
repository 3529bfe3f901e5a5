use Rattle.std.proofs.Common.{◌≡◌, ◌+◌, ℕ, List, ◌++◌, [], ◌∷◌, ◌∙◌, sym, ap, subst, rules}
use Rattle.number_index.specs.Numbers.{Changes, without_number}
use Rattle.progress_route.specs.Names.{IsKept, Numbered, Text, print_key}
use Rattle.progress_route.proofs.Numbering.{insert_last}
use Rattle.progress_route.proofs.Keeping.{kept_last, kept_undone}
use Rattle.progress_route.proofs.names.Names.push.Goals as goal

pub invariant_of-self-in-Ok : goal.invariant_of-self-in-Ok
invariant_of-self-in-Ok c =
    let grown : c.in-Some.next ≡ c.self.inside.next + 1 = search rules in
    subst (λ n. IsKept c.insert.new.self.entries n c.add_text.new.index) (sym grown)
    (subst (λ (rows : List (ℕ × Text)). IsKept rows (c.self.inside.next + 1) c.add_text.new.index) (sym c.in-Ok.ensures.entries)
    (kept_last c.self.inside.rows.entries c.self.inside.next c.self.inside.index c.self.invariant c.args.text c.add_text.new.index c.in_ok-add_text.ensures.ok))

pub returns-in-Ok-clause-rows : goal.returns-in-Ok-clause-rows
returns-in-Ok-clause-rows c = c.in-Ok.ensures.entries ∙ (insert_last c.args.text 1 c.self.inside.next c.self.inside.rows.entries c.self.invariant.rise ∙ ap (λ (t : Numbered). t.rows ++ (t.next, c.args.text) ∷ []) c.self.view_is)

pub invariant_of-self-in-Err : goal.invariant_of-self-in-Err
invariant_of-self-in-Err c =
    subst (λ (rows : List (ℕ × Text)). IsKept rows c.self.inside.next c.remove_text.new.index) (sym c.in-Err.ensures.err)
    (kept_undone c.self.inside.rows.entries c.self.inside.next c.self.inside.index c.self.invariant c.args.text c.add_text.new.index c.remove_text.new.index c.in_ok-add_text.ensures.ok
    (subst (λ (a : Text). Changes (print_key a) (without_number c.self.inside.next) c.add_text.new.index c.remove_text.new.index) (ap (λ p. p.1) c.in-Err.ensures.value_returned) c.remove_text.ensures))
