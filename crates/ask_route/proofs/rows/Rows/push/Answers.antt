use Rattle.std.proofs.Common.{◌≡◌, ◌+◌, ℕ, List, ◌++◌, [], ◌∷◌, ◌∙◌, sym, ap, subst, rules}
use Rattle.number_index.specs.Numbers.{Changes, without_number}
use Rattle.ask_route.specs.declared.ask.Ask.{Ask}
use Rattle.ask_route.specs.Rows.{IsKept, Numbered, editor_key, id_key, number_key}
use Rattle.ask_route.proofs.Numbering.{insert_last}
use Rattle.ask_route.proofs.Keeping.{below, kept_last, kept_undone}
use Rattle.ask_route.proofs.rows.Rows.push.Goals as goal

pub add-requires-clause-ids : goal.add-requires-clause-ids
add-requires-clause-ids c = below id_key 0 c.self.inside.next c.self.inside.rows.entries c.self.inside.numbers.by_id (id_key c.args.ask) c.self.invariant.rise c.self.invariant.ids

pub add-requires-clause-numbers : goal.add-requires-clause-numbers
add-requires-clause-numbers c = below number_key 0 c.self.inside.next c.self.inside.rows.entries c.self.inside.numbers.by_number (number_key c.args.ask) c.self.invariant.rise c.self.invariant.numbers

pub invariant_of-self-in-Ok : goal.invariant_of-self-in-Ok
invariant_of-self-in-Ok c =
    let grown : c.in-Some.next ≡ c.self.inside.next + 1 = search rules in
    subst (λ n. IsKept c.insert.new.self.entries n c.add.new.self.by_id c.add.new.self.by_number c.add.new.self.by_editor) (sym grown)
    (subst (λ (rows : List (ℕ × Ask)). IsKept rows (c.self.inside.next + 1) c.add.new.self.by_id c.add.new.self.by_number c.add.new.self.by_editor) (sym c.in-Ok.ensures.entries)
    (kept_last c.self.inside.rows.entries c.self.inside.next c.self.inside.numbers.by_id c.self.inside.numbers.by_number c.self.inside.numbers.by_editor c.self.invariant c.args.ask c.add.new.self.by_id c.add.new.self.by_number c.add.new.self.by_editor
    c.in_ok-add.ensures.ids c.in_ok-add.ensures.numbers c.in_ok-add.ensures.editors))

pub returns-in-Ok-clause-ok : goal.returns-in-Ok-clause-ok
returns-in-Ok-clause-ok c = c.in-Ok.ensures.entries ∙ (insert_last c.args.ask 0 c.self.inside.next c.self.inside.rows.entries c.self.invariant.rise ∙ ap (λ (t : Numbered). t.rows ++ (t.next, c.args.ask) ∷ []) c.self.view_is)

pub invariant_of-self-in-Err : goal.invariant_of-self-in-Err
invariant_of-self-in-Err c =
    subst (λ (rows : List (ℕ × Ask)). IsKept rows c.self.inside.next c.remove.new.self.by_id c.remove.new.self.by_number c.remove.new.self.by_editor) (sym c.in-Err.ensures.err)
    (kept_undone c.self.inside.rows.entries c.self.inside.next c.self.inside.numbers.by_id c.self.inside.numbers.by_number c.self.inside.numbers.by_editor c.self.invariant c.args.ask c.add.new.self.by_id c.add.new.self.by_number c.add.new.self.by_editor c.remove.new.self.by_id c.remove.new.self.by_number c.remove.new.self.by_editor
    c.in_ok-add.ensures.ids c.in_ok-add.ensures.numbers c.in_ok-add.ensures.editors
    (subst (λ (a : Ask). Changes (id_key a) (without_number c.self.inside.next) c.add.new.self.by_id c.remove.new.self.by_id) (ap (λ p. p.1) c.in-Err.ensures.value_returned) c.remove.ensures.ids)
    (subst (λ (a : Ask). Changes (number_key a) (without_number c.self.inside.next) c.add.new.self.by_number c.remove.new.self.by_number) (ap (λ p. p.1) c.in-Err.ensures.value_returned) c.remove.ensures.numbers)
    (subst (λ (a : Ask). Changes (editor_key a) (without_number c.self.inside.next) c.add.new.self.by_editor c.remove.new.self.by_editor) (ap (λ p. p.1) c.in-Err.ensures.value_returned) c.remove.ensures.editors))

pub invariant_of-self-in-Err-2 : goal.invariant_of-self-in-Err-2
invariant_of-self-in-Err-2 c =
    subst (λ (rows : List (ℕ × Ask)). IsKept rows c.self.inside.next c.remove.new.self.by_id c.remove.new.self.by_number c.remove.new.self.by_editor) (sym c.in-Err.ensures.err)
    (kept_undone c.self.inside.rows.entries c.self.inside.next c.self.inside.numbers.by_id c.self.inside.numbers.by_number c.self.inside.numbers.by_editor c.self.invariant c.args.ask c.add.new.self.by_id c.add.new.self.by_number c.add.new.self.by_editor c.remove.new.self.by_id c.remove.new.self.by_number c.remove.new.self.by_editor
    c.in_ok-add.ensures.ids c.in_ok-add.ensures.numbers c.in_ok-add.ensures.editors
    (subst (λ (a : Ask). Changes (id_key a) (without_number c.self.inside.next) c.add.new.self.by_id c.remove.new.self.by_id) (ap (λ p. p.1) c.in-Err.ensures.value_returned) c.remove.ensures.ids)
    (subst (λ (a : Ask). Changes (number_key a) (without_number c.self.inside.next) c.add.new.self.by_number c.remove.new.self.by_number) (ap (λ p. p.1) c.in-Err.ensures.value_returned) c.remove.ensures.numbers)
    (subst (λ (a : Ask). Changes (editor_key a) (without_number c.self.inside.next) c.add.new.self.by_editor c.remove.new.self.by_editor) (ap (λ p. p.1) c.in-Err.ensures.value_returned) c.remove.ensures.editors))
