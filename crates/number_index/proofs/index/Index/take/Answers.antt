use Rattle.std.proofs.Common.{◌∙◌, ap, refl, rules}
use Rattle.std.specs.Prelude.{Some, None}
use Rattle.number_index.specs.Numbers.{without_number}
use Rattle.number_index.proofs.Keys.{found, changed, left, left_none, set_other, no_keys}
use Rattle.number_index.proofs.index.Index.take.Goals as goal

pub returns-in_default-clause-taken : goal.returns-in_default-clause-taken
returns-in_default-clause-taken c =
    left_none c.args.key.now c.args.self.now c.self.inside.table.entries c.self.view_is c.get_mut.follows.lender-at-none.entries (without_number c.args.number) (ap (λ m. m.entries) c.get_mut.follows.holds-at-none)
    (found c.args.key.now c.args.self.now c.self.inside.table.entries c.self.view_is None c.in_default.ensures.value) refl

pub returns-in_default-clause-none : goal.returns-in_default-clause-none
returns-in_default-clause-none c = λ h. left c.args.key.now c.args.self.now c.self.inside.table.entries c.self.view_is c.get_mut.follows.lender-at-none.entries (ap (λ m. m.entries) c.get_mut.follows.holds-at-none) c.args.key.now
    ∙ found c.args.key.now c.args.self.now c.self.inside.table.entries c.self.view_is None c.in_default.ensures.value

pub returns-clause-taken : goal.returns-clause-taken
returns-clause-taken c =
    let written = c.get_mut.follows.holds c.remove-was.new.self in
    changed c.args.key.now c.args.self.now c.self.inside.table.entries c.self.view_is (c.get_mut.follows.lender c.remove-was.new.self).entries (Some c.remove-was.new.self) c.in-Some.numbers.now.keys (without_number c.args.number)
    (found c.args.key.now c.args.self.now c.self.inside.table.entries c.self.view_is (Some c.in-Some.numbers.now) c.in-Some.ensures.value)
    (written.3 (search rules)).1 (λ k other. rw written.0 (set_other k c.args.key.now other c.self.inside.table.entries c.remove-was.new.self)) c.remove-was.ensures.keys

pub returns-clause-none : goal.returns-clause-none
returns-clause-none c = λ h.
    let written = c.get_mut.follows.holds c.remove-was.new.self in
    found c.args.key.now _ (c.get_mut.follows.lender c.remove-was.new.self).entries refl (Some c.remove-was.new.self) (search rules) ∙ no_keys c.remove-was.new.self (c.is_empty.ensures.0 (search rules))
