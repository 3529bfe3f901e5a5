use Rattle.std.proofs.Common.{◌∙◌, ap, rules}
use Rattle.std.specs.Prelude.{Some, None}
use Rattle.number_index.specs.Numbers.{Same, with_number}
use Rattle.number_index.proofs.Keys.{found, changed, changed_not, left, set_other, whatever, rows}
use Rattle.number_index.proofs.index.Index.add.Goals as goal

pub returns-in_err-insert-in-Some-clause-err : goal.returns-in_err-insert-in-Some-clause-err
returns-in_err-insert-in-Some-clause-err c =
    let written = c.get_mut.follows.holds c.insert.new.self in
    whatever c.from_residual.result (Same c.args.self.now (rows (c.get_mut.follows.lender c.insert.new.self).entries))
    (changed_not c.args.key.now c.args.self.now c.self.inside.table.entries c.self.view_is (c.get_mut.follows.lender c.insert.new.self).entries (Some c.insert.new.self) c.in-Some.numbers.now.keys
    (found c.args.key.now c.args.self.now c.self.inside.table.entries c.self.view_is (Some c.in-Some.numbers.now) c.in-Some.ensures.value)
    (written.3 (search rules)).1 (λ k other. rw written.0 (set_other k c.args.key.now other c.self.inside.table.entries c.insert.new.self)) c.in_err-insert-in-Some.ensures.err)

pub begin-requires : goal.begin-requires
begin-requires c = left c.args.key.now c.args.self.now c.self.inside.table.entries c.self.view_is c.get_mut.follows.lender-at-none.entries (ap (λ m. m.entries) c.get_mut.follows.holds-at-none) c.args.key.now ∙ found c.args.key.now c.args.self.now c.self.inside.table.entries c.self.view_is None c.in-None.ensures.value

pub returns-in_ok-insert-in-Some-clause-ok : goal.returns-in_ok-insert-in-Some-clause-ok
returns-in_ok-insert-in-Some-clause-ok c =
    let written = c.get_mut.follows.holds c.insert.new.self in
    changed c.args.key.now c.args.self.now c.self.inside.table.entries c.self.view_is (c.get_mut.follows.lender c.insert.new.self).entries (Some c.insert.new.self) c.in-Some.numbers.now.keys (with_number c.args.number)
    (found c.args.key.now c.args.self.now c.self.inside.table.entries c.self.view_is (Some c.in-Some.numbers.now) c.in-Some.ensures.value)
    (written.3 (search rules)).1 (λ k other. rw written.0 (set_other k c.args.key.now other c.self.inside.table.entries c.insert.new.self)) c.in_ok-insert-in-Some.ensures.keys
