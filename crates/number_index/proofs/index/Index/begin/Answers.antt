use Rattle.std.proofs.Common.{◌∙◌, ap, subst, List, ℕ}
use Rattle.std.specs.Prelude.{Some, []}
use Rattle.number_index.specs.Numbers.{with_number, Changes}
use Rattle.number_index.proofs.Keys.{changed, insert_other, rows}
use Rattle.number_index.proofs.index.Index.begin.Goals as goal

pub returns-clause-ok : goal.returns-clause-ok
returns-clause-ok c =
    let e = c.in_ok-insert-2.ensures in
    subst (λ (u : List ℕ). Changes u (with_number c.args.number) c.args.self.now (rows c.insert-2.new.self.entries)) c.in_ok-key.ensures.items
    (changed c.in_ok-key.key.items c.args.self.now c.self.inside.table.entries c.self.view_is c.insert-2.new.self.entries (Some c.insert.new.self) [] (with_number c.args.number)
    (rw c.in_ok-key.ensures.items c.requires) e.updates.1 (λ k other. rw e.entries (insert_other k c.in_ok-key.key other c.self.inside.table.entries c.insert.new.self)) (c.in_ok-insert.ensures.keys ∙ ap (with_number c.args.number) c.new-numbers.ensures.empty))
