use Rattle.id_rewrite.proofs.Keeping.{marked_kept}
use Rattle.id_rewrite.proofs.table.IdTable.cancel.Goals as goal

pub invariant_of-self : goal.invariant_of-self
invariant_of-self c = marked_kept c.args.n _ _ _ _ _ _ _ _ _ _ _ c.self.invariant c.cancel.ensures.requests c.cancel.ensures.next c.cancel.ensures.spare

pub returns-clause-order : goal.returns-clause-order
returns-clause-order c = (invariant_of-self c).order
