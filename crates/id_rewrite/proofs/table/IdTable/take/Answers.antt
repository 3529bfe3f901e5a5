use Rattle.std.proofs.Common.{◌∙◌, ap}
use Rattle.id_rewrite.specs.Fingerprints.{fingerprint}
use Rattle.id_rewrite.proofs.Keeping.{none_kept, take_kept}
use Rattle.id_rewrite.proofs.table.IdTable.take.Goals as goal

pub invariant_of-self : goal.invariant_of-self
invariant_of-self c = none_kept c.args.n _ _ _ _ _ _ _ _ _ _ _ c.self.invariant c.in_err-pending.ensures.value c.take.ensures.requests c.take.ensures.next c.take.ensures.more

pub returns-in_err-pending-clause-order : goal.returns-in_err-pending-clause-order
returns-in_err-pending-clause-order c = (invariant_of-self c).order

pub invariant_of-self-2 : goal.invariant_of-self-2
invariant_of-self-2 c = take_kept c.args.n c.in_ok-pending.pending _ _ _ _ _ _ _ _ _ _ _ _ _ _ _ c.self.invariant c.in_ok-pending.ensures.value c.take.ensures.requests c.take.ensures.next c.take.ensures.more c.swap_remove.ensures.room.0 (c.fingerprint-key.ensures ∙ ap (fingerprint c.in_ok-pending.pending.editor) c.bytes.ensures) c.swap_remove.ensures.updates.0 c.is_empty.ensures

pub returns-clause-order : goal.returns-clause-order
returns-clause-order c = (invariant_of-self-2 c).order
