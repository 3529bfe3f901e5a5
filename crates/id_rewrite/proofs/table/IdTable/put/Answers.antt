use Rattle.std.proofs.Common.{◌∙◌, ◌<◌, cond, nat_eq, sym, ap, subst}
use Rattle.std.specs.Prelude.{Some}
use Rattle.std.specs.Map.{lookup}
use Rattle.id_rewrite.specs.Fingerprints.{fingerprint}
use Rattle.id_rewrite.specs.Tables.{Table}
use Rattle.id_rewrite.proofs.Keeping.{new_key, put_kept}
use Rattle.id_rewrite.proofs.table.IdTable.put.Goals as goal

pub invariant_of-self : goal.invariant_of-self
invariant_of-self c =
    let left = subst (λ (t : Table). t.next < t.limit) (sym c.self.view_is) c.requires.left in
    let key = c.fingerprint-key.ensures ∙ ap (fingerprint c.args.pending.editor) c.bytes.ensures in
    put_kept c.args.pending _ _ _ _ _ _ _ _ _ _ _ _ _ _ _ c.self.invariant left c.push-number.ensures.requests c.push-number.ensures.next c.push-number.ensures.spare c.insert.ensures.spare key
    (λ is. let new = c.is_new.ensures is in
    let told = new_key _ _ _ new.0 new.1 c.insert.ensures.old c.insert.ensures.updates in
    (told.0, λ k. told.1.0 k ∙ ap (λ n. cond (nat_eq c.fingerprint-key.result k) (Some n) (lookup (nat_eq k) c.self.inside.numbers.entries)) c.push-number.ensures.number))

pub returns-clause-order : goal.returns-clause-order
returns-clause-order c = (invariant_of-self c).order
