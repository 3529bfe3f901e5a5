-- What a table keeps stays as requests come, are taken and are marked.
use Rattle.std.proofs.Common.{◌≡◌, ℕ, ◌+◌, ◌-◌, ◌<◌, ◌≤◌, Bool, true, false, cond, not, ◌&&◌, ◌||◌, List, [], ◌∷◌, ◌++◌, nat_eq, refl, sym, ◌∙◌, ap, subst, arith}
use Rattle.std.specs.Prelude.{Option, Some, None, Result, Ok, Err, IfOk, IsOk, OnOk, IsTrue}
use Rattle.std.specs.Map.{lookup}
use Rattle.id_rewrite.specs.declared.pending.Pending.{Pending}
use Rattle.id_rewrite.specs.declared.pending.Numbered.{Numbered}
use Rattle.id_rewrite.specs.Fingerprints.{fingerprint}
use Rattle.id_rewrite.specs.Slots.{AreKnown, IsKept}
use Rattle.id_rewrite.specs.Tables.{IsInOrder, Table, pending_of, with_cancelled, without}
use Rattle.id_rewrite.proofs.Finding.{marked_known, put_known, taken_known}
use Rattle.id_rewrite.proofs.Slotting.{none_taken}
use Rattle.id_rewrite.proofs.Rising.{marked_in_order, put_in_order, taken_in_order}

abbrev of : List Numbered → ℕ → ℕ → ℕ → Table
of rs next limit spare = record { requests = rs; next = next; limit = limit; spare = spare }

pub marked_kept : (n : ℕ) (rs qs : List Numbered) (next later limit spare places room keys : ℕ) (doubled : Bool) (entries : List (ℕ × ℕ)) → IsKept (of rs next limit spare) places keys doubled entries → qs ≡ with_cancelled n rs → later ≡ next → room ≡ places → IsKept (of qs later limit spare) room keys doubled entries
marked_kept n rs qs next later limit spare places room keys doubled entries kept e f g =
    let within = kept.in_places in
    record { order = subst (λ m. IsInOrder (of qs m limit spare)) (sym f) (marked_in_order rs qs next limit spare spare n kept.order e); in_places = omega arith; in_keys = kept.in_keys; known = λ alone. subst (AreKnown entries) (sym e) (marked_known entries n rs (kept.known alone)) }

pub keyed : (entries : List (ℕ × ℕ)) (key wanted : ℕ) (o : Option ℕ) → key ≡ wanted → o ≡ lookup (nat_eq key) entries → lookup (nat_eq wanted) entries ≡ o
keyed entries key wanted o is e = ap (λ k. lookup (nat_eq k) entries) (sym is) ∙ sym e

-- a request more: where its key was new, the keys tell all numbers yet
pub put_kept : (p : Pending) (rs qs : List Numbered) (next later limit spare places room keys free key : ℕ) (doubled new : Bool) (entries filled : List (ℕ × ℕ)) → IsKept (of rs next limit spare) places keys doubled entries
    → next < limit → qs ≡ rs ++ record { number = next; pending = p } ∷ [] → later ≡ next + 1 → room + 1 ≡ places → keys ≤ free + 1 → key ≡ fingerprint p.editor p.id
    → (new ≡ true → (lookup (nat_eq key) entries ≡ None) × ((k : ℕ) → lookup (nat_eq k) filled ≡ cond (nat_eq key k) (Some next) (lookup (nat_eq k) entries)))
    → IsKept (of qs later limit (spare - 1)) room free (doubled || not new) filled
put_kept p rs qs next later limit spare places room keys free key doubled new entries filled kept left e f g h is told =
    let within = kept.in_places in
    let among = kept.in_keys in
    record {
      order = subst (λ m. IsInOrder (of qs m limit (spare - 1))) (sym f) (put_in_order rs qs next limit spare (spare - 1) p kept.order left e);
      in_places = omega arith;
      in_keys = omega arith;
      known = λ alone. go (doubled) new alone kept.known told;
    }
  where
    go : (d n : Bool) → (d || not n) ≡ false → (d ≡ false → AreKnown entries rs) → (n ≡ true → (lookup (nat_eq key) entries ≡ None) × ((k : ℕ) → lookup (nat_eq k) filled ≡ cond (nat_eq key k) (Some next) (lookup (nat_eq k) entries))) → AreKnown filled qs
    go true n a known told = absurd (cc)
    go false false a known told = absurd (cc)
    go false true a known told =
        let t = told refl in
        subst (AreKnown filled) (sym e) (put_known entries filled next p rs (known refl) (ap (λ k. lookup (nat_eq k) entries) (sym is) ∙ t.0) (λ k. t.1 k ∙ ap (λ m. cond (nat_eq m k) (Some next) (lookup (nat_eq k) entries)) is))

-- a request less
pub take_kept : (n : ℕ) (p : Pending) (rs qs : List Numbered) (next later limit spare places room keys free key : ℕ) (doubled empty : Bool) (entries left : List (ℕ × ℕ)) → IsKept (of rs next limit spare) places keys doubled entries
    → Some p ≡ pending_of n rs → qs ≡ without n rs → later ≡ next → places ≤ room → keys ≤ free → key ≡ fingerprint p.editor p.id → ((k : ℕ) → lookup (nat_eq k) left ≡ cond (nat_eq key k) None (lookup (nat_eq k) entries))
    → (IsTrue empty → qs ≡ []) → IsKept (of qs later limit spare) room free (doubled && not empty) left
take_kept n p rs qs next later limit spare places room keys free key doubled empty entries left kept there e f g h is told none =
    let within = kept.in_places in
    let among = kept.in_keys in
    record {
      order = subst (λ m. IsInOrder (of qs m limit spare)) (sym f) (taken_in_order rs qs next limit spare spare n kept.order e);
      in_places = omega arith;
      in_keys = omega arith;
      known = λ alone. go doubled empty alone kept.known none;
    }
  where
    go : (d m : Bool) → (d && not m) ≡ false → (d ≡ false → AreKnown entries rs) → (IsTrue m → qs ≡ []) → AreKnown left qs
    go true true e known none = subst (AreKnown left) (sym (none refl)) tt
    go true false e known none = absurd (cc)
    go false m a known none = subst (AreKnown left) (sym e) (taken_known entries left n p rs (known refl) (sym there) (λ k. told k ∙ ap (λ m. cond (nat_eq m k) None (lookup (nat_eq k) entries)) is))

pub none_kept : (n : ℕ) (rs qs : List Numbered) (next later limit spare places room keys : ℕ) (doubled : Bool) (entries : List (ℕ × ℕ)) → IsKept (of rs next limit spare) places keys doubled entries → None ≡ pending_of n rs → qs ≡ without n rs → later ≡ next → places ≤ room → IsKept (of qs later limit spare) room keys doubled entries
none_kept n rs qs next later limit spare places room keys doubled entries kept there e f g =
    let within = kept.in_places in
    record { order = subst (λ m. IsInOrder (of qs m limit spare)) (sym f) (taken_in_order rs qs next limit spare spare n kept.order e); in_places = omega arith; in_keys = kept.in_keys; known = λ alone. subst (AreKnown entries) (none_taken n rs (sym there) ∙ sym e) (kept.known alone) }

-- an insertion that found no value
pub new_key : {E : Type 0} (r : Result (Option ℕ) E) (o : Option ℕ) (X : Type 0) → IfOk r (λ old. old ≡ None) → IsOk r → IfOk r (λ old. old ≡ o) → OnOk r X → (o ≡ None) × X
new_key (Ok old) o X none ok was x = (sym was ∙ none, x)
new_key (Err e) o X none ok was x = absurd (cc)
