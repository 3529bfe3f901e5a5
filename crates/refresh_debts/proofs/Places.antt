-- A debt in the place of that of its method, or behind all others.
use Rattle.std.proofs.Common.{◌≡◌, ℕ, suc, ◌+◌, ◌<◌, Bool, true, false, cond, List, [], ◌∷◌, ◌++◌, length, slice_set, refl, ap, subst, arith}
use Rattle.std.specs.Prelude.{Some, None}
use Rattle.refresh_debts.specs.declared.debts.Debt.{Debt}
use Rattle.refresh_debts.specs.Tables.{is_same, place_in, with_debt}

abbrev has : Debt → Debt → Bool
has new d = is_same new.start new.editor new.method d

-- the place that is found
abbrev Placed : ℕ → ℕ → Debt → List Debt → List Debt → Type 0
Placed n k new ds after = (place : ℕ) × (k ≡ n + place) × (place < length ds) × (slice_set ds place new ≡ after)

placed : (n k : ℕ) (new : Debt) (ds : List Debt) → place_in n (has new) ds ≡ Some k → Placed n k new ds (with_debt new ds)
placed n k new [] h = absurd (cc)
placed n k new (d ∷ ds) h = go (has new d) h (placed (n + 1) k new ds)
  where
    go : (b : Bool) → cond b (Some n) (place_in (n + 1) (has new) ds) ≡ Some k → (place_in (n + 1) (has new) ds ≡ Some k → Placed (n + 1) k new ds (with_debt new ds))
        → Placed n k new (d ∷ ds) (cond b (new ∷ ds) (d ∷ with_debt new ds))
    go true e rest = let same : n ≡ k = cc in (0, omega (arith, same), omega arith, refl)
    go false e rest =
        let s : Placed (n + 1) k new ds (with_debt new ds) = rest e in
        let is : k ≡ n + 1 + s.0 = s.1 in
        let within : s.0 < length ds = s.2 in
        (suc s.0, omega (arith, is), omega (arith, within), ap (λ xs. d ∷ xs) s.3)

pub put_at : (k : ℕ) (new : Debt) (ds : List Debt) → place_in 0 (is_same new.start new.editor new.method) ds ≡ Some k → slice_set ds k new ≡ with_debt new ds
put_at k new ds h =
    let s : Placed 0 k new ds (with_debt new ds) = placed 0 k new ds h in
    let is : k ≡ 0 + s.0 = s.1 in
    let same : s.0 ≡ k = omega (arith, is) in
    subst (λ p. slice_set ds p new ≡ with_debt new ds) same s.3

behind_from : (n : ℕ) (new : Debt) (ds : List Debt) → place_in n (has new) ds ≡ None → with_debt new ds ≡ ds ++ new ∷ []
behind_from n new [] h = refl
behind_from n new (d ∷ ds) h = go (has new d) h (behind_from (n + 1) new ds)
  where
    go : (b : Bool) → cond b (Some n) (place_in (n + 1) (has new) ds) ≡ None → (place_in (n + 1) (has new) ds ≡ None → with_debt new ds ≡ ds ++ new ∷ [])
        → cond b (new ∷ ds) (d ∷ with_debt new ds) ≡ d ∷ (ds ++ new ∷ [])
    go true e rest = absurd (cc)
    go false e rest = ap (λ xs. d ∷ xs) (rest e)

pub put_behind : (new : Debt) (ds : List Debt) → place_in 0 (is_same new.start new.editor new.method) ds ≡ None → with_debt new ds ≡ ds ++ new ∷ []
put_behind new ds h = behind_from 0 new ds h
