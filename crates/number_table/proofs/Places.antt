-- What is read of a number, and what becomes of all, where it was looked for among those that are kept.
use Rattle.std.proofs.Common.{◌≡◌, ℕ, zero, suc, ◌+◌, ◌<◌, ◌≤◌, List, [], ◌∷◌, ◌++◌, length, get_or, nat_eq, if◌then◌else◌, refl, sym, ap, subst, ◌∙◌, add-one, arith}
use Rattle.std.specs.Prelude.{Some, None, slice_get, slice_set, slice_index_or}
use Rattle.std.specs.List.{remove}
use Rattle.std.proofs.lemmas.List.{get_or_default}
use Rattle.number_table.specs.declared.numbered.Numbered.{Numbered}
use Rattle.number_table.specs.Numbers.{IsAt, Rise, held, spread}
use Rattle.number_table.proofs.Spreading.{itself, or_gone, rise_le, rise_push, rise_remove, rise_set, spread_length, spread_push, spread_read, spread_remove, spread_set, spreads_of, under}

module _ {A : Type 0} where
  rise_from : (from to : ℕ) (kept : List (Numbered A)) (k : ℕ) (t : Numbered A) → Rise from to kept → k < length kept → t ≡ get_or kept k t → from ≤ t.number
  rise_from from to [] k t rise l at = absurd (omega (arith, l))
  rise_from from to (x ∷ xs) zero t rise l at = subst (λ (q : Numbered A). from ≤ q.number) (sym at) rise.0
  rise_from from to (x ∷ xs) (suc k) t rise l at = let first = rise.0 in let rest = rise_from (x.number + 1) to xs k t rise.1 (omega (arith, l)) at in omega (arith, first, rest)

  below : (from to : ℕ) (kept : List (Numbered A)) (k : ℕ) (t : Numbered A) → Rise from to kept → k < length kept → t ≡ get_or kept k t → t.number < to
  below from to [] k t rise l at = absurd (omega (arith, l))
  below from to (x ∷ xs) zero t rise l at = let rest = rise_le (x.number + 1) to xs rise.1 in let same = ap (λ (q : Numbered A). q.number) at in omega (arith, rest, same)
  below from to (x ∷ xs) (suc k) t rise l at = below (x.number + 1) to xs k t rise.1 (omega (arith, l)) at

  held_at : (from to e : ℕ) (kept : List (Numbered A)) (k : ℕ) (t : Numbered A) → Rise from to kept → k < length kept → t ≡ get_or kept k t → t.number ≡ e → held e kept ≡ Some t.item
  held_at from to e [] k t rise l at is = absurd (omega (arith, l))
  held_at from to e (x ∷ xs) zero t rise l at is = ap (λ b. if b then Some x.item else held e xs) (ap (λ n. nat_eq n e) (sym (ap (λ (q : Numbered A). q.number) at) ∙ is) ∙ itself e) ∙ ap (λ (q : Numbered A). Some q.item) (sym at)
  held_at from to e (x ∷ xs) (suc k) t rise l at is = let rest = rise_from (x.number + 1) to xs k t rise.1 (omega (arith, l)) at in
      ap (λ b. if b then Some x.item else held e xs) (under x.number e (omega (arith, rest, is))) ∙ held_at (x.number + 1) to e xs k t rise.1 (omega (arith, l)) at is

  set_own : (xs : List A) (i : ℕ) (d : A) → i < length xs → slice_set xs i (slice_index_or xs i d) ≡ xs
  set_own [] i d l = absurd (omega (arith, l))
  set_own (x ∷ xs) zero d l = refl
  set_own (x ∷ xs) (suc i) d l = ap (λ ys. x ∷ ys) (set_own xs i d (omega (arith, l)))

  get_some : (xs : List A) (i : ℕ) (d : A) → i < length xs → slice_get xs i ≡ Some (slice_index_or xs i d)
  get_some [] i d l = absurd (omega (arith, l))
  get_some (x ∷ xs) zero d l = refl
  get_some (x ∷ xs) (suc i) d l = get_some xs i d (omega (arith, l))

  get_none : (xs : List A) (i : ℕ) → length xs ≤ i → slice_get xs i ≡ None
  get_none [] i l = refl
  get_none (x ∷ xs) zero l = absurd (omega (arith, l))
  get_none (x ∷ xs) (suc i) l = get_none xs i (omega (arith, l))

-- all of them, where nothing stands at each number that isn't kept
module _ {A : Type 0} (nothing : A) (n : ℕ) (kept : List (Numbered A)) (all : List A) (is : spread nothing 0 n kept ≡ all) (rise : Rise 0 n kept) where
  pub length_is : length all ≡ n
  length_is = sym (ap length is) ∙ spread_length nothing 0 n kept

  read : (e : ℕ) (d : A) → e < length all → slice_index_or all e d ≡ or_gone nothing (held e kept)
  read e d l = sym (ap (λ ys. slice_index_or ys e d) is) ∙ (spread_read nothing (spreads_of n kept rise) d e (subst (λ m. e < m) length_is l) ∙ ap (λ m. or_gone nothing (held m kept)) {x = 0 + e} {y = e} (omega arith))

  pub past_get : (e : ℕ) → n ≤ e → slice_get all e ≡ None
  past_get e l = get_none all e (subst (λ m. m ≤ e) (sym length_is) l)

  -- the number of a place was given
  pub kept_inside : (e k : ℕ) → IsAt kept e k → (t : Numbered A) → t ≡ get_or kept k t → e < length all
  kept_inside e k at t there = subst (λ m. e < m) (sym length_is) (subst (λ m. m < n) (at.number t there) (below 0 n kept k t rise at.inside there))

  -- one that isn't kept
  module _ (e : ℕ) (l : e < length all) (none : held e kept ≡ None) (d : A) where
    pub lost : slice_index_or all e d ≡ nothing
    lost = read e d l ∙ ap (or_gone nothing) none

    pub lost_get : slice_get all e ≡ Some nothing
    lost_get = get_some all e d l ∙ ap (λ x. Some x) lost

    pub lost_stays : (change : A → A) → change nothing ≡ nothing → all ≡ slice_set all e (change (slice_index_or all e d))
    lost_stays change stays = sym (ap (slice_set all e) (ap change lost ∙ (stays ∙ sym lost)) ∙ set_own all e d l)

    pub lost_left : all ≡ slice_set all e nothing
    lost_left = sym (ap (slice_set all e) (sym lost) ∙ set_own all e d l)

  -- one that is kept
  module _ (e k : ℕ) (l : e < length all) (at : IsAt kept e k) (t : Numbered A) (there : t ≡ get_or kept k t) where
    pub kept_item : (d : A) → t.item ≡ slice_index_or all e d
    kept_item d = sym (read e d l ∙ ap (or_gone nothing) (held_at 0 n e kept k t rise at.inside there (at.number t there)))

    pub kept_get : slice_get all e ≡ Some t.item
    kept_get = get_some all e t.item l ∙ ap (λ x. Some x) (sym (kept_item t.item))

    pub kept_set : (y : Numbered A) → y.number ≡ t.number → spread nothing 0 n (slice_set kept k y) ≡ slice_set all e y.item
    kept_set y same = ap (λ m. spread nothing 0 n (slice_set kept k (record { number = m; item = y.item }))) same
        ∙ (spread_set nothing (spreads_of n kept rise) e k t y.item at.inside there (at.number t there ∙ omega arith) ∙ ap (λ ys. slice_set ys e y.item) is)

    pub kept_rise : (y : Numbered A) → y.number ≡ t.number → Rise 0 n (slice_set kept k y)
    kept_rise y same = subst (λ m. Rise 0 n (slice_set kept k (record { number = m; item = y.item }))) (sym same) (rise_set 0 n kept k t y.item rise at.inside there)

  pub kept_left : (e k : ℕ) → IsAt kept e k → spread nothing 0 n (remove kept k) ≡ slice_set all e nothing
  kept_left e k at =
      let t : Numbered A = get_or kept k (record { number = 0; item = nothing }) in
      let there : t ≡ get_or kept k t = get_or_default kept k (record { number = 0; item = nothing }) t at.inside in
      spread_remove nothing (spreads_of n kept rise) e k n t rise at.inside there (at.number t there ∙ omega arith) ∙ ap (λ ys. slice_set ys e nothing) is

  pub left_rise : (k : ℕ) → Rise 0 n (remove kept k)
  left_rise k = rise_remove 0 n kept k rise

  -- the next one comes
  pub one_comes : (e : ℕ) (y : A) → e ≡ length all → spread nothing 0 (e + 1) (kept ++ record { number = e; item = y } ∷ []) ≡ all ++ y ∷ []
  one_comes e y next = ap (λ m. spread nothing 0 m (kept ++ record { number = e; item = y } ∷ [])) {x = e + 1} {y = suc n} (add-one e ∙ ap suc (next ∙ length_is)) ∙ (spread_push nothing (spreads_of n kept rise) e y (next ∙ (length_is ∙ omega arith)) ∙ ap (λ ys. ys ++ y ∷ []) is)

  pub comes_rise : (e : ℕ) (y : A) → e ≡ length all → Rise 0 (e + 1) (kept ++ record { number = e; item = y } ∷ [])
  comes_rise e y next = rise_push 0 e kept y (subst (λ m. Rise 0 m kept) (sym (next ∙ length_is)) rise)
