-- Where a search by number ends among those that are kept.
use Rattle.std.proofs.Common.{◌≡◌, ℕ, zero, suc, ◌+◌, ◌<◌, ◌≤◌, false, ◌⊎◌, inl, inr, List, [], ◌∷◌, length, get_or, nat_eq, if◌then◌else◌, Some, None, Result, Ok, Err, IfOk, IfErr, refl, sym, ap, subst, ◌∙◌, arith}
use Rattle.std.specs.List.Sorted.{IsSearchInRange, IsBinarySearchResult, IsNonDecreasingBy}
use Rattle.std.specs.Ordering.{nat_cmp, ordering_index}
use Rattle.std.proofs.lemmas.Cmp.{ranked}
use Rattle.std.proofs.lemmas.List.Sorted.{IsNonDecreasingBy-from_default}
use Rattle.std.proofs.lemmas.Bool.{cases_lt}
use Rattle.std.proofs.lemmas.Bool.Decides.{nat_tests}
use Rattle.number_table.specs.declared.numbered.Numbered.{Numbered}
use Rattle.number_table.specs.Numbers.{IsAt, Rise, held}

module _ {A : Type 0} where
  -- a number that no place has isn't kept
  absent_from : (e : ℕ) (kept : List (Numbered A)) → ((i : ℕ) (x : Numbered A) → i < length kept → x ≡ get_or kept i x → nat_eq x.number e ≡ false) → held e kept ≡ None
  absent_from e [] none = refl
  absent_from e (x ∷ xs) none = ap (λ b. if b then Some x.item else held e xs) (none 0 x (omega arith) refl) ∙ absent_from e xs (λ i y l at. none (suc i) y (omega (arith, l)) at)

  -- what is read behind the end
  module _ (d : Numbered A) where
    from_on : (from to : ℕ) (kept : List (Numbered A)) (j : ℕ) → Rise from to kept → j < length kept → from ≤ (get_or kept j d).number
    from_on from to [] j rise l = absurd (omega (arith, l))
    from_on from to (x ∷ xs) zero rise l = rise.0
    from_on from to (x ∷ xs) (suc j) rise l = let first = rise.0 in let rest = from_on (x.number + 1) to xs j rise.1 (omega (arith, l)) in omega (arith, first, rest)

    ordered : (from to : ℕ) (kept : List (Numbered A)) (i j : ℕ) → Rise from to kept → i < j → j < length kept → (get_or kept i d).number < (get_or kept j d).number
    ordered from to [] i j rise l k = absurd (omega (arith, k))
    ordered from to (x ∷ xs) i zero rise l k = absurd (omega (arith, l))
    ordered from to (x ∷ xs) zero (suc j) rise l k = let rest = from_on (x.number + 1) to xs j rise.1 (omega (arith, k)) in omega (arith, rest)
    ordered from to (x ∷ xs) (suc i) (suc j) rise l k = ordered (x.number + 1) to xs i j rise.1 (omega (arith, l)) (omega (arith, k))

    read_as : (kept : List (Numbered A)) (i : ℕ) (x : Numbered A) → i < length kept → x ≡ get_or kept i x → x ≡ get_or kept i d
    read_as [] i x l at = absurd (omega (arith, l))
    read_as (y ∷ ys) zero x l at = at
    read_as (y ∷ ys) (suc i) x l at = read_as ys i x (omega (arith, l)) at

    module _ (to e : ℕ) (kept : List (Numbered A)) (rise : Rise 0 to kept) where
      comparisons_rise : IsNonDecreasingBy (λ x. ordering_index (nat_cmp x.number e)) kept
      comparisons_rise = IsNonDecreasingBy-from_default (λ x. ordering_index (nat_cmp x.number e)) kept d (λ i j le inside.
          let numbers : (get_or kept i d).number ≤ (get_or kept j d).number = grind (arith, ordered 0 to kept i j rise, λ (same : i ≡ j). ap (λ k. (get_or kept k d).number) same) in
          grind (arith, nat_tests))

      unequal : (a : ℕ) → (a < e) ⊎ (e < a) → nat_eq a e ≡ false
      unequal a (inl l) = grind (arith, nat_tests)
      unequal a (inr l) = grind (arith, nat_tests)

      searched_by : (r : Result ℕ ℕ) → IsSearchInRange r (length kept) → IsBinarySearchResult (λ x. nat_cmp x.number e) kept r → record { found : IfOk r (IsAt kept e); absent : IfErr r (λ i. held e kept ≡ None) }
      searched_by (Ok at) inside equal = record { found = record { inside = inside; number = λ x is. ap (λ (y : Numbered A). y.number) (read_as kept at x inside is) ∙ ranked _ e _ (sym (equal d)) }; absent = tt }
      searched_by (Err at) inside parted = record {
        found = tt;
        absent = absent_from e kept (λ i x l is. subst (λ (y : Numbered A). nat_eq y.number e ≡ false) (sym (read_as kept i x l is)) (unequal (get_or kept i d).number (side i l)));
      }
        where
          side : (i : ℕ) → i < length kept → ((get_or kept i d).number < e) ⊎ (e < (get_or kept i d).number)
          side i l = elim (cases_lt i at) [
            | inl low ↦ inl (ranked _ e _ (sym ((parted comparisons_rise).0 i d (omega arith) low)))
            | inr high ↦ inr (ranked _ e _ (sym ((parted comparisons_rise).1 i d high l)))
          ]

  pub searched : (to e : ℕ) (kept : List (Numbered A)) → Rise 0 to kept → (r : Result ℕ ℕ) → IsSearchInRange r (length kept) → IsBinarySearchResult (λ x. nat_cmp x.number e) kept r
      → record { found : IfOk r (IsAt kept e); absent : IfErr r (λ i. held e kept ≡ None) }
  searched to e [] rise (Ok at) inside equal = absurd (omega (arith, inside))
  searched to e [] rise (Err at) inside parted = record { found = tt; absent = refl }
  searched to e (x ∷ xs) rise r inside parted = searched_by x to e (x ∷ xs) rise r inside parted
