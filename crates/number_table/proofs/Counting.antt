-- The numbers of those that meet a test, by those that are kept.
use Rattle.std.proofs.Common.{◌≡◌, ℕ, ◌+◌, ◌<◌, Bool, true, false, List, [], ◌∷◌, ◌++◌, length, get_or, take, if◌then◌else◌, refl, sym, ap, subst, ◌∙◌, append_assoc}
use Rattle.std.specs.Prelude.{slice_index_or}
use Rattle.std.specs.List.{filter, range_with_len}
use Rattle.std.proofs.lemmas.List.{length-append, take_more}
use Rattle.number_table.specs.declared.numbered.Numbered.{Numbered}
use Rattle.number_table.specs.Numbers.{Rise, counted, numbers_in, spread}
use Rattle.number_table.proofs.Spreading.{Spreads, done, here, gap, spread_here, spread_gone, spreads_of}

module _ {A : Type 0} (d : A) (test : A → Bool) where
  last_one : (before xs : List A) (x : A) → slice_index_or (before ++ x ∷ xs) (length before) d ≡ x
  last_one [] xs x = refl
  last_one (b ∷ before) xs x = last_one before xs x

  by_places : (before xs : List A) → filter (λ e. test (slice_index_or (before ++ xs) e d)) (range_with_len (length before) (length xs)) ≡ counted (length before) test xs
  by_places before [] = refl
  by_places before (x ∷ xs) =
      let rest = subst (λ n. filter (λ e. test (slice_index_or (before ++ x ∷ xs) e d)) (range_with_len n (length xs)) ≡ counted n test xs) {x = length (before ++ x ∷ [])} {y = length before + 1} (length-append before (x ∷ []))
      (subst (λ ys. filter (λ e. test (slice_index_or ys e d)) (range_with_len (length (before ++ x ∷ [])) (length xs)) ≡ counted (length (before ++ x ∷ [])) test xs) (append_assoc before (x ∷ []) xs) (by_places (before ++ x ∷ []) xs)) in
      ap (λ b. if b then length before ∷ filter (λ e. test (slice_index_or (before ++ x ∷ xs) e d)) (range_with_len (length before + 1) (length xs)) else filter (λ e. test (slice_index_or (before ++ x ∷ xs) e d)) (range_with_len (length before + 1) (length xs))) (ap test (last_one before xs x))
      ∙ ap (λ ns. if test x then length before ∷ ns else ns) rest

  -- by their places
  pub counted_places : (xs : List A) → filter (λ e. test (slice_index_or xs e d)) (range_with_len 0 (length xs)) ≡ counted 0 test xs
  counted_places xs = by_places [] xs

-- where what stands at the other numbers doesn't meet it
module _ {A : Type 0} (nothing : A) (test : A → Bool) (none : test nothing ≡ false) where
  counted_kept : {from n : ℕ} {kept : List (Numbered A)} → Spreads from n kept → counted from test (spread nothing from n kept) ≡ numbers_in test kept
  counted_kept done = refl
  counted_kept {from} (here {n = n} {x = x} {xs = xs} h rest) = ap (counted from test) (spread_here nothing from n x xs h)
      ∙ (ap (λ m. if test x.item then m ∷ counted (from + 1) test (spread nothing (from + 1) n xs) else counted (from + 1) test (spread nothing (from + 1) n xs)) (sym h)
      ∙ ap (λ ns. if test x.item then x.number ∷ ns else ns) (counted_kept rest))
  counted_kept {from} (gap {n = n} {xs = xs} rise rest) = ap (counted from test) (spread_gone nothing from (from + 1 + n) n xs rise)
      ∙ (ap (λ b. if b then from ∷ counted (from + 1) test (spread nothing (from + 1) n xs) else counted (from + 1) test (spread nothing (from + 1) n xs)) none ∙ counted_kept rest)

  pub counted_all : (n : ℕ) (kept : List (Numbered A)) (all : List A) → spread nothing 0 n kept ≡ all → Rise 0 n kept → counted 0 test all ≡ numbers_in test kept
  counted_all n kept all is rise = sym (ap (counted 0 test) is) ∙ counted_kept (spreads_of n kept rise)

-- a walk over those that are kept
module _ {A : Type 0} (test : A → Bool) where
  numbers_append : (xs ys : List (Numbered A)) → numbers_in test (xs ++ ys) ≡ numbers_in test xs ++ numbers_in test ys
  numbers_append [] ys = refl
  numbers_append (x ∷ xs) ys = go (test x.item) (numbers_append xs ys)
    where
      go : (b : Bool) → numbers_in test (xs ++ ys) ≡ numbers_in test xs ++ numbers_in test ys
          → (if b then x.number ∷ numbers_in test (xs ++ ys) else numbers_in test (xs ++ ys)) ≡ (if b then x.number ∷ numbers_in test xs else numbers_in test xs) ++ numbers_in test ys
      go true e = ap (λ ns. x.number ∷ ns) e
      go false e = e

  pub numbers_next : (kept : List (Numbered A)) (k : ℕ) (ns : List ℕ) (x : Numbered A) (b : Bool) → ns ≡ numbers_in test (take k kept) → k < length kept → x ≡ get_or kept k x → test x.item ≡ b
      → ns ++ (if b then x.number ∷ [] else []) ≡ numbers_in test (take (k + 1) kept)
  numbers_next kept k ns x b so l at is = ap (λ ms. ms ++ (if b then x.number ∷ [] else [])) so
      ∙ (ap (λ c. numbers_in test (take k kept) ++ (if c then x.number ∷ [] else [])) (sym is)
      ∙ sym (ap (numbers_in test) (take_more kept k x l ∙ ap (λ y. take k kept ++ y ∷ []) (sym at)) ∙ numbers_append (take k kept) (x ∷ [])))

pub take_all : {A : Type 0} (xs : List A) → take (length xs) xs ≡ xs
take_all [] = refl
take_all (x ∷ xs) = ap (λ ys. x ∷ ys) (take_all xs)
