-- What is found of rows by their numbers.
use Rattle.std.proofs.Common.{◌≡◌, ℕ, ◌+◌, ◌<◌, ◌≤◌, Bool, true, false, cond, List, [], ◌∷◌, ◌++◌, filter, find, length, not, refl, sym, ◌∙◌, ap, ap₂, arith}
use Rattle.std.specs.Prelude.{Option, Some, None, ◌||◌, is_some}
use Rattle.std.specs.List.{AllByRecursion, list_any}
use Rattle.std.specs.Ordering.{nat_cmp, is_eq, match_ordering}
use Rattle.std.specs.declared.cmp.Ordering.TheVariants.{Equal, Greater}
use Rattle.std.specs.Cmp.{nat_cmp_is}
use Rattle.std.specs.BTreeMap.{is_at, insert_entry}
use Rattle.std.specs.Map.{values_of, remove_entry}
use Rattle.numbered_rows.specs.Rows.{row_at, numbers_with, first_with, less, Rise, passes, first_number, row_with, rows_among}

pub hit_self : (n : ℕ) → is_at (nat_cmp n) n ≡ true
hit_self n = ap is_eq (sym (nat_cmp_is n n Equal refl))

pub hit_below : (n m : ℕ) → m < n → is_at (nat_cmp n) m ≡ false
hit_below n m h = ap is_eq (sym (nat_cmp_is n m Greater h))

abbrev pub From : ℕ → List ℕ → Type 0
From from ns = AllByRecursion (λ n. from ≤ n) ns

from_less : (a b : ℕ) (ns : List ℕ) → a ≤ b → From b ns → From a ns
from_less a b [] l h = tt
from_less a b (n ∷ ns) l h = let m : b ≤ n = h.0 in (omega (arith, l, m), from_less a b ns l h.1)

module _ {X : Type 0} where
  -- one number, as the map compares it

  -- the numbers from one number on

  pub rise_le : (from to : ℕ) (rows : List (ℕ × X)) → Rise from to rows → from ≤ to
  rise_le from to [] h = h
  rise_le from to (r ∷ rs) h = let l : from ≤ r.0 = h.0 in let m = rise_le (r.0 + 1) to rs h.1 in omega (arith, l, m)

  pub numbers_from : (test : X → Bool) (from to : ℕ) (rows : List (ℕ × X)) → Rise from to rows → From from (numbers_with test rows)
  numbers_from test from to [] h = tt
  numbers_from test from to (r ∷ rs) h = go (test r.1) (from_less from (r.0 + 1) (numbers_with test rs) (let l : from ≤ r.0 = h.0 in omega (arith, l)) (numbers_from test (r.0 + 1) to rs h.1))
    where
      go : (b : Bool) → From from (numbers_with test rs) → From from (cond b (r.0 ∷ numbers_with test rs) (numbers_with test rs))
      go true k = (h.0, k)
      go false k = k

  -- a number behind the first one isn't the first one's

  pub past_first : (r : ℕ × X) (rs : List (ℕ × X)) (n : ℕ) → r.0 + 1 ≤ n → row_at n (r ∷ rs) ≡ row_at n rs
  past_first r rs n h = ap (λ b. cond b (Some r.1) (row_at n rs)) (hit_below n r.0 (omega (arith, h)))

  first_past : (test : X → Bool) (r : ℕ × X) (rs : List (ℕ × X)) (ns : List ℕ) → From (r.0 + 1) ns → first_number test (r ∷ rs) ns ≡ first_number test rs ns
  first_past test r rs [] h = refl
  first_past test r rs (n ∷ ns) h = ap₂ (λ (o : Option X) (m : Option ℕ). cond (passes test o) (Some n) m) (past_first r rs n h.0) (first_past test r rs ns h.1)

  -- of the numbers under a key that each row which passes has, the first whose row passes is the first of all
  pub first_of : (test key : X → Bool) → ((a : X) → test a ≡ true → key a ≡ true) → (from to : ℕ) (rows : List (ℕ × X)) → Rise from to rows → first_number test rows (numbers_with key rows) ≡ first_with test rows
  first_of test key has from to [] h = refl
  first_of test key has from to (r ∷ rs) h = go (key r.1) (test r.1) refl refl (first_past test r rs (numbers_with key rs) (numbers_from key (r.0 + 1) to rs h.1) ∙ first_of test key has (r.0 + 1) to rs h.1)
    where
      go : (b c : Bool) → key r.1 ≡ b → test r.1 ≡ c → first_number test (r ∷ rs) (numbers_with key rs) ≡ first_with test rs
          → first_number test (r ∷ rs) (cond b (r.0 ∷ numbers_with key rs) (numbers_with key rs)) ≡ cond c (Some r.0) (first_with test rs)
      go false true k t e = absurd (let u = has r.1 t in cc)
      go false false k t e = e
      go true c k t e = ap (λ b. cond (passes test (cond b (Some r.1) (row_at r.0 rs))) (Some r.0) (first_number test (r ∷ rs) (numbers_with key rs))) (hit_self r.0)
          ∙ ap₂ (λ b (m : Option ℕ). cond b (Some r.0) m) t e

  pub first_from : (test : X → Bool) (from to : ℕ) (rows : List (ℕ × X)) (n : ℕ) → Rise from to rows → first_with test rows ≡ Some n → from ≤ n
  first_from test from to [] n h f = absurd (cc)
  first_from test from to (r ∷ rs) n h f = go (test r.1) f (λ g. first_from test (r.0 + 1) to rs n h.1 g)
    where
      go : (b : Bool) → cond b (Some r.0) (first_with test rs) ≡ Some n → (first_with test rs ≡ Some n → r.0 + 1 ≤ n) → from ≤ n
      go true e k = let same : r.0 ≡ n = cc in let l : from ≤ r.0 = h.0 in omega (arith, same, l)
      go false e k = let m = k e in let l : from ≤ r.0 = h.0 in omega (arith, m, l)

  -- none passes
  pub none_with : (test : X → Bool) (rows : List (ℕ × X)) → first_with test rows ≡ None → find test (values_of rows) ≡ None
  none_with test [] h = refl
  none_with test (r ∷ rs) h = go (test r.1) h (none_with test rs)
    where
      go : (b : Bool) → cond b (Some r.0) (first_with test rs) ≡ None → (first_with test rs ≡ None → find test (values_of rs) ≡ None) → cond b (Some r.1) (find test (values_of rs)) ≡ None
      go true e k = absurd (cc)
      go false e k = k e

  pub none_less : (test : X → Bool) (rows : List (ℕ × X)) → first_with test rows ≡ None → values_of rows ≡ less test (values_of rows)
  none_less test [] h = refl
  none_less test (r ∷ rs) h = go (test r.1) h (none_less test rs)
    where
      go : (b : Bool) → cond b (Some r.0) (first_with test rs) ≡ None → (first_with test rs ≡ None → values_of rs ≡ less test (values_of rs)) → r.1 ∷ values_of rs ≡ cond b (values_of rs) (r.1 ∷ less test (values_of rs))
      go true e k = absurd (cc)
      go false e k = ap (λ qs. r.1 ∷ qs) (k e)

  -- the first that passes, and what is left without it

  pub found_first : (test : X → Bool) (from to : ℕ) (rows : List (ℕ × X)) (n : ℕ) → Rise from to rows → first_with test rows ≡ Some n → row_at n rows ≡ find test (values_of rows)
  found_first test from to [] n h f = absurd (cc)
  found_first test from to (r ∷ rs) n h f = go (test r.1) f (λ e. found_first test (r.0 + 1) to rs n h.1 e)
    where
      go : (b : Bool) → cond b (Some r.0) (first_with test rs) ≡ Some n → (first_with test rs ≡ Some n → row_at n rs ≡ find test (values_of rs)) → row_at n (r ∷ rs) ≡ cond b (Some r.1) (find test (values_of rs))
      go true e k = let same : r.0 ≡ n = cc in ap (λ m. row_at m (r ∷ rs)) (sym same) ∙ ap (λ b. cond b (Some r.1) (row_at r.0 rs)) (hit_self r.0)
      go false e k = past_first r rs n (first_from test (r.0 + 1) to rs n h.1 e) ∙ k e

  pub less_first : (test : X → Bool) (from to : ℕ) (rows : List (ℕ × X)) (n : ℕ) → Rise from to rows → first_with test rows ≡ Some n → values_of (remove_entry (is_at (nat_cmp n)) rows) ≡ less test (values_of rows)
  less_first test from to [] n h f = absurd (cc)
  less_first test from to (r ∷ rs) n h f = go (test r.1) f (λ e. less_first test (r.0 + 1) to rs n h.1 e)
    where
      go : (b : Bool) → cond b (Some r.0) (first_with test rs) ≡ Some n → (first_with test rs ≡ Some n → values_of (remove_entry (is_at (nat_cmp n)) rs) ≡ less test (values_of rs)) → values_of (remove_entry (is_at (nat_cmp n)) (r ∷ rs)) ≡ cond b (values_of rs) (r.1 ∷ less test (values_of rs))
      go true e k = let same : r.0 ≡ n = cc in ap (λ m. values_of (remove_entry (is_at (nat_cmp m)) (r ∷ rs))) (sym same) ∙ ap (λ b. values_of (cond b rs (r ∷ remove_entry (is_at (nat_cmp r.0)) rs))) (hit_self r.0)
      go false e k = let l = first_from test (r.0 + 1) to rs n h.1 e in ap (λ b. values_of (cond b rs (r ∷ remove_entry (is_at (nat_cmp n)) rs))) (hit_below n r.0 (omega (arith, l))) ∙ ap (λ qs. r.1 ∷ qs) (k e)

  -- a number above all others comes last
  pub insert_last : (a : X) (from to : ℕ) (rows : List (ℕ × X)) → Rise from to rows → insert_entry nat_cmp rows to a ≡ rows ++ (to, a) ∷ []
  insert_last a from to [] h = refl
  insert_last a from to (r ∷ rs) h =
      let l = rise_le (r.0 + 1) to rs h.1 in
      ap (λ c. match_ordering c ((to, a) ∷ r ∷ rs) ((r.0, a) ∷ rs) (r ∷ insert_entry nat_cmp rs to a)) (sym (nat_cmp_is to r.0 Greater (omega (arith, l)))) ∙ ap (λ xs. r ∷ xs) (insert_last a (r.0 + 1) to rs h.1)

  pub values_last : (n : ℕ) (a : X) (rows : List (ℕ × X)) → values_of (rows ++ (n, a) ∷ []) ≡ values_of rows ++ a ∷ []
  values_last n a [] = refl
  values_last n a (r ∷ rs) = ap (λ qs. r.1 ∷ qs) (values_last n a rs)

  -- some ask passes where one is found
  pub any_found : (test : X → Bool) (asks : List X) → is_some (find test asks) ≡ list_any test asks
  any_found test [] = refl
  any_found test (a ∷ qs) = go (test a) (any_found test qs)
    where
      go : (b : Bool) → is_some (find test qs) ≡ list_any test qs → is_some (cond b (Some a) (find test qs)) ≡ (b || list_any test qs)
      go true k = refl
      go false k = k

  -- what doesn't pass stays as the first that passes goes, and all stays where none passes

  pub others_less : (test : X → Bool) (xs : List X) → filter (λ x. not (test x)) (less test xs) ≡ filter (λ x. not (test x)) xs
  others_less test [] = refl
  others_less test (x ∷ xs) = go (test x) refl (others_less test xs)
    where
      go : (b : Bool) → test x ≡ b → filter (λ y. not (test y)) (less test xs) ≡ filter (λ y. not (test y)) xs
          → filter (λ y. not (test y)) (cond b xs (x ∷ less test xs)) ≡ cond (not b) (x ∷ filter (λ y. not (test y)) xs) (filter (λ y. not (test y)) xs)
      go true e k = refl
      go false e k = ap (λ b. cond (not b) (x ∷ filter (λ y. not (test y)) (less test xs)) (filter (λ y. not (test y)) (less test xs))) e ∙ ap (λ ys. x ∷ ys) k

  pub others_all : (test : X → Bool) (rows : List (ℕ × X)) → first_with test rows ≡ None → filter (λ x. not (test x)) (values_of rows) ≡ values_of rows
  others_all test [] h = refl
  others_all test (r ∷ rs) h = go (test r.1) h (others_all test rs)
    where
      go : (b : Bool) → cond b (Some r.0) (first_with test rs) ≡ None → (first_with test rs ≡ None → filter (λ x. not (test x)) (values_of rs) ≡ values_of rs)
          → cond (not b) (r.1 ∷ filter (λ x. not (test x)) (values_of rs)) (filter (λ x. not (test x)) (values_of rs)) ≡ r.1 ∷ values_of rs
      go true e k = absurd (cc)
      go false e k = ap (λ ys. r.1 ∷ ys) (k e)

  pub less_shorter : (test : X → Bool) (rows : List (ℕ × X)) (n : ℕ) → first_with test rows ≡ Some n → length (less test (values_of rows)) + 1 ≡ length (values_of rows)
  less_shorter test [] n h = absurd (cc)
  less_shorter test (r ∷ rs) n h = go (test r.1) h (less_shorter test rs n)
    where
      go : (b : Bool) → cond b (Some r.0) (first_with test rs) ≡ Some n → (first_with test rs ≡ Some n → length (less test (values_of rs)) + 1 ≡ length (values_of rs))
          → length (cond b (values_of rs) (r.1 ∷ less test (values_of rs))) + 1 ≡ length (r.1 ∷ values_of rs)
      go true e k = omega arith
      go false e k = let l = k e in omega (arith, l)

  -- the rows of some numbers that pass a test

  among_past : (test : X → Bool) (r : ℕ × X) (rs : List (ℕ × X)) (ns : List ℕ) → From (r.0 + 1) ns → rows_among test (r ∷ rs) ns ≡ rows_among test rs ns
  among_past test r rs [] h = refl
  among_past test r rs (n ∷ ns) h = ap₂ (λ (o : Option X) (xs : List X). row_with test o ++ xs) (past_first r rs n h.0) (among_past test r rs ns h.1)

  pub among_of : (test key : X → Bool) → ((a : X) → test a ≡ true → key a ≡ true) → (from to : ℕ) (rows : List (ℕ × X)) → Rise from to rows → rows_among test rows (numbers_with key rows) ≡ filter test (values_of rows)
  among_of test key has from to [] h = refl
  among_of test key has from to (r ∷ rs) h = go (key r.1) (test r.1) refl refl (among_past test r rs (numbers_with key rs) (numbers_from key (r.0 + 1) to rs h.1) ∙ among_of test key has (r.0 + 1) to rs h.1)
    where
      side : (c : Bool) → cond c (r.1 ∷ []) [] ++ filter test (values_of rs) ≡ cond c (r.1 ∷ filter test (values_of rs)) (filter test (values_of rs))
      side true = refl
      side false = refl

      go : (b c : Bool) → key r.1 ≡ b → test r.1 ≡ c → rows_among test (r ∷ rs) (numbers_with key rs) ≡ filter test (values_of rs)
          → rows_among test (r ∷ rs) (cond b (r.0 ∷ numbers_with key rs) (numbers_with key rs)) ≡ cond c (r.1 ∷ filter test (values_of rs)) (filter test (values_of rs))
      go false true k t f = absurd (let u = has r.1 t in cc)
      go false false k t f = f
      go true c k t f = ap (λ b. row_with test (cond b (Some r.1) (row_at r.0 rs)) ++ rows_among test (r ∷ rs) (numbers_with key rs)) (hit_self r.0)
          ∙ (ap₂ (λ b (xs : List X). cond b (r.1 ∷ []) [] ++ xs) t f ∙ side c)
