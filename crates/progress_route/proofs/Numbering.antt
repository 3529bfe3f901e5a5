-- What is found of texts by their numbers.
use Rattle.std.proofs.Common.{◌≡◌, ℕ, ◌+◌, ◌<◌, ◌≤◌, Bool, true, false, cond, List, [], ◌∷◌, ◌++◌, refl, sym, ◌∙◌, ap, ap₂, arith}
use Rattle.std.specs.Prelude.{Option, Some}
use Rattle.std.specs.List.{AllByRecursion}
use Rattle.std.specs.Ordering.{nat_cmp, is_eq, match_ordering}
use Rattle.std.specs.declared.cmp.Ordering.TheVariants.{Equal, Greater}
use Rattle.std.specs.Cmp.{nat_cmp_is}
use Rattle.std.specs.BTreeMap.{is_at, insert_entry}
use Rattle.progress_route.specs.Names.{Text, row_at, numbers_with, first_with, Rise, passes, first_number}

-- one number, as the map compares it

pub hit_self : (n : ℕ) → is_at (nat_cmp n) n ≡ true
hit_self n = ap is_eq (sym (nat_cmp_is n n Equal refl))

pub hit_below : (n m : ℕ) → m < n → is_at (nat_cmp n) m ≡ false
hit_below n m h = ap is_eq (sym (nat_cmp_is n m Greater h))

-- the numbers from one number on

pub rise_le : (from to : ℕ) (rows : List (ℕ × Text)) → Rise from to rows → from ≤ to
rise_le from to [] h = h
rise_le from to (r ∷ rs) h = let l : from ≤ r.0 = h.0 in let m = rise_le (r.0 + 1) to rs h.1 in omega (arith, l, m)

abbrev pub From : ℕ → List ℕ → Type 0
From from ns = AllByRecursion (λ n. from ≤ n) ns

from_less : (a b : ℕ) (ns : List ℕ) → a ≤ b → From b ns → From a ns
from_less a b [] l h = tt
from_less a b (n ∷ ns) l h = let m : b ≤ n = h.0 in (omega (arith, l, m), from_less a b ns l h.1)

pub numbers_from : (test : Text → Bool) (from to : ℕ) (rows : List (ℕ × Text)) → Rise from to rows → From from (numbers_with test rows)
numbers_from test from to [] h = tt
numbers_from test from to (r ∷ rs) h = go (test r.1) (from_less from (r.0 + 1) (numbers_with test rs) (let l : from ≤ r.0 = h.0 in omega (arith, l)) (numbers_from test (r.0 + 1) to rs h.1))
  where
    go : (b : Bool) → From from (numbers_with test rs) → From from (cond b (r.0 ∷ numbers_with test rs) (numbers_with test rs))
    go true k = (h.0, k)
    go false k = k

-- a number behind the first one isn't the first one's

pub past_first : (r : ℕ × Text) (rs : List (ℕ × Text)) (n : ℕ) → r.0 + 1 ≤ n → row_at n (r ∷ rs) ≡ row_at n rs
past_first r rs n h = ap (λ b. cond b (Some r.1) (row_at n rs)) (hit_below n r.0 (omega (arith, h)))

first_past : (test : Text → Bool) (r : ℕ × Text) (rs : List (ℕ × Text)) (ns : List ℕ) → From (r.0 + 1) ns → first_number test (r ∷ rs) ns ≡ first_number test rs ns
first_past test r rs [] h = refl
first_past test r rs (n ∷ ns) h = ap₂ (λ (o : Option Text) (m : Option ℕ). cond (passes test o) (Some n) m) (past_first r rs n h.0) (first_past test r rs ns h.1)

-- of the numbers under a key that each text which passes has, the first whose text passes is the first of all
pub first_of : (test key : Text → Bool) → ((a : Text) → test a ≡ true → key a ≡ true) → (from to : ℕ) (rows : List (ℕ × Text)) → Rise from to rows → first_number test rows (numbers_with key rows) ≡ first_with test rows
first_of test key has from to [] h = refl
first_of test key has from to (r ∷ rs) h = go (key r.1) (test r.1) refl refl (first_past test r rs (numbers_with key rs) (numbers_from key (r.0 + 1) to rs h.1) ∙ first_of test key has (r.0 + 1) to rs h.1)
  where
    go : (b c : Bool) → key r.1 ≡ b → test r.1 ≡ c → first_number test (r ∷ rs) (numbers_with key rs) ≡ first_with test rs
        → first_number test (r ∷ rs) (cond b (r.0 ∷ numbers_with key rs) (numbers_with key rs)) ≡ cond c (Some r.0) (first_with test rs)
    go false true k t e = absurd (let u = has r.1 t in cc)
    go false false k t e = e
    go true c k t e = ap (λ b. cond (passes test (cond b (Some r.1) (row_at r.0 rs))) (Some r.0) (first_number test (r ∷ rs) (numbers_with key rs))) (hit_self r.0)
        ∙ ap₂ (λ b (m : Option ℕ). cond b (Some r.0) m) t e

-- a number above all others comes last
pub insert_last : (a : Text) (from to : ℕ) (rows : List (ℕ × Text)) → Rise from to rows → insert_entry nat_cmp rows to a ≡ rows ++ (to, a) ∷ []
insert_last a from to [] h = refl
insert_last a from to (r ∷ rs) h =
    let l = rise_le (r.0 + 1) to rs h.1 in
    ap (λ c. match_ordering c ((to, a) ∷ r ∷ rs) ((r.0, a) ∷ rs) (r ∷ insert_entry nat_cmp rs to a)) (sym (nat_cmp_is to r.0 Greater (omega (arith, l)))) ∙ ap (λ xs. r ∷ xs) (insert_last a (r.0 + 1) to rs h.1)
