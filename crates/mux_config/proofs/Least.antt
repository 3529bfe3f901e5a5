-- The first of some faults is the least of them.
use Rattle.std.proofs.Common.{◌≡◌, ℕ, ◌⊎◌, inl, inr, Bool, true, false, ◌&&◌, ◌||◌, nat_eq, nat_lt, List, [], ◌∷◌, Some, None, Contains, Ordering, Less, Equal, Greater, nat_cmp, refl, ap, subst, cond, arith}
use Rattle.std.proofs.lemmas.Bool.Decides.{nat_tests}
use Rattle.std.proofs.lemmas.Cmp.{nat_list_cmp_total, tied_itself}
use Rattle.std.proofs.lemmas.List.Elements.{Contains-append_right}
use Rattle.std.specs.Cmp.Lexicographic.{slice_cmp}
use Rattle.std.specs.List.{AllByRecursion}
use Rattle.std.specs.Ordering.{is_lt}
use Rattle.mux_config.specs.Faults.{Fault, rank, comes_before, first_in}

less : (o : Ordering) → is_lt o ≡ true → o ≡ Less
less Less e = refl
less Equal e = absurd (cc)
less Greater e = absurd (cc)

paths_ascend : (a b c : List ℕ) → is_lt (slice_cmp nat_cmp a b) ≡ true → is_lt (slice_cmp nat_cmp b c) ≡ true → is_lt (slice_cmp nat_cmp a c) ≡ true
paths_ascend a b c h k = ap is_lt (nat_list_cmp_total.trans a b c (less (slice_cmp nat_cmp a b) h) (less (slice_cmp nat_cmp b c) k))

tests_ascend : (i j k : ℕ) (p q r : Bool) → (p ≡ true → q ≡ true → r ≡ true) → (nat_lt i j || (nat_eq i j && p)) ≡ true → (nat_lt j k || (nat_eq j k && q)) ≡ true → (nat_lt i k || (nat_eq i k && r)) ≡ true
tests_ascend i j k true true r t h l = rw (t refl refl) (grind (arith, nat_tests))
tests_ascend i j k true false true t h l = grind (arith, nat_tests)
tests_ascend i j k true false false t h l = grind (arith, nat_tests)
tests_ascend i j k false true true t h l = grind (arith, nat_tests)
tests_ascend i j k false true false t h l = grind (arith, nat_tests)
tests_ascend i j k false false true t h l = grind (arith, nat_tests)
tests_ascend i j k false false false t h l = grind (arith, nat_tests)

before_ascends : (a b c : Fault) → comes_before a b ≡ true → comes_before b c ≡ true → comes_before a c ≡ true
before_ascends a b c h k = tests_ascend (rank a.sort) (rank b.sort) (rank c.sort) _ _ _ (paths_ascend a.path b.path c.path) h k

not_before_itself : (a : Fault) → comes_before a a ≡ false
not_before_itself a = rw (tied_itself nat_list_cmp_total a.path) (grind (arith, nat_tests))

-- what doesn't come before b doesn't come before c, which comes before b
not_before : (a b c : Fault) → comes_before a b ≡ false → comes_before c b ≡ true → comes_before a c ≡ false
not_before a b c other before = by_test (comes_before a c) refl
  where
    by_test : (t : Bool) → comes_before a c ≡ t → t ≡ false
    by_test false e = refl
    by_test true e = let both = before_ascends a c b e before in cc

-- the first is not behind what was first before
lower : (fs : List Fault) (best f g : Fault) → first_in (Some best) fs ≡ Some f → comes_before g best ≡ false → comes_before g f ≡ false
lower [] best f g e h = let same : best ≡ f = cc in subst (λ z. comes_before g z ≡ false) same h
lower (x ∷ fs) best f g e h = by_test (comes_before x best) refl (lower fs x f g) (lower fs best f g) e
  where
    by_test : (t : Bool) → comes_before x best ≡ t → (first_in (Some x) fs ≡ Some f → comes_before g x ≡ false → comes_before g f ≡ false)
        → (first_in (Some best) fs ≡ Some f → comes_before g best ≡ false → comes_before g f ≡ false) → first_in (cond t (Some x) (Some best)) fs ≡ Some f → comes_before g f ≡ false
    by_test true s new old k = new k (not_before g best x h s)
    by_test false s new old k = old k h

none_before : (fs : List Fault) (best f : Fault) → first_in (Some best) fs ≡ Some f → AllByRecursion (λ g. comes_before g f ≡ false) fs
none_before [] best f e = tt
none_before (x ∷ fs) best f e = by_test (comes_before x best) refl (none_before fs x f) (none_before fs best f) e
  where
    by_test : (t : Bool) → comes_before x best ≡ t → (first_in (Some x) fs ≡ Some f → AllByRecursion (λ g. comes_before g f ≡ false) fs)
        → (first_in (Some best) fs ≡ Some f → AllByRecursion (λ g. comes_before g f ≡ false) fs) → first_in (cond t (Some x) (Some best)) fs ≡ Some f → AllByRecursion (λ g. comes_before g f ≡ false) (x ∷ fs)
    by_test true s new old k = (lower fs x f x k (not_before_itself x), new k)
    by_test false s new old k = (lower fs best f x k s, old k)

is_one : (fs : List Fault) (best f : Fault) → first_in (Some best) fs ≡ Some f → (best ≡ f) ⊎ Contains fs f
is_one [] best f e = inl (cc)
is_one (x ∷ fs) best f e = by_test (comes_before x best) (is_one fs x f) (is_one fs best f) e
  where
    new_one : (x ≡ f) ⊎ Contains fs f → Contains (x ∷ fs) f
    new_one (inl s) = (0, omega arith, s)
    new_one (inr k) = Contains-append_right (x ∷ []) fs f k

    old_one : (best ≡ f) ⊎ Contains fs f → (best ≡ f) ⊎ Contains (x ∷ fs) f
    old_one (inl s) = inl s
    old_one (inr k) = inr (Contains-append_right (x ∷ []) fs f k)

    by_test : (t : Bool) → (first_in (Some x) fs ≡ Some f → (x ≡ f) ⊎ Contains fs f) → (first_in (Some best) fs ≡ Some f → (best ≡ f) ⊎ Contains fs f) → first_in (cond t (Some x) (Some best)) fs ≡ Some f → (best ≡ f) ⊎ Contains (x ∷ fs) f
    by_test true new old k = inr (new_one (new k))
    by_test false new old k = old_one (old k)

pub first_is_least : (fs : List Fault) (f : Fault) → first_in None fs ≡ Some f → Contains fs f × AllByRecursion (λ g. comes_before g f ≡ false) fs
first_is_least [] f e = absurd (cc)
first_is_least (x ∷ fs) f e = (one (is_one fs x f e), (lower fs x f x e (not_before_itself x), none_before fs x f e))
  where
    one : (x ≡ f) ⊎ Contains fs f → Contains (x ∷ fs) f
    one (inl s) = (0, omega arith, s)
    one (inr k) = Contains-append_right (x ∷ []) fs f k
