-- The last starts by rising numbers of their groups.
use Rattle.std.proofs.Common.{◌≡◌, ℕ, zero, suc, ◌+◌, ◌<◌, ◌≤◌, Bool, true, false, List, [], ◌∷◌, ◌++◌, ◌⊎◌, length, get_or, nat_eq, nat_lt, inl, inr, refl, ap, sym, subst, ◌∙◌, arith}
use Rattle.std.specs.Prelude.{Option, Some, None, slice_get, slice_set}
use Rattle.std.specs.List.{remove}
use Rattle.std.specs.List.Sorted.{IsPartitionPoint, IsPartitionedBy}
use Rattle.std.proofs.lemmas.Bool.{cases_lt}
use Rattle.std.proofs.lemmas.Bool.Decides.{nat_tests}
use Rattle.std.proofs.lemmas.Option.{slice_get_within}
use Rattle.event_model.proofs.Places.{Same, same, other, compare, get_push_other, get_set_other, get_set_same, item_at, same_item}
use Rattle.mux_tables.specs.declared.tables.Start.{Start}
use Rattle.mux_tables.specs.Stands.{IsLost, Rise}

none_some : {A : Type 0} {x : A} → ◌≡◌ {A = Option A} None (Some x) → ⊥
none_some e = cc

get_there : (xs : List Start) (p : ℕ) (x d : Start) → slice_get xs p ≡ Some x → get_or xs p d ≡ x
get_there [] p x d at = absurd (none_some at)
get_there (w ∷ ws) zero x d at = same_item at
get_there (w ∷ ws) (suc p) x d at = get_there ws p x d at

rise_from : (from : ℕ) (xs : List Start) (p : ℕ) (x : Start) → Rise from xs → slice_get xs p ≡ Some x → from ≤ x.life.group
rise_from from [] p x rise at = absurd (none_some at)
rise_from from (w ∷ ws) zero x rise at = subst (λ (y : Start). from ≤ y.life.group) (same_item at) rise.0
rise_from from (w ∷ ws) (suc p) x rise at = let first = rise.0 in let rest = rise_from (w.life.group + 1) ws p x rise.1 at in omega (arith, first, rest)

-- a later place is of a later group
rise_order : (from : ℕ) (xs : List Start) (i j : ℕ) (x z : Start) → Rise from xs → i < j → slice_get xs i ≡ Some x → slice_get xs j ≡ Some z → x.life.group < z.life.group
rise_order from [] i j x z rise l here there = absurd (none_some here)
rise_order from (w ∷ ws) i zero x z rise l here there = absurd (omega (arith, l))
rise_order from (w ∷ ws) zero (suc j) x z rise l here there = let rest = rise_from (w.life.group + 1) ws j z rise.1 there in let own = ap (λ (y : Start). y.life.group) (same_item here) in omega (arith, rest, own)
rise_order from (w ∷ ws) (suc i) (suc j) x z rise l here there = rise_order (w.life.group + 1) ws i j x z rise.1 (omega (arith, l)) here there

-- two places are of two groups
pub groups_apart : (xs : List Start) (i j : ℕ) (x z : Start) → Rise 0 xs → slice_get xs i ≡ Some x → slice_get xs j ≡ Some z → (j ≡ i → ⊥) → z.life.group ≡ x.life.group → ⊥
groups_apart xs i j x z rise here there d e = elim (cases_lt i j) [
  | inl l ↦ let k = rise_order 0 xs i j x z rise l here there in absurd (omega (arith, k, e))
  | inr l ↦ elim (cases_lt j i) [
    | inl m ↦ let k = rise_order 0 xs j i z x rise m there here in absurd (omega (arith, k, e))
    | inr m ↦ d (omega (arith, l, m))
  ]
]

-- where the last start of one group changes
pub rise_set : (from : ℕ) (xs : List Start) (i : ℕ) (x y : Start) → slice_get xs i ≡ Some x → y.life.group ≡ x.life.group → Rise from xs → Rise from (slice_set xs i y)
rise_set from [] i x y at own rise = tt
rise_set from (w ∷ ws) zero x y at own rise = let same : y.life.group ≡ w.life.group = own ∙ ap (λ (z : Start). z.life.group) (sym (same_item at)) in (subst (λ n. from ≤ n) (sym same) rise.0, subst (λ n. Rise (n + 1) ws) (sym same) rise.1)
rise_set from (w ∷ ws) (suc i) x y at own rise = (rise.0, rise_set (w.life.group + 1) ws i x y at own rise.1)

-- where one is added
pub rise_push : (from : ℕ) (xs : List Start) (y : Start) → from ≤ y.life.group → ((p : ℕ) (x : Start) → slice_get xs p ≡ Some x → x.life.group < y.life.group) → Rise from xs → Rise from (xs ++ y ∷ [])
rise_push from [] y low under rise = (low, tt)
rise_push from (w ∷ ws) y low under rise = (rise.0, rise_push (w.life.group + 1) ws y (let k = under 0 w refl in omega (arith, k)) (λ p x at. under (suc p) x at) rise.1)

-- where one is taken out
rise_down : (low from : ℕ) (xs : List Start) → low ≤ from → Rise from xs → Rise low xs
rise_down low from [] l rise = tt
rise_down low from (w ∷ ws) l rise = (let first = rise.0 in omega (arith, l, first), rise.1)

pub rise_remove : (from : ℕ) (xs : List Start) (i : ℕ) → Rise from xs → Rise from (remove xs i)
rise_remove from [] zero rise = tt
rise_remove from [] (suc i) rise = tt
rise_remove from (w ∷ ws) zero rise = rise_down from (w.life.group + 1) ws (let first = rise.0 in omega (arith, first)) rise.1
rise_remove from (w ∷ ws) (suc i) rise = (rise.0, rise_remove (w.life.group + 1) ws i rise.1)

-- what is left was there, in another place than the one that is taken out
abbrev pub place_before : ℕ → ℕ → ℕ
place_before zero p = suc p
place_before (suc i) zero = zero
place_before (suc i) (suc p) = suc (place_before i p)

pub left_there : {A : Type 0} (xs : List A) (i p : ℕ) → slice_get (remove xs i) p ≡ slice_get xs (place_before i p)
left_there [] zero p = refl
left_there [] (suc i) zero = refl
left_there [] (suc i) (suc p) = refl
left_there (w ∷ ws) zero p = refl
left_there (w ∷ ws) (suc i) zero = refl
left_there (w ∷ ws) (suc i) (suc p) = left_there ws i p

pub length_left : {A : Type 0} (xs : List A) (i : ℕ) → i < length xs → length (remove xs i) + 1 ≡ length xs
length_left [] i l = absurd (omega (arith, l))
length_left (w ∷ ws) zero l = let own : length (remove (w ∷ ws) zero) ≡ length ws = refl in omega (arith, own)
length_left (w ∷ ws) (suc i) l = let own : length (remove (w ∷ ws) (suc i)) ≡ suc (length (remove ws i)) = refl in let rest = length_left ws i (omega (arith, l)) in omega (arith, own, rest)

-- each other place is left
abbrev place_behind : ℕ → ℕ → ℕ
place_behind zero zero = zero
place_behind zero (suc p) = p
place_behind (suc i) zero = zero
place_behind (suc i) (suc p) = suc (place_behind i p)

stays_left : {A : Type 0} (xs : List A) (i p : ℕ) → (p ≡ i → ⊥) → slice_get (remove xs i) (place_behind i p) ≡ slice_get xs p
stays_left xs zero zero d = absurd (d refl)
stays_left [] zero (suc p) d = refl
stays_left (w ∷ ws) zero (suc p) d = refl
stays_left [] (suc i) zero d = refl
stays_left (w ∷ ws) (suc i) zero d = refl
stays_left [] (suc i) (suc p) d = refl
stays_left (w ∷ ws) (suc i) (suc p) d = stays_left ws i p (λ e. d (ap suc e))

-- a group of which nothing is kept behind it is the one whose start is taken out, or nothing was kept of it
pub lost_left : (g i : ℕ) (xs : List Start) → IsLost g (remove xs i) → (p : ℕ) (x : Start) → slice_get xs p ≡ Some x → x.life.group ≡ g → (p ≡ i → ⊥) → ⊥
lost_left g i xs lost p x at own d = lost (place_behind i p) x (stays_left xs i p d ∙ at) own

-- the same where one changes
pub lost_set : (g i : ℕ) (xs : List Start) (x y : Start) → slice_get xs i ≡ Some x → y.life.group ≡ x.life.group → IsLost g (slice_set xs i y) → IsLost g xs
lost_set g i xs x y at own lost p z there is = go p z (compare i p) there is
  where
    go : (p : ℕ) (z : Start) → Same i p → slice_get xs p ≡ Some z → z.life.group ≡ g → ⊥
    go _ z same there is = lost i y (get_set_same xs i y (slice_get_within xs i x at)) (own ∙ (ap (λ (w : Start). w.life.group) (same_item (sym at ∙ there)) ∙ is))
    go p z (other h) there is = lost p z (get_set_other xs i p y h ∙ there) is

pub lost_push : (g : ℕ) (xs : List Start) (y : Start) → IsLost g (xs ++ y ∷ []) → IsLost g xs
lost_push g xs y lost p z there is = lost p z (get_push_other xs y p (λ e. let k = slice_get_within xs p z there in absurd (omega (arith, k, e))) ∙ there) is

-- where a bisection ends
module _ (lasts : List Start) (g at : ℕ) (rise : Rise 0 lasts) (inside : at ≤ length lasts)
    (parts : IsPartitionedBy (λ (x : Start). nat_lt x.life.group g) lasts → IsPartitionPoint (λ (x : Start). nat_lt x.life.group g ≡ true) (λ (x : Start). nat_lt x.life.group g ≡ false) lasts at) where
  read : (p : ℕ) (x d : Start) → slice_get lasts p ≡ Some x → get_or lasts p d ≡ x
  read p x d there = get_there lasts p x d there

  partitioned : IsPartitionedBy (λ (x : Start). nat_lt x.life.group g) lasts
  partitioned i j d le within pass =
      let z = item_at lasts j within in
      let x = item_at lasts i (omega (arith, le, within)) in
      subst (λ (w : Start). nat_lt w.life.group g ≡ true) (sym (read i x.0 d x.1))
      (lower x.0 z.0 (subst (λ (w : Start). nat_lt w.life.group g ≡ true) (read j z.0 d z.1) pass) (before i j x.0 z.0 le x.1 z.1))
    where
      before : (i j : ℕ) (x z : Start) → i ≤ j → slice_get lasts i ≡ Some x → slice_get lasts j ≡ Some z → x.life.group ≤ z.life.group
      before i j x z le here there = elim (cases_lt i j) [
        | inl l ↦ let k = rise_order 0 lasts i j x z rise l here there in omega (arith, k)
        | inr l ↦ let same : i ≡ j = omega (arith, l, le) in let own = ap (λ (w : Start). w.life.group) (same_item (sym here ∙ (ap (slice_get lasts) same ∙ there))) in omega (arith, own)
      ]

      lower : (x z : Start) → nat_lt z.life.group g ≡ true → x.life.group ≤ z.life.group → nat_lt x.life.group g ≡ true
      lower x z pass le = grind (arith, nat_tests)

  -- it lies behind those of lower groups
  below : (p : ℕ) (x : Start) → slice_get lasts p ≡ Some x → p < at → x.life.group ≡ g → ⊥
  below p x there l is = off (subst (λ (w : Start). nat_lt w.life.group g ≡ true) (read p x x there) ((parts partitioned).0 p x (omega arith) l))
    where
      off : nat_lt x.life.group g ≡ true → ⊥
      off h = grind (arith, nat_tests)

  pub past_lost : length lasts ≤ at → IsLost g lasts
  past_lost past p x there is = below p x there (let k = slice_get_within lasts p x there in omega (arith, past, k)) is

  pub other_lost : (z : Start) → slice_get lasts at ≡ Some z → (z.life.group ≡ g → ⊥) → IsLost g lasts
  other_lost z here not_it p x there is = elim (cases_lt p at) [
    | inl l ↦ below p x there l is
    | inr l ↦ elim (cases_lt at p) [
      | inl m ↦ let k = rise_order 0 lasts at p z x rise m here there in let low = high z here in absurd (omega (arith, k, low, is))
      | inr m ↦ let same : p ≡ at = omega (arith, l, m) in not_it (ap (λ (w : Start). w.life.group) (same_item (sym here ∙ (ap (slice_get lasts) (sym same) ∙ there))) ∙ is)
    ]
  ]
    where
      over : (z : Start) → nat_lt z.life.group g ≡ false → g ≤ z.life.group
      over z h = grind (arith, nat_tests)

      high : (z : Start) → slice_get lasts at ≡ Some z → g ≤ z.life.group
      high z here = over z (subst (λ (w : Start). nat_lt w.life.group g ≡ false) (read at z z here) ((parts partitioned).1 at z (omega arith) (slice_get_within lasts at z here)))

-- the same, where these are read of a list
module _ (lasts xs : List Start) (g at : ℕ) (is : xs ≡ lasts) (rise : Rise 0 lasts) (inside : at ≤ length xs)
    (parts : IsPartitionedBy (λ (x : Start). nat_lt x.life.group g) xs → IsPartitionPoint (λ (x : Start). nat_lt x.life.group g ≡ true) (λ (x : Start). nat_lt x.life.group g ≡ false) xs at) where
  pub past_lost_in : length lasts ≤ at → IsLost g lasts
  past_lost_in past = subst (IsLost g) is (past_lost xs g at (subst (Rise 0) (sym is) rise) inside parts (subst (λ ys. length ys ≤ at) (sym is) past))

  pub other_lost_in : (z : Start) → slice_get lasts at ≡ Some z → (z.life.group ≡ g → ⊥) → IsLost g lasts
  other_lost_in z here not_it = subst (IsLost g) is (other_lost xs g at (subst (Rise 0) (sym is) rise) inside parts z (ap (λ ys. slice_get ys at) is ∙ here) not_it)

-- the place of a group among those that are kept
pub record KeptAt (g : ℕ) (lasts : List Start) : Type 0 where
  pub place : ℕ
  pub last : Start
  pub at : slice_get lasts place ≡ Some last
  pub group : last.life.group ≡ g

pub kept_or_lost : (g : ℕ) (lasts : List Start) → KeptAt g lasts ⊎ IsLost g lasts
kept_or_lost g [] = inr (λ p x at own. none_some at)
kept_or_lost g (w ∷ ws) = go (nat_eq w.life.group g) refl (kept_or_lost g ws)
  where
    go : (b : Bool) → nat_eq w.life.group g ≡ b → KeptAt g ws ⊎ IsLost g ws → KeptAt g (w ∷ ws) ⊎ IsLost g (w ∷ ws)
    go true own rest = inl (record { place = zero; last = w; at = refl; group = grind (arith, nat_tests) })
    go false own (inl k) = inl (record { place = suc (k.place); last = k.last; at = k.at; group = k.group })
    go false own (inr lost) = inr (λ p x. at p x)
      where
        unlike : w.life.group ≡ g → ⊥
        unlike e = grind (arith, nat_tests)

        at : (p : ℕ) (x : Start) → slice_get (w ∷ ws) p ≡ Some x → x.life.group ≡ g → ⊥
        at zero x here is = unlike (ap (λ (y : Start). y.life.group) (same_item here) ∙ is)
        at (suc p) x here is = lost p x here is
