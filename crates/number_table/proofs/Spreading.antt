-- What is kept, as a list of all: one that is read, written, forgotten, and one that comes.
use Rattle.std.proofs.Common.{◌≡◌, ℕ, zero, suc, ◌+◌, ◌<◌, ◌≤◌, Bool, true, false, List, [], ◌∷◌, ◌++◌, length, get_or, nat_eq, if◌then◌else◌, refl, sym, ◌∙◌, ap, subst, arith}
use Rattle.std.specs.Prelude.{Option, Some, None, slice_set, slice_index_or}
use Rattle.std.specs.List.{AllByRecursion, remove}
use Rattle.std.proofs.lemmas.Bool.Decides.{nat_tests}
use Rattle.number_table.specs.declared.numbered.Numbered.{Numbered}
use Rattle.number_table.specs.Numbers.{Rise, held, spread}

pub itself : (n : ℕ) → nat_eq n n ≡ true
itself n = grind (arith, nat_tests)

apart : (a b : ℕ) → b < a → nat_eq a b ≡ false
apart a b l = grind (arith, nat_tests)

pub under : (a b : ℕ) → a < b → nat_eq a b ≡ false
under a b l = grind (arith, nat_tests)

equal : (a b : ℕ) → nat_eq a b ≡ true → a ≡ b
equal a b h = grind (arith, nat_tests)

above : (a b : ℕ) → b ≤ a → nat_eq a b ≡ false → b + 1 ≤ a
above a b l h = grind (arith, nat_tests)

-- number by number: it is the first that is kept, or it isn't kept
pub data Spreads {A : Type 0} : ℕ → ℕ → List (Numbered A) → Type 0 where
  done : {from : ℕ} → Spreads from zero []
  here : {from n : ℕ} {x : Numbered A} {xs : List (Numbered A)} → x.number ≡ from → Spreads (from + 1) n xs → Spreads from (suc n) (x ∷ xs)
  gap : {from n : ℕ} {xs : List (Numbered A)} → Rise (from + 1) (from + 1 + n) xs → Spreads (from + 1) n xs → Spreads from (suc n) xs

data First {A : Type 0} (from to : ℕ) (x : Numbered A) (xs : List (Numbered A)) : Type 0 where
  at_first : x.number ≡ from → First from to x xs
  later : Rise (from + 1) to (x ∷ xs) → First from to x xs

module _ {A : Type 0} where
  pub rise_le : (from to : ℕ) (kept : List (Numbered A)) → Rise from to kept → from ≤ to
  rise_le from to [] rise = rise
  rise_le from to (x ∷ xs) rise = let first = rise.0 in let rest = rise_le (x.number + 1) to xs rise.1 in omega (arith, first, rest)

  pub rise_lower : (from more to : ℕ) (kept : List (Numbered A)) → from ≤ more → Rise more to kept → Rise from to kept
  rise_lower from more to [] l rise = omega (arith, l, rise)
  rise_lower from more to (x ∷ xs) l rise = (let first = rise.0 in omega (arith, l, first), rise.1)

  -- the order stays where one is written, forgotten, or comes
  pub rise_set : (from to : ℕ) (kept : List (Numbered A)) (k : ℕ) (t : Numbered A) (y : A) → Rise from to kept → k < length kept → t ≡ get_or kept k t → Rise from to (slice_set kept k (record { number = t.number; item = y }))
  rise_set from to [] k t y rise l at = absurd (omega (arith, l))
  rise_set from to (x ∷ xs) zero t y rise l at = subst (λ (q : Numbered A). (from ≤ q.number) × Rise (q.number + 1) to xs) (sym at) rise
  rise_set from to (x ∷ xs) (suc k) t y rise l at = (rise.0, rise_set (x.number + 1) to xs k t y rise.1 (omega (arith, l)) at)

  pub rise_remove : (from to : ℕ) (kept : List (Numbered A)) (k : ℕ) → Rise from to kept → Rise from to (remove kept k)
  rise_remove from to [] zero rise = rise
  rise_remove from to [] (suc k) rise = rise
  rise_remove from to (x ∷ xs) zero rise = let first = rise.0 in rise_lower from (x.number + 1) to xs (omega (arith, first)) rise.1
  rise_remove from to (x ∷ xs) (suc k) rise = (rise.0, rise_remove (x.number + 1) to xs k rise.1)

  pub rise_push : (from to : ℕ) (kept : List (Numbered A)) (y : A) → Rise from to kept → Rise from (to + 1) (kept ++ record { number = to; item = y } ∷ [])
  rise_push from to [] y rise = (rise, omega arith)
  rise_push from to (x ∷ xs) y rise = (rise.0, rise_push (x.number + 1) to xs y rise.1)

  pub held_below : (e from to : ℕ) (xs : List (Numbered A)) → e < from → Rise from to xs → held e xs ≡ None
  held_below e from to [] l rise = refl
  held_below e from to (x ∷ xs) l rise = let first = rise.0 in ap (λ b. if b then Some x.item else held e xs) (apart x.number e (omega (arith, l, first))) ∙ held_below e (x.number + 1) to xs (omega (arith, l, first)) rise.1

  first_of : (from to : ℕ) (x : Numbered A) (xs : List (Numbered A)) → Rise from to (x ∷ xs) → First from to x xs
  first_of from to x xs rise = go (nat_eq x.number from) refl
    where
      go : (b : Bool) → nat_eq x.number from ≡ b → First from to x xs
      go true e = at_first (equal x.number from e)
      go false e = later (above x.number from rise.0 e, rise.1)

  spreads : (from n to : ℕ) (kept : List (Numbered A)) → to ≡ from + n → Rise from to kept → Spreads from n kept
  spreads from zero to [] e rise = done
  spreads from zero to (x ∷ xs) e rise = let first = rise.0 in let rest = rise_le (x.number + 1) to xs rise.1 in absurd (omega (arith, first, rest, e))
  spreads from (suc n) to [] e rise = let more : from + 1 ≤ to = omega (arith, e) in gap (omega arith) (spreads (from + 1) n to [] (omega (arith, e)) more)
  spreads from (suc n) to (x ∷ xs) e rise = elim (first_of from to x xs rise) [
    | at_first h ↦ here h (spreads (from + 1) n to xs (omega (arith, e)) (subst (λ m. Rise (m + 1) to xs) h rise.1))
    | later h ↦ gap (subst (λ m. Rise (from + 1) m (x ∷ xs)) {x = to} {y = from + 1 + n} (omega (arith, e)) h) (spreads (from + 1) n to (x ∷ xs) (omega (arith, e)) h)
  ]

  pub spreads_of : (n : ℕ) (kept : List (Numbered A)) → Rise 0 n kept → Spreads 0 n kept
  spreads_of n kept rise = spreads 0 n n kept (omega arith) rise

  -- each number lies behind the first
  number_from : {from n : ℕ} {kept : List (Numbered A)} → Spreads from n kept → (k : ℕ) (t : Numbered A) → k < length kept → t ≡ get_or kept k t → from ≤ t.number
  number_from done k t l at = absurd (omega (arith, l))
  number_from (here h rest) zero t l at = let same = ap (λ (q : Numbered A). q.number) at in omega (arith, h, same)
  number_from (here h rest) (suc k) t l at = let more = number_from rest k t (omega (arith, l)) at in omega (arith, more)
  number_from (gap rise rest) k t l at = let more = number_from rest k t l at in omega (arith, more)

-- what holds of each that is kept

module _ {A : Type 0} (P : Numbered A → Type 0) where
  pub all_set : (kept : List (Numbered A)) (k : ℕ) (y : Numbered A) → P y → AllByRecursion P kept → AllByRecursion P (slice_set kept k y)
  all_set [] k y p all = tt
  all_set (x ∷ xs) zero y p all = (p, all.1)
  all_set (x ∷ xs) (suc k) y p all = (all.0, all_set xs k y p all.1)

  pub all_remove : (kept : List (Numbered A)) (k : ℕ) → AllByRecursion P kept → AllByRecursion P (remove kept k)
  all_remove [] zero all = tt
  all_remove [] (suc k) all = tt
  all_remove (x ∷ xs) zero all = all.1
  all_remove (x ∷ xs) (suc k) all = (all.0, all_remove xs k all.1)

  pub all_push : (kept : List (Numbered A)) (y : Numbered A) → P y → AllByRecursion P kept → AllByRecursion P (kept ++ y ∷ [])
  all_push [] y p all = (p, tt)
  all_push (x ∷ xs) y p all = (all.0, all_push xs y p all.1)

  pub all_at : (kept : List (Numbered A)) (k : ℕ) (t : Numbered A) → k < length kept → t ≡ get_or kept k t → AllByRecursion P kept → P t
  all_at [] k t l at all = absurd (omega (arith, l))
  all_at (x ∷ xs) zero t l at all = subst P (sym at) all.0
  all_at (x ∷ xs) (suc k) t l at all = all_at xs k t (omega (arith, l)) at all.1

-- where nothing is kept stands one value

module _ {A : Type 0} (gone : A) where
  pub spread_length : (from n : ℕ) (kept : List (Numbered A)) → length (spread gone from n kept) ≡ n
  spread_length from zero kept = refl
  spread_length from (suc n) [] = ap suc (spread_length (from + 1) n [])
  spread_length from (suc n) (x ∷ xs) = elim (nat_eq x.number from) as (λ b. length (if b then x.item ∷ spread gone (from + 1) n xs else gone ∷ spread gone (from + 1) n (x ∷ xs)) ≡ suc n) [
    | true ↦ ap suc (spread_length (from + 1) n xs)
    | false ↦ ap suc (spread_length (from + 1) n (x ∷ xs))
  ]

  -- the first of the numbers is kept, or it isn't
  pub spread_here : (from n : ℕ) (x : Numbered A) (xs : List (Numbered A)) → x.number ≡ from → spread gone from (suc n) (x ∷ xs) ≡ x.item ∷ spread gone (from + 1) n xs
  spread_here from n x xs e = ap (λ b. if b then x.item ∷ spread gone (from + 1) n xs else gone ∷ spread gone (from + 1) n (x ∷ xs)) (ap (λ m. nat_eq m from) e ∙ itself from)

  pub spread_gone : (from to n : ℕ) (xs : List (Numbered A)) → Rise (from + 1) to xs → spread gone from (suc n) xs ≡ gone ∷ spread gone (from + 1) n xs
  spread_gone from to n [] rise = refl
  spread_gone from to n (x ∷ xs) rise = ap (λ b. if b then x.item ∷ spread gone (from + 1) n xs else gone ∷ spread gone (from + 1) n (x ∷ xs)) (let first = rise.0 in apart x.number from (omega (arith, first)))

  abbrev pub or_gone : Option A → A
  or_gone (Some s) = s
  or_gone None = gone

  -- what is read of a number
  pub spread_read : {from n : ℕ} {kept : List (Numbered A)} → Spreads from n kept → (d : A) (i : ℕ) → i < n → slice_index_or (spread gone from n kept) i d ≡ or_gone (held (from + i) kept)
  spread_read done d i l = absurd (omega (arith, l))
  spread_read {from} (here {n = n} {x = x} {xs = xs} h rest) d zero l = ap (λ ys. slice_index_or ys zero d) (spread_here from n x xs h) ∙ sym (ap (λ b. or_gone (if b then Some x.item else held (from + zero) xs)) (ap (λ m. nat_eq m (from + zero)) h ∙ subst (λ m. nat_eq from m ≡ true) {x = from} {y = from + zero} (omega arith) (itself from)))
  spread_read {from} (here {n = n} {x = x} {xs = xs} h rest) d (suc i) l = ap (λ ys. slice_index_or ys (suc i) d) (spread_here from n x xs h) ∙ (spread_read rest d i (omega (arith, l))
      ∙ (ap (λ m. or_gone (held m xs)) {x = from + 1 + i} {y = from + suc i} (omega arith) ∙ sym (ap (λ b. or_gone (if b then Some x.item else held (from + suc i) xs)) (under x.number (from + suc i) (omega (arith, h))))))
  spread_read {from} (gap {n = n} {xs = xs} rise rest) d zero l = ap (λ ys. slice_index_or ys zero d) (spread_gone from (from + 1 + n) n xs rise) ∙ sym (ap or_gone (held_below (from + zero) (from + 1) (from + 1 + n) xs (omega arith) rise))
  spread_read {from} (gap {n = n} {xs = xs} rise rest) d (suc i) l = ap (λ ys. slice_index_or ys (suc i) d) (spread_gone from (from + 1 + n) n xs rise) ∙ (spread_read rest d i (omega (arith, l)) ∙ ap (λ m. or_gone (held m xs)) {x = from + 1 + i} {y = from + suc i} (omega arith))

  -- one that is kept is written
  pub spread_set : {from n : ℕ} {kept : List (Numbered A)} → Spreads from n kept → (i k : ℕ) (t : Numbered A) (y : A) → k < length kept → t ≡ get_or kept k t → t.number ≡ from + i → spread gone from n (slice_set kept k (record { number = t.number; item = y })) ≡ slice_set (spread gone from n kept) i y
  spread_set done i k t y l at is = absurd (omega (arith, l))
  spread_set {from} (here {n = n} {x = x} {xs = xs} h rest) zero zero t y l at is = spread_here from n (record { number = t.number; item = y }) xs (is ∙ omega arith) ∙ sym (ap (λ ys. slice_set ys zero y) (spread_here from n x xs h))
  spread_set (here h rest) (suc i) zero t y l at is = let same = ap (λ (q : Numbered A). q.number) at in absurd (omega (arith, same, h, is))
  spread_set (here h rest) zero (suc k) t y l at is = let more = number_from rest k t (omega (arith, l)) at in absurd (omega (arith, more, is))
  spread_set {from} (here {n = n} {x = x} {xs = xs} h rest) (suc i) (suc k) t y l at is = spread_here from n x (slice_set xs k (record { number = t.number; item = y })) h
      ∙ (ap (λ ys. x.item ∷ ys) (spread_set rest i k t y (omega (arith, l)) at (is ∙ omega arith)) ∙ sym (ap (λ ys. slice_set ys (suc i) y) (spread_here from n x xs h)))
  spread_set (gap rise rest) zero k t y l at is = let more = number_from rest k t l at in absurd (omega (arith, more, is))
  spread_set {from} (gap {n = n} {xs = xs} rise rest) (suc i) k t y l at is = spread_gone from (from + 1 + n) n (slice_set xs k (record { number = t.number; item = y })) (rise_set (from + 1) (from + 1 + n) xs k t y rise l at)
      ∙ (ap (λ ys. gone ∷ ys) (spread_set rest i k t y l at (is ∙ omega arith)) ∙ sym (ap (λ ys. slice_set ys (suc i) y) (spread_gone from (from + 1 + n) n xs rise)))

  -- one that is kept is forgotten
  pub spread_remove : {from n : ℕ} {kept : List (Numbered A)} → Spreads from n kept → (i k to : ℕ) (t : Numbered A) → Rise from to kept → k < length kept → t ≡ get_or kept k t → t.number ≡ from + i → spread gone from n (remove kept k) ≡ slice_set (spread gone from n kept) i gone
  spread_remove done i k to t rise l at is = absurd (omega (arith, l))
  spread_remove {from} (here {n = n} {x = x} {xs = xs} h rest) zero zero to t rise l at is = spread_gone from to n xs (subst (λ m. Rise (m + 1) to xs) h rise.1) ∙ sym (ap (λ ys. slice_set ys zero gone) (spread_here from n x xs h))
  spread_remove (here h rest) (suc i) zero to t rise l at is = let same = ap (λ (q : Numbered A). q.number) at in absurd (omega (arith, same, h, is))
  spread_remove (here h rest) zero (suc k) to t rise l at is = let more = number_from rest k t (omega (arith, l)) at in absurd (omega (arith, more, is))
  spread_remove {from} (here {n = n} {x = x} {xs = xs} h rest) (suc i) (suc k) to t rise l at is = spread_here from n x (remove xs k) h
      ∙ (ap (λ ys. x.item ∷ ys) (spread_remove rest i k to t (subst (λ m. Rise (m + 1) to xs) h rise.1) (omega (arith, l)) at (is ∙ omega arith)) ∙ sym (ap (λ ys. slice_set ys (suc i) gone) (spread_here from n x xs h)))
  spread_remove (gap behind rest) zero k to t rise l at is = let more = number_from rest k t l at in absurd (omega (arith, more, is))
  spread_remove {from} (gap {n = n} {xs = xs} behind rest) (suc i) k to t rise l at is = spread_gone from (from + 1 + n) n (remove xs k) (rise_remove (from + 1) (from + 1 + n) xs k behind)
      ∙ (ap (λ ys. gone ∷ ys) (spread_remove rest i k (from + 1 + n) t behind l at (is ∙ omega arith)) ∙ sym (ap (λ ys. slice_set ys (suc i) gone) (spread_gone from (from + 1 + n) n xs behind)))

  -- one comes
  pub spread_push : {from n : ℕ} {kept : List (Numbered A)} → Spreads from n kept → (to : ℕ) (y : A) → to ≡ from + n → spread gone from (suc n) (kept ++ record { number = to; item = y } ∷ []) ≡ spread gone from n kept ++ y ∷ []
  spread_push {from} done to y e = spread_here from zero (record { number = to; item = y }) [] (e ∙ omega arith)
  spread_push {from} (here {n = n} {x = x} {xs = xs} h rest) to y e = spread_here from (suc n) x (xs ++ record { number = to; item = y } ∷ []) h
      ∙ (ap (λ ys. x.item ∷ ys) (spread_push rest to y (e ∙ omega arith)) ∙ sym (ap (λ ys. ys ++ y ∷ []) (spread_here from n x xs h)))
  spread_push {from} (gap {n = n} {xs = xs} rise rest) to y e =
      let same : from + 1 + n ≡ to = omega (arith, e) in
      spread_gone from (to + 1) (suc n) (xs ++ record { number = to; item = y } ∷ []) (rise_push (from + 1) to xs y (subst (λ m. Rise (from + 1) m xs) same rise))
      ∙ (ap (λ ys. gone ∷ ys) (spread_push rest to y (sym same)) ∙ sym (ap (λ ys. ys ++ y ∷ []) (spread_gone from (from + 1 + n) n xs rise)))
