-- A spot tells where a place is.
use Rattle.std.proofs.Common.{◌≡◌, ℕ, suc, zero, ◌+◌, ◌-◌, ◌≤◌, Bool, true, false, cond, nat_eq, List, [], ◌∷◌, ◌++◌, length, refl, sym, ap, ◌∙◌, arith, subst}
use Rattle.std.specs.Prelude.{Some, None, IsUtf8, nat_lt}
use Rattle.std.specs.Char.{len_utf8}
use Rattle.std.specs.Str.{chars}
use Rattle.std.proofs.lemmas.Bool.Decides.{nat_tests}
use Rattle.std.proofs.lemmas.Str.{chars-append}
use Rattle.position_codec.specs.declared.Encoding.{Encoding}
use Rattle.position_codec.specs.declared.Place.{Place}
use Rattle.position_codec.specs.declared.spot.Spot.{Spot}
use Rattle.position_codec.specs.Position.{bytes, lines, offset_at, units}
use Rattle.position_codec.specs.Walk.{at, walk, past, past_within, going_on}
use Rattle.position_codec.specs.Spots.{spot_at, spot_first, spot_past, spot_behind, ahead, Stops}
use Rattle.position_codec.proofs.Places.{walk_is}
use Rattle.position_codec.proofs.Sorts.{Sort, is_feed, is_return, is_other, sort}
use Rattle.position_codec.proofs.Turns.{bytes_chars}

-- the place, seen from a spot
abbrev seen : Spot → ℕ → ℕ → Place
seen s k n = at (k - s.line) (cond (nat_eq s.line k) (n - s.column) n) s.returned

same_place : (r : Bool) (a b x y : ℕ) → a ≡ b → x ≡ y → at a x r ≡ at b y r
same_place r a b x y p q = λ i. at (p i) (q i) r

-- a line further on, or this one
data Where (l k m n : ℕ) : Type 0 where
  later : (d : ℕ) → k - l ≡ suc d → nat_eq l k ≡ false → Where l k m n
  here : l ≡ k → m ≤ n → Where l k m n

sought : (l k m n : ℕ) (r : Bool) → ahead (spot_at l m r) k n ≡ true → Where l k m n
sought l k m n r h = go (nat_lt l k) refl
  where
    go : (b : Bool) → nat_lt l k ≡ b → Where l k m n
    go true e = later (k - l - 1) (grind (arith, nat_tests, e)) (grind (arith, nat_tests, e))
    go false e = here (grind (arith, nat_tests, e, h)) (grind (arith, nat_tests, e, h))

first_unit : (n : ℕ) (b : Bool) → n ≡ cond b (n - 0) n
first_unit n true = omega arith
first_unit n false = refl

-- an end of line
feed_on : (e : Encoding) (l k m n : ℕ) → Where l k m n → ahead (spot_at (l + 1) 0 false) k n ≡ true → past_within e (cond (nat_eq l k) (n - m) n) 10 (k - l) ≡ Some (seen (spot_at (l + 1) 0 false) k n)
feed_on e l k m n (here f g) h = absurd (grind (arith, nat_tests, f, h))
feed_on e l k m n (later d f g) h = rw (f, g) (ap Some (same_place false d (k - (l + 1)) n (cond (nat_eq (l + 1) k) (n - 0) n) (omega (arith, f)) (first_unit n (nat_eq (l + 1) k))))

return_on : (e : Encoding) (l k m n : ℕ) → Where l k m n → ahead (spot_at (l + 1) 0 true) k n ≡ true → past_within e (cond (nat_eq l k) (n - m) n) 13 (k - l) ≡ Some (seen (spot_at (l + 1) 0 true) k n)
return_on e l k m n (here f g) h = absurd (grind (arith, nat_tests, f, h))
return_on e l k m n (later d f g) h = rw (f, g) (ap Some (same_place true d (k - (l + 1)) n (cond (nat_eq (l + 1) k) (n - 0) n) (omega (arith, f)) (first_unit n (nat_eq (l + 1) k))))

feed_stop : (e : Encoding) (l k m n : ℕ) → Where l k m n → ahead (spot_at (l + 1) 0 false) k n ≡ false → past_within e (cond (nat_eq l k) (n - m) n) 10 (k - l) ≡ None
feed_stop e l k m n (later d f g) h = absurd (grind (arith, nat_tests, f, h))
feed_stop e l k m n (here f g) h = let z : k - l ≡ 0 = omega (arith, f) in rw z refl

return_stop : (e : Encoding) (l k m n : ℕ) → Where l k m n → ahead (spot_at (l + 1) 0 true) k n ≡ false → past_within e (cond (nat_eq l k) (n - m) n) 13 (k - l) ≡ None
return_stop e l k m n (later d f g) h = absurd (grind (arith, nat_tests, f, h))
return_stop e l k m n (here f g) h = let z : k - l ≡ 0 = omega (arith, f) in rw z refl

-- another character
other_on : (e : Encoding) (l k m n c : ℕ) → nat_eq c 10 ≡ false → nat_eq c 13 ≡ false → Where l k m n → ahead (spot_at l (m + units e c) false) k n ≡ true → past_within e (cond (nat_eq l k) (n - m) n) c (k - l) ≡ Some (seen (spot_at l (m + units e c) false) k n)
other_on e l k m n c g h (later d p q) a = rw (p, q, g, h) refl
other_on e l k m n c g h (here p q) a =
    let z : k - l ≡ 0 = omega (arith, p) in
    let s : nat_eq l k ≡ true = grind (arith, nat_tests, p) in
    let fits : m + units e c ≤ n = grind (arith, nat_tests, p, a) in
    let lt : nat_lt (n - m) (units e c) ≡ false = grind (arith, nat_tests, fits) in
    rw (z, s, g, h, lt) (ap Some (same_place false 0 0 (n - m - units e c) (n - (m + units e c)) refl (omega arith)))

other_stop : (e : Encoding) (l k m n c : ℕ) → nat_eq c 10 ≡ false → nat_eq c 13 ≡ false → Where l k m n → ahead (spot_at l (m + units e c) false) k n ≡ false → past_within e (cond (nat_eq l k) (n - m) n) c (k - l) ≡ None
other_stop e l k m n c g h (later d p q) a = absurd (grind (arith, nat_tests, p, a))
other_stop e l k m n c g h (here p q) a =
    let z : k - l ≡ 0 = omega (arith, p) in
    let s : nat_eq l k ≡ true = grind (arith, nat_tests, p) in
    let lt : nat_lt (n - m) (units e c) ≡ true = grind (arith, nat_tests, p, q, a) in
    rw (z, s, g, h, lt) refl

on : (e : Encoding) (l m : ℕ) (r : Bool) (c k n : ℕ) → Sort c → Where l k m n → ahead (spot_past e (spot_at l m r) c) k n ≡ true → past e (seen (spot_at l m r) k n) c ≡ Some (seen (spot_past e (spot_at l m r) c) k n)
on e l m true c k n (is_feed x) w h = rw x refl
on e l m false c k n (is_feed x) w h =
    let P : ℕ → Type 0 = λ c. ahead (spot_past e (spot_at l m false) c) k n ≡ true → past e (seen (spot_at l m false) k n) c ≡ Some (seen (spot_past e (spot_at l m false) c) k n) in
    subst P (sym x) (λ h. feed_on e l k m n w h) h
on e l m true c k n (is_return x) w h =
    let P : ℕ → Type 0 = λ c. ahead (spot_past e (spot_at l m true) c) k n ≡ true → past e (seen (spot_at l m true) k n) c ≡ Some (seen (spot_past e (spot_at l m true) c) k n) in
    subst P (sym x) (λ h. return_on e l k m n w h) h
on e l m false c k n (is_return x) w h =
    let P : ℕ → Type 0 = λ c. ahead (spot_past e (spot_at l m false) c) k n ≡ true → past e (seen (spot_at l m false) k n) c ≡ Some (seen (spot_past e (spot_at l m false) c) k n) in
    subst P (sym x) (λ h. return_on e l k m n w h) h
on e l m true c k n (is_other x y) w h =
    let s : spot_past e (spot_at l m true) c ≡ spot_at l (m + units e c) false = rw (x, y) refl in
    let p : past e (seen (spot_at l m true) k n) c ≡ past_within e (cond (nat_eq l k) (n - m) n) c (k - l) = rw x refl in
    p ∙ (other_on e l k m n c x y w (subst (λ z. ahead z k n ≡ true) s h) ∙ ap (λ z. Some (seen z k n)) (sym s))
on e l m false c k n (is_other x y) w h =
    let s : spot_past e (spot_at l m false) c ≡ spot_at l (m + units e c) false = rw (x, y) refl in
    other_on e l k m n c x y w (subst (λ z. ahead z k n ≡ true) s h) ∙ ap (λ z. Some (seen z k n)) (sym s)

stop : (e : Encoding) (l m : ℕ) (r : Bool) (c k n : ℕ) → Sort c → Where l k m n → ahead (spot_at l m r) k n ≡ true → ahead (spot_past e (spot_at l m r) c) k n ≡ false → past e (seen (spot_at l m r) k n) c ≡ None
stop e l m true c k n (is_feed x) w a h =
    let s : spot_past e (spot_at l m true) c ≡ spot_at l m false = rw x refl in
    absurd (grind (arith, nat_tests, a, ap (λ z. ahead z k n) s, h))
stop e l m false c k n (is_feed x) w a h =
    let P : ℕ → Type 0 = λ c. ahead (spot_past e (spot_at l m false) c) k n ≡ false → past e (seen (spot_at l m false) k n) c ≡ None in
    subst P (sym x) (λ h. feed_stop e l k m n w h) h
stop e l m true c k n (is_return x) w a h =
    let P : ℕ → Type 0 = λ c. ahead (spot_past e (spot_at l m true) c) k n ≡ false → past e (seen (spot_at l m true) k n) c ≡ None in
    subst P (sym x) (λ h. return_stop e l k m n w h) h
stop e l m false c k n (is_return x) w a h =
    let P : ℕ → Type 0 = λ c. ahead (spot_past e (spot_at l m false) c) k n ≡ false → past e (seen (spot_at l m false) k n) c ≡ None in
    subst P (sym x) (λ h. return_stop e l k m n w h) h
stop e l m true c k n (is_other x y) w a h =
    let s : spot_past e (spot_at l m true) c ≡ spot_at l (m + units e c) false = rw (x, y) refl in
    let p : past e (seen (spot_at l m true) k n) c ≡ past_within e (cond (nat_eq l k) (n - m) n) c (k - l) = rw x refl in
    p ∙ other_stop e l k m n c x y w (subst (λ z. ahead z k n ≡ false) s h)
stop e l m false c k n (is_other x y) w a h =
    let s : spot_past e (spot_at l m false) c ≡ spot_at l (m + units e c) false = rw (x, y) refl in
    other_stop e l k m n c x y w (subst (λ z. ahead z k n ≡ false) s h)

step_on : (e : Encoding) (s : Spot) (c k n : ℕ) → ahead s k n ≡ true → ahead (spot_past e s c) k n ≡ true → past e (seen s k n) c ≡ Some (seen (spot_past e s c) k n)
step_on e s c k n a h = on e s.line s.column s.returned c k n (sort c) (sought s.line k s.column n s.returned a) h

step_stop : (e : Encoding) (s : Spot) (c k n : ℕ) → ahead s k n ≡ true → ahead (spot_past e s c) k n ≡ false → past e (seen s k n) c ≡ None
step_stop e s c k n a h = stop e s.line s.column s.returned c k n (sort c) (sought s.line k s.column n s.returned a) a h

-- a place that is ahead behind a character was ahead before it
before : (e : Encoding) (l m : ℕ) (r : Bool) (c k n : ℕ) → Sort c → ahead (spot_past e (spot_at l m r) c) k n ≡ true → ahead (spot_at l m r) k n ≡ true
before e l m true c k n (is_feed x) h =
    let s : spot_past e (spot_at l m true) c ≡ spot_at l m false = rw x refl in sym (ap (λ z. ahead z k n) s) ∙ h
before e l m false c k n (is_feed x) h =
    let s : spot_past e (spot_at l m false) c ≡ spot_at (l + 1) 0 false = rw x refl in
    let t : ahead (spot_at (l + 1) 0 false) k n ≡ true = sym (ap (λ z. ahead z k n) s) ∙ h in grind (arith, nat_tests, t)
before e l m true c k n (is_return x) h =
    let s : spot_past e (spot_at l m true) c ≡ spot_at (l + 1) 0 true = rw x refl in
    let t : ahead (spot_at (l + 1) 0 true) k n ≡ true = sym (ap (λ z. ahead z k n) s) ∙ h in grind (arith, nat_tests, t)
before e l m false c k n (is_return x) h =
    let s : spot_past e (spot_at l m false) c ≡ spot_at (l + 1) 0 true = rw x refl in
    let t : ahead (spot_at (l + 1) 0 true) k n ≡ true = sym (ap (λ z. ahead z k n) s) ∙ h in grind (arith, nat_tests, t)
before e l m true c k n (is_other x y) h =
    let s : spot_past e (spot_at l m true) c ≡ spot_at l (m + units e c) false = rw (x, y) refl in
    let t : ahead (spot_at l (m + units e c) false) k n ≡ true = sym (ap (λ z. ahead z k n) s) ∙ h in grind (arith, nat_tests, t)
before e l m false c k n (is_other x y) h =
    let s : spot_past e (spot_at l m false) c ≡ spot_at l (m + units e c) false = rw (x, y) refl in
    let t : ahead (spot_at l (m + units e c) false) k n ≡ true = sym (ap (λ z. ahead z k n) s) ∙ h in grind (arith, nat_tests, t)

was_ahead : (e : Encoding) (k n : ℕ) (xs : List ℕ) (s : Spot) → ahead (spot_behind e s xs) k n ≡ true → ahead s k n ≡ true
was_ahead e k n [] s h = h
was_ahead e k n (c ∷ xs) s h = before e s.line s.column s.returned c k n (sort c) (was_ahead e k n xs (spot_past e s c) h)

-- the walk goes on from a spot that is not behind the place
walk_on : (e : Encoding) (k n : ℕ) (ys xs : List ℕ) (s : Spot) → ahead (spot_behind e s xs) k n ≡ true → walk e (seen s k n) (xs ++ ys) ≡ bytes xs + walk e (seen (spot_behind e s xs) k n) ys
walk_on e k n ys [] s h = omega arith
walk_on e k n ys (c ∷ xs) s h =
    let next : ahead (spot_past e s c) k n ≡ true = was_ahead e k n xs (spot_past e s c) h in
    let now : ahead s k n ≡ true = before e s.line s.column s.returned c k n (sort c) next in
    let w = walk_on e k n ys xs (spot_past e s c) h in
    let t : walk e (seen s k n) (c ∷ xs ++ ys) ≡ len_utf8 c + walk e (seen (spot_past e s c) k n) (xs ++ ys) = ap (λ o. going_on (len_utf8 c) (λ q. walk e q (xs ++ ys)) o) (step_on e s c k n now next) in
    omega (arith, t, w)

-- and ends before one that is behind it
walk_ends : (e : Encoding) (k n : ℕ) (ys xs : List ℕ) (s : Spot) → ahead s k n ≡ true → ahead (spot_behind e s xs) k n ≡ false → walk e (seen s k n) (xs ++ ys) ≤ bytes xs
walk_ends e k n ys [] s a h = absurd (grind (arith, nat_tests, a, h))
walk_ends e k n ys (c ∷ xs) s a h = go (ahead (spot_past e s c) k n) refl (λ next. walk_ends e k n ys xs (spot_past e s c) next h)
  where
    go : (b : Bool) → ahead (spot_past e s c) k n ≡ b → (ahead (spot_past e s c) k n ≡ true → walk e (seen (spot_past e s c) k n) (xs ++ ys) ≤ bytes xs) → walk e (seen s k n) (c ∷ xs ++ ys) ≤ len_utf8 c + bytes xs
    go true next rest =
        let w = rest next in
        let t : walk e (seen s k n) (c ∷ xs ++ ys) ≡ len_utf8 c + walk e (seen (spot_past e s c) k n) (xs ++ ys) = ap (λ o. going_on (len_utf8 c) (λ q. walk e q (xs ++ ys)) o) (step_on e s c k n a next) in
        omega (arith, t, w)
    go false next rest =
        let t : walk e (seen s k n) (c ∷ xs ++ ys) ≡ 0 = ap (λ o. going_on (len_utf8 c) (λ q. walk e q (xs ++ ys)) o) (step_stop e s c k n a next) in
        omega (arith, t)

-- it stops at once where the place is before the end of the next character, or nothing follows
pub data Stopped (e : Encoding) (s : Spot) (k n : ℕ) : List ℕ → Type 0 where
  at_end : Stopped e s k n []
  at_place : (cs : List ℕ) → Stops e s k n cs → Stopped e s k n cs

walk_stops : (e : Encoding) (s : Spot) (k n : ℕ) (cs : List ℕ) → ahead s k n ≡ true → Stopped e s k n cs → walk e (seen s k n) cs ≡ 0
walk_stops e s k n [] a st = refl
walk_stops e s k n (c ∷ cs) a (at_place _ h) = ap (λ o. going_on (len_utf8 c) (λ q. walk e q cs) o) (step_stop e s c k n a h)

-- every place is ahead of the first spot
pub all_ahead : (k n : ℕ) → ahead spot_first k n ≡ true
all_ahead zero n = grind (arith, nat_tests)
all_ahead (suc k) n = grind (arith, nat_tests)

from_first : (e : Encoding) (k n : ℕ) (cs : List ℕ) → walk e (seen spot_first k n) cs ≡ offset_at e k n (lines cs)
from_first e k n cs = ap (λ p. walk e p cs) (same_place false (k - 0) k (cond (nat_eq 0 k) (n - 0) n) n (omega arith) (choice (nat_eq 0 k))) ∙ walk_is e cs k n
  where
    choice : (b : Bool) → cond b (n - 0) n ≡ n
    choice true = omega arith
    choice false = refl

-- an offset is the length of the text before it
pub offset_here : (e : Encoding) (k n : ℕ) (front back : List ℕ) → IsUtf8 front → ahead (spot_behind e spot_first (chars front)) k n ≡ true → Stopped e (spot_behind e spot_first (chars front)) k n (chars back) → offset_at e k n (lines (chars (front ++ back))) ≡ length front
offset_here e k n front back u a h =
    let w = walk_on e k n (chars back) (chars front) spot_first a in
    let z = walk_stops e (spot_behind e spot_first (chars front)) k n (chars back) a h in
    let b = bytes_chars front u in
    let f = sym (from_first e k n (chars front ++ chars back)) in
    ap (λ cs. offset_at e k n (lines cs)) (chars-append front back u) ∙ (f ∙ omega (arith, w, z, b))

-- an offset before a spot
pub offset_before : (e : Encoding) (k n : ℕ) (front back : List ℕ) → IsUtf8 front → ahead (spot_behind e spot_first (chars front)) k n ≡ false → offset_at e k n (lines (chars (front ++ back))) ≤ length front
offset_before e k n front back u h =
    let w = walk_ends e k n (chars back) (chars front) spot_first (all_ahead k n) h in
    let b = bytes_chars front u in
    let f : offset_at e k n (lines (chars (front ++ back))) ≡ walk e (seen spot_first k n) (chars front ++ chars back) = ap (λ cs. offset_at e k n (lines cs)) (chars-append front back u) ∙ sym (from_first e k n (chars front ++ chars back)) in
    omega (arith, w, b, f)
