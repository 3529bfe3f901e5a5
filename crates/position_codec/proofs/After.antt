-- A text leads on from each spot as it does from a first one.
use Rattle.std.proofs.Common.{◌≡◌, ℕ, ◌+◌, ◌++◌, Bool, true, false, cond, nat_eq, List, [], ◌∷◌, refl, sym, ap, ◌∙◌, arith, subst}
use Rattle.std.specs.Prelude.{IsUtf8}
use Rattle.std.specs.Str.{chars}
use Rattle.std.proofs.lemmas.Bool.Decides.{nat_tests}
use Rattle.std.proofs.lemmas.List.Sums.{fold-append}
use Rattle.std.proofs.lemmas.Str.{chars-append}
use Rattle.position_codec.specs.declared.Encoding.{Encoding}
use Rattle.position_codec.specs.declared.spot.Spot.{Spot}
use Rattle.position_codec.specs.Position.{units}
use Rattle.position_codec.specs.Spots.{spot_at, spot_past, spot_behind, spot_after, Stops}
use Rattle.position_codec.proofs.Sorts.{Sort, is_feed, is_return, is_other, sort}

same_spot : (r : Bool) (a b x y : ℕ) → a ≡ b → x ≡ y → spot_at a x r ≡ spot_at b y r
same_spot r a b x y p q = λ i. spot_at (p i) (q i) r

-- in front of a new line
new_line : (s : Spot) (l : ℕ) (r : Bool) → spot_at (s.line + l + 1) 0 r ≡ spot_after s (spot_at (l + 1) 0 r)
new_line s l r =
    let e : nat_eq (l + 1) 0 ≡ false = grind (arith, nat_tests) in
    same_spot r (s.line + l + 1) (s.line + (l + 1)) 0 (cond (nat_eq (l + 1) 0) (s.column + 0) 0) (omega arith) (ap (λ b. cond b (s.column + 0) 0) (sym e))

-- further on in its line
same_line : (s : Spot) (l m u : ℕ) → spot_at (s.line + l) (cond (nat_eq l 0) (s.column + m) m + u) false ≡ spot_after s (spot_at l (m + u) false)
same_line s l m u = same_spot false (s.line + l) (s.line + l) (cond (nat_eq l 0) (s.column + m) m + u) (cond (nat_eq l 0) (s.column + (m + u)) (m + u)) refl (choice (nat_eq l 0))
  where
    choice : (b : Bool) → cond b (s.column + m) m + u ≡ cond b (s.column + (m + u)) (m + u)
    choice true = omega arith
    choice false = refl

past_after : (e : Encoding) (s : Spot) (l m : ℕ) (r : Bool) (c : ℕ) → Sort c → spot_past e (spot_after s (spot_at l m r)) c ≡ spot_after s (spot_past e (spot_at l m r) c)
past_after e s l m true c (is_feed x) = rw x refl
past_after e s l m false c (is_feed x) =
    let P : ℕ → Type 0 = λ c. spot_past e (spot_after s (spot_at l m false)) c ≡ spot_after s (spot_past e (spot_at l m false) c) in
    subst P (sym x) (new_line s l false)
past_after e s l m true c (is_return x) =
    let P : ℕ → Type 0 = λ c. spot_past e (spot_after s (spot_at l m true)) c ≡ spot_after s (spot_past e (spot_at l m true) c) in
    subst P (sym x) (new_line s l true)
past_after e s l m false c (is_return x) =
    let P : ℕ → Type 0 = λ c. spot_past e (spot_after s (spot_at l m false)) c ≡ spot_after s (spot_past e (spot_at l m false) c) in
    subst P (sym x) (new_line s l true)
past_after e s l m true c (is_other x y) =
    let p : spot_past e (spot_at l m true) c ≡ spot_at l (m + units e c) false = rw (x, y) refl in
    let q : spot_past e (spot_after s (spot_at l m true)) c ≡ spot_at (s.line + l) (cond (nat_eq l 0) (s.column + m) m + units e c) false = rw (x, y) refl in
    q ∙ (same_line s l m (units e c) ∙ ap (λ t. spot_after s t) (sym p))
past_after e s l m false c (is_other x y) =
    let p : spot_past e (spot_at l m false) c ≡ spot_at l (m + units e c) false = rw (x, y) refl in
    let q : spot_past e (spot_after s (spot_at l m false)) c ≡ spot_at (s.line + l) (cond (nat_eq l 0) (s.column + m) m + units e c) false = rw (x, y) refl in
    q ∙ (same_line s l m (units e c) ∙ ap (λ t. spot_after s t) (sym p))

behind_after : (e : Encoding) (s : Spot) (cs : List ℕ) (t : Spot) → spot_behind e (spot_after s t) cs ≡ spot_after s (spot_behind e t cs)
behind_after e s [] t = refl
behind_after e s (c ∷ cs) t =
    ap (λ x. spot_behind e x cs) (past_after e s t.line t.column t.returned c (sort c)) ∙ behind_after e s cs (spot_past e t c)

-- what is behind a text, by what is behind it from a first spot that returned where this one did
pub after_behind : (e : Encoding) (s : Spot) (cs : List ℕ) → spot_behind e s cs ≡ spot_after s (spot_behind e (spot_at 0 0 s.returned) cs)
after_behind e s cs =
    let h : s ≡ spot_after s (spot_at 0 0 s.returned) = same_spot s.returned s.line (s.line + 0) s.column (s.column + 0) (omega arith) (omega arith) in
    ap (λ x. spot_behind e x cs) h ∙ behind_after e s cs (spot_at 0 0 s.returned)

-- behind a text and one more
pub spot_more : (e : Encoding) (from : Spot) (xs ys : List ℕ) → IsUtf8 xs → spot_behind e from (chars (xs ++ ys)) ≡ spot_behind e (spot_behind e from (chars xs)) (chars ys)
spot_more e from xs ys u = ap (λ l. spot_behind e from l) (chars-append xs ys u) ∙ fold-append _ from (chars xs) (chars ys)

-- a place that is before the end of the next character still is where more follows
pub stops_more : (e : Encoding) (s : Spot) (k n : ℕ) (cs ds : List ℕ) → Stops e s k n cs → Stops e s k n (cs ++ ds)
stops_more e s k n [] ds h = absurd h
stops_more e s k n (c ∷ cs) ds h = h
