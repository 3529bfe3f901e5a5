-- A reader that is sound: where it reads something, a front of the bytes is what its rule says.
use Rattle.std.proofs.Common.{◌≡◌, ℕ, ◌+◌, Bool, true, false, List, [], ◌∷◌, ◌++◌, length, ◌⊎◌, inl, inr, if◌then◌else◌, refl, sym, ap, ◌∙◌, arith, append_assoc, length-append, eqb-true, ◌==◌}
use Rattle.json_text.specs.declared.span.Span.{Span}
use Rattle.json_text.specs.Json.{Rule, ◌then◌, byte, spans}
use Rattle.json_text.specs.Read.{Left, fails, reads, Reader, ◌>>=◌, spanned, expect}

-- the bytes begin with what the rule says, and go on at `to` with `rest`
pub record Front (P : Rule) (at : ℕ) (bs : List ℕ) (to : ℕ) (rest : List ℕ) : Type 0 where
  pub front : List ℕ
  pub whole : bs ≡ front ++ rest
  pub is_to : to ≡ at + length front
  pub rule : P at front

abbrev pub Sound : {A : Type 0} → Reader A → (A → Rule) → Type 0
Sound {A} r P = (at : ℕ) (bs : List ℕ) (x : A) (to : ℕ) (rest : List ℕ) → r at bs ≡ reads x to rest → Front (P x) at bs to rest

-- what was read before the rest of a reading
pub record Bound {A B : Type 0} (l : Left A) (f : A → Reader B) (y : B) (end : ℕ) (last : List ℕ) : Type 0 where
  pub read : A
  pub to : ℕ
  pub rest : List ℕ
  pub is : l ≡ reads read to rest
  pub goes : f read to rest ≡ reads y end last

pub bound : {A B : Type 0} (l : Left A) (f : A → Reader B) (y : B) (end : ℕ) (last : List ℕ) → (l >>= f) ≡ reads y end last → Bound l f y end last
bound fails f y end last h = cc
bound (reads x to rest) f y end last h = record { read = x; to = to; rest = rest; is = refl; goes = h }

pub picked : {A : Type 0} (x : Bool) (l m : A) (r : A) → (if x then l else m) ≡ r → ((x ≡ true) × (l ≡ r)) ⊎ ((x ≡ false) × (m ≡ r))
picked true l m r h = inl (refl, h)
picked false l m r h = inr (refl, h)

pub at_place : (Q : Rule) (a b : ℕ) (bs : List ℕ) → a ≡ b → Q a bs → Q b bs
at_place Q a b bs e h = rw e at h

pub joined : {P Q : Rule} (at : ℕ) (bs : List ℕ) (mid : ℕ) (cs : List ℕ) (end : ℕ) (rest : List ℕ) → Front P at bs mid cs → Front Q mid cs end rest → Front (P then Q) at bs end rest
joined {P} {Q} at bs mid cs end rest f g = record {
  front = f.front ++ g.front;
  whole = f.whole ∙ ap (λ l. f.front ++ l) g.whole ∙ sym (append_assoc f.front g.front rest);
  is_to = omega (arith, f.is_to, g.is_to, length-append f.front g.front);
  rule = (f.front, g.front, refl, f.rule, at_place Q mid (at + length f.front) g.front f.is_to g.rule);
}

pub weaken : {P Q : Rule} {at : ℕ} {bs : List ℕ} {to : ℕ} {rest : List ℕ} → ((i : ℕ) (xs : List ℕ) → P i xs → Q i xs) → Front P at bs to rest → Front Q at bs to rest
weaken k f = record { front = f.front; whole = f.whole; is_to = f.is_to; rule = k _ _ f.rule }

pub ends_at : (P : Rule) (at : ℕ) (bs : List ℕ) (to end : ℕ) (rest last : List ℕ) → to ≡ end → rest ≡ last → Front P at bs to rest → Front P at bs end last
ends_at P at bs to end rest last e l f = rw (← e, ← l) f

-- what was read is what is given
pub gave : {A : Type 0} (P : A → Rule) (at : ℕ) (bs : List ℕ) (z x : A) (n to : ℕ) (ys rest : List ℕ) → reads z n ys ≡ reads x to rest → Front (P z) at bs n ys → Front (P x) at bs to rest
gave P at bs z x n to ys rest h f =
    let a : z ≡ x = cc in
    let b : n ≡ to = cc in
    let c : ys ≡ rest = cc in
    rw (← a, ← b, ← c) f

-- nothing is taken
pub none_taken : {A : Type 0} (P : A → Rule) (at : ℕ) (bs : List ℕ) (z x : A) (to : ℕ) (rest : List ℕ) → reads z at bs ≡ reads x to rest → P z at [] → Front (P x) at bs to rest
none_taken P at bs z x to rest h p = gave P at bs z x at to bs rest h (record { front = []; whole = refl; is_to = omega arith; rule = p })

-- one byte is taken
pub one_taken : {A : Type 0} (P : A → Rule) (at b : ℕ) (bs : List ℕ) (z x : A) (to : ℕ) (rest : List ℕ) → reads z (at + 1) bs ≡ reads x to rest → P z at (b ∷ []) → Front (P x) at (b ∷ bs) to rest
one_taken P at b bs z x to rest h p = gave P at (b ∷ bs) z x (at + 1) to bs rest h (record { front = b ∷ []; whole = refl; is_to = refl; rule = p })

-- one byte is taken, and then more
pub more_taken : {P Q : Rule} (at b : ℕ) (bs : List ℕ) (to : ℕ) (rest : List ℕ) → Front P (at + 1) bs to rest → ((xs : List ℕ) → P (at + 1) xs → Q at (b ∷ xs)) → Front Q at (b ∷ bs) to rest
more_taken at b bs to rest f k = record { front = b ∷ f.front; whole = ap (λ l. b ∷ l) f.whole; is_to = omega (arith, f.is_to); rule = k f.front f.rule }

pub expect_sound : (c : ℕ) → Sound (expect c) (λ x. byte c)
expect_sound c at [] x to rest h = cc
expect_sound c at (b ∷ bs) x to rest h = elim (picked (b == c) (reads tt (at + 1) bs) fails (reads x to rest) h) [
  | inl k ↦ one_taken (λ x. byte c) at b bs tt x to rest k.1 (ap (λ i. i ∷ []) (eqb-true b c k.0))
  | inr k ↦ let i = k.1 in cc
]

span_is : {A B : Type 0} (f : Span → A → B) (x : A) (y : B) (at to end : ℕ) → f (record { from = at; to = to }) x ≡ y → to ≡ end → y ≡ f (record { from = at; to = end }) x
span_is f x y at to end e t = sym e ∙ ap (λ i. f (record { from = at; to = i }) x) t

in_span : (P : Rule) (at : ℕ) (bs : List ℕ) (to : ℕ) (rest : List ℕ) → Front P at bs to rest → Front (spans (record { from = at; to = to }) P) at bs to rest
in_span P at bs to rest k = record { front = k.front; whole = k.whole; is_to = k.is_to; rule = (k.rule, ap (λ i. record { from = at; to = i }) k.is_to) }

pub spanned_sound : {A B : Type 0} (f : Span → A → B) (r : Reader A) (P : A → Rule) → Sound r P → (at : ℕ) (bs : List ℕ) (y : B) (to : ℕ) (rest : List ℕ) → spanned f r at bs ≡ reads y to rest
    → (s : Span) × (x : A) × (y ≡ f s x) × Front (spans s (P x)) at bs to rest
spanned_sound f r P sound at bs y to rest h =
    let b = bound (r at bs) (λ x to rest. reads (f (record { from = at; to = to }) x) to rest) y to rest h in
    let g = b.goes in
    let e : f (record { from = at; to = b.to }) b.read ≡ y = cc in
    let t : b.to ≡ to = cc in
    let l : b.rest ≡ rest = cc in
    (record { from = at; to = to }, b.read, span_is f b.read y at b.to to e t, in_span (P b.read) at bs to rest (ends_at (P b.read) at bs b.to to b.rest rest t l (sound at bs b.read b.to b.rest b.is)))

-- a sequence may be grouped anew
pub grouped : (P Q R : Rule) (at : ℕ) (bs : List ℕ) → (P then (Q then R)) at bs → ((P then Q) then R) at bs
grouped P Q R at bs h =
    let k = h.4 in
    (h.0 ++ k.0, k.1, h.2 ∙ ap (λ l. h.0 ++ l) k.2 ∙ sym (append_assoc h.0 k.0 k.1), (h.0, k.0, refl, h.3, k.3), at_place R _ _ k.1 (omega (arith, length-append h.0 k.0)) k.4)

pub on_second : (P Q R : Rule) → ((i : ℕ) (xs : List ℕ) → Q i xs → R i xs) → (at : ℕ) (bs : List ℕ) → (P then Q) at bs → (P then R) at bs
on_second P Q R k at bs h = (h.0, h.1, h.2, h.3, k _ _ h.4)

pub on_first : (P Q R : Rule) → ((i : ℕ) (xs : List ℕ) → P i xs → Q i xs) → (at : ℕ) (bs : List ℕ) → (P then R) at bs → (Q then R) at bs
on_first P Q R k at bs h = (h.0, h.1, h.2, k _ _ h.3, h.4)
