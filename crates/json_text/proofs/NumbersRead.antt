-- A number of RFC 8259, section 6, is read, where no byte of a number follows.
use Rattle.std.proofs.Common.{◌≡◌, ℕ, ◌+◌, ◌<◌, true, false, ◌&&◌, ◌||◌, List, [], ◌∷◌, ◌++◌, length, ◌⊎◌, inl, inr, IsTrue, nat_le, ◌==◌, refl, ap, arith}
use Rattle.std.proofs.lemmas.Bool.{and_parts, and_from, or_left, or_from, le-leb, leb-true, eqb-true, ne_eqb, cases_Bool}
use Rattle.std.specs.List.{AllByRecursion}
use Rattle.json_text.specs.Number.{is_digit, Digits, SomeDigits, IsMinus, IsWhole, IsFraction, IsExponent, IsNumber}
use Rattle.json_text.specs.Read.{reads, is_number_byte, all_digits, some_digits, signed_digits, is_exponent, decimals, some_decimals, is_fraction, whole_digits, is_whole, is_number, number_bytes, read_number}

-- no byte of a number follows
abbrev pub NotNumber : List ℕ → Type 0
NotNumber [] = Unit {0}
NotNumber (b ∷ bs) = is_number_byte b ≡ false

abbrev AreNumberBytes : List ℕ → Type 0
AreNumberBytes bs = AllByRecursion (λ b. is_number_byte b ≡ true) bs

-- a digit is neither a sign nor a point nor an exponent's letter
digit_is_none : (b c : ℕ) → is_digit b ≡ true → (c < 48) ⊎ (57 < c) → (b == c) ≡ false
digit_is_none b c h k =
    let p = and_parts (nat_le 48 b) (nat_le b 57) h in
    ne_eqb b c (λ e. omega (arith, leb-true 48 b p.0, leb-true b 57 p.1))

digits_pass : (bs : List ℕ) → Digits bs → all_digits bs ≡ true
unfolding all_digits
digits_pass [] h = refl
digits_pass (b ∷ bs) h = and_from (is_digit b) (all_digits bs) h.0 (digits_pass bs h.1)

some_digits_pass : (bs : List ℕ) → SomeDigits bs → some_digits bs ≡ true
some_digits_pass [] h = absurd h
some_digits_pass (b ∷ bs) h = and_from (is_digit b) (all_digits bs) h.0 (digits_pass bs h.1)

unsigned_pass : (bs : List ℕ) → SomeDigits bs → signed_digits bs ≡ true
unsigned_pass [] h = absurd h
unsigned_pass (b ∷ bs) h = rw (or_from (b == 43) (b == 45) (digit_is_none b 43 h.0 (inl (omega arith))) (digit_is_none b 45 h.0 (inl (omega arith)))) (some_digits_pass (b ∷ bs) h)

signed_pass : (sign ds : List ℕ) → (sign ≡ []) ⊎ ((sign ≡ 43 ∷ []) ⊎ (sign ≡ 45 ∷ [])) → SomeDigits ds → signed_digits (sign ++ ds) ≡ true
signed_pass sign ds (inl e) h = rw e (unsigned_pass ds h)
signed_pass sign ds (inr (inl e)) h = rw e (some_digits_pass ds h)
signed_pass sign ds (inr (inr e)) h = rw e (some_digits_pass ds h)

exponent_of : (e : ℕ) (bs : List ℕ) → (e ≡ 101) ⊎ (e ≡ 69) → signed_digits bs ≡ true → is_exponent (e ∷ bs) ≡ true
exponent_of e bs (inl k) h = rw k h
exponent_of e bs (inr k) h = rw k h

exponent_passes : (bs : List ℕ) → IsExponent bs → is_exponent bs ≡ true
exponent_passes bs (inl e) = rw e refl
exponent_passes bs (inr k) = rw k.6 (exponent_of k.0 (k.1 ++ k.2) k.3 (signed_pass k.1 k.2 k.4 k.5))

-- what an exponent's test passes begins with no digit
exponent_first : (b : ℕ) (bs : List ℕ) → is_exponent (b ∷ bs) ≡ true → is_digit b ≡ true → ⊥
exponent_first b bs h d =
    let k = and_parts ((b == 101) || (b == 69)) (signed_digits bs) h in
    let e : ((b == 101) || (b == 69)) ≡ false = or_from (b == 101) (b == 69) (digit_is_none b 101 d (inr (omega arith))) (digit_is_none b 69 d (inr (omega arith))) in
    let i = k.0 in cc

decimals_end : (bs : List ℕ) → is_exponent bs ≡ true → decimals bs ≡ true
unfolding decimals
decimals_end [] h = refl
decimals_end (b ∷ bs) h = elim (cases_Bool (is_digit b)) [
  | inl d ↦ absurd (exponent_first b bs h d)
  | inr n ↦ rw n h
]

decimals_pass : (ds es : List ℕ) → Digits ds → is_exponent es ≡ true → decimals (ds ++ es) ≡ true
unfolding decimals
decimals_pass [] es h e = decimals_end es e
decimals_pass (d ∷ ds) es h e = rw h.0 (decimals_pass ds es h.1 e)

some_decimals_pass : (ds es : List ℕ) → SomeDigits ds → is_exponent es ≡ true → some_decimals (ds ++ es) ≡ true
some_decimals_pass [] es h e = absurd h
some_decimals_pass (d ∷ ds) es h e = and_from (is_digit d) (decimals (ds ++ es)) h.0 (decimals_pass ds es h.1 e)

fraction_end : (bs : List ℕ) → is_exponent bs ≡ true → is_fraction bs ≡ true
fraction_end [] h = refl
fraction_end (b ∷ bs) h = elim (cases_Bool (b == 46)) [
  | inl e ↦ let i : is_exponent (46 ∷ bs) ≡ true = rw (eqb-true b 46 e) at h in cc
  | inr n ↦ rw n h
]

fraction_passes : (fs es : List ℕ) → IsFraction fs → is_exponent es ≡ true → is_fraction (fs ++ es) ≡ true
fraction_passes fs es (inl e) h = rw e (fraction_end es h)
fraction_passes fs es (inr k) h = rw k.2 (some_decimals_pass k.0 es k.1 h)

fraction_first : (b : ℕ) (bs : List ℕ) → is_fraction (b ∷ bs) ≡ true → is_digit b ≡ true → ⊥
fraction_first b bs h d =
    let n : (b == 46) ≡ false = digit_is_none b 46 d (inl (omega arith)) in
    exponent_first b bs (rw n at h) d

whole_end : (bs : List ℕ) → is_fraction bs ≡ true → whole_digits bs ≡ true
unfolding whole_digits
whole_end [] h = refl
whole_end (b ∷ bs) h = elim (cases_Bool (is_digit b)) [
  | inl d ↦ absurd (fraction_first b bs h d)
  | inr n ↦ rw n h
]

whole_digits_pass : (ds ts : List ℕ) → Digits ds → is_fraction ts ≡ true → whole_digits (ds ++ ts) ≡ true
unfolding whole_digits
whole_digits_pass [] ts h e = whole_end ts e
whole_digits_pass (d ∷ ds) ts h e = rw h.0 (whole_digits_pass ds ts h.1 e)

first_passes : (d : ℕ) (bs : List ℕ) → IsTrue (nat_le 49 d && nat_le d 57) → whole_digits bs ≡ true → is_whole (d ∷ bs) ≡ true
first_passes d bs h k =
    let p = and_parts (nat_le 49 d) (nat_le d 57) h in
    let n : (d == 48) ≡ false = ne_eqb d 48 (λ e. omega (arith, leb-true 49 d p.0)) in
    let digit : is_digit d ≡ true = and_from (nat_le 48 d) (nat_le d 57) (le-leb 48 d (omega (arith, leb-true 49 d p.0))) p.1 in
    rw n (and_from (is_digit d) (whole_digits bs) digit k)

whole_passes : (ws ts : List ℕ) → IsWhole ws → is_fraction ts ≡ true → is_whole (ws ++ ts) ≡ true
whole_passes ws ts (inl e) h = rw e h
whole_passes ws ts (inr k) h = rw k.4 (first_passes k.0 (k.1 ++ ts) k.2 (whole_digits_pass k.1 ts k.3 h))

not_minus : (bs : List ℕ) → is_whole bs ≡ true → is_number bs ≡ true
not_minus [] h = h
not_minus (b ∷ bs) h = elim (cases_Bool (b == 45)) [
  | inl e ↦ let i : is_whole (45 ∷ bs) ≡ true = rw (eqb-true b 45 e) at h in cc
  | inr n ↦ rw n h
]

minus_passes : (ms bs : List ℕ) → IsMinus ms → is_whole bs ≡ true → is_number (ms ++ bs) ≡ true
minus_passes ms bs (inl e) h = rw e (not_minus bs h)
minus_passes ms bs (inr e) h = rw e h

pub number_passes : (bs : List ℕ) → IsNumber bs → is_number bs ≡ true
number_passes bs h = rw h.8 (minus_passes h.0 (h.1 ++ (h.2 ++ h.3)) h.4 (whole_passes h.1 (h.2 ++ h.3) h.5 (fraction_passes h.2 h.3 h.6 (exponent_passes h.3 h.7))))

-- each byte of a number is one of a number's bytes
digit_byte : (b : ℕ) → is_digit b ≡ true → is_number_byte b ≡ true
digit_byte b h = or_left (is_digit b) _ h

digits_are : (bs : List ℕ) → Digits bs → AreNumberBytes bs
digits_are [] h = tt
digits_are (b ∷ bs) h = (digit_byte b h.0, digits_are bs h.1)

some_digits_are : (bs : List ℕ) → SomeDigits bs → AreNumberBytes bs
some_digits_are [] h = absurd h
some_digits_are (b ∷ bs) h = (digit_byte b h.0, digits_are bs h.1)

both_are : (bs cs : List ℕ) → AreNumberBytes bs → AreNumberBytes cs → AreNumberBytes (bs ++ cs)
both_are [] cs h k = k
both_are (b ∷ bs) cs h k = (h.0, both_are bs cs h.1 k)

minus_are : (bs : List ℕ) → IsMinus bs → AreNumberBytes bs
minus_are bs (inl e) = rw e tt
minus_are bs (inr e) = rw e (refl, tt)

first_byte : (d : ℕ) → IsTrue (nat_le 49 d && nat_le d 57) → is_number_byte d ≡ true
first_byte d h =
    let p = and_parts (nat_le 49 d) (nat_le d 57) h in
    digit_byte d (and_from (nat_le 48 d) (nat_le d 57) (le-leb 48 d (omega (arith, leb-true 49 d p.0))) p.1)

whole_are : (bs : List ℕ) → IsWhole bs → AreNumberBytes bs
whole_are bs (inl e) = rw e (refl, tt)
whole_are bs (inr k) = rw k.4 (first_byte k.0 k.2, digits_are k.1 k.3)

fraction_are : (bs : List ℕ) → IsFraction bs → AreNumberBytes bs
fraction_are bs (inl e) = rw e tt
fraction_are bs (inr k) = rw k.2 (refl, some_digits_are k.0 k.1)

sign_are : (bs : List ℕ) → (bs ≡ []) ⊎ ((bs ≡ 43 ∷ []) ⊎ (bs ≡ 45 ∷ [])) → AreNumberBytes bs
sign_are bs (inl e) = rw e tt
sign_are bs (inr (inl e)) = rw e (refl, tt)
sign_are bs (inr (inr e)) = rw e (refl, tt)

letter_byte : (e : ℕ) → (e ≡ 101) ⊎ (e ≡ 69) → is_number_byte e ≡ true
letter_byte e (inl k) = rw k refl
letter_byte e (inr k) = rw k refl

exponent_are : (bs : List ℕ) → IsExponent bs → AreNumberBytes bs
exponent_are bs (inl e) = rw e tt
exponent_are bs (inr k) = rw k.6 (letter_byte k.0 k.3, both_are k.1 k.2 (sign_are k.1 k.4) (some_digits_are k.2 k.5))

number_are : (bs : List ℕ) → IsNumber bs → AreNumberBytes bs
number_are bs h = rw h.8 (both_are h.0 (h.1 ++ (h.2 ++ h.3)) (minus_are h.0 h.4) (both_are h.1 (h.2 ++ h.3) (whole_are h.1 h.5) (both_are h.2 h.3 (fraction_are h.2 h.6) (exponent_are h.3 h.7))))

bytes_end : (at n : ℕ) (rest : List ℕ) → NotNumber rest → n ≡ at + 0 → number_bytes at rest ≡ reads [] n rest
unfolding number_bytes
bytes_end at n [] h e = let i : at ≡ n = omega arith in ap (λ i. reads [] i []) i
bytes_end at n (b ∷ bs) h e = let i : at ≡ n = omega arith in rw h (ap (λ i. reads [] i (b ∷ bs)) i)

bytes_read : (at n : ℕ) (ds rest : List ℕ) → AreNumberBytes ds → NotNumber rest → n ≡ at + length ds → number_bytes at (ds ++ rest) ≡ reads ds n rest
unfolding number_bytes
bytes_read at n [] rest h k e = bytes_end at n rest k e
bytes_read at n (d ∷ ds) rest h k e = rw (h.0, bytes_read (at + 1) n ds rest h.1 k (omega arith)) refl

pub number_read : (at n : ℕ) (ds rest : List ℕ) → IsNumber ds → NotNumber rest → n ≡ at + length ds → read_number at (ds ++ rest) ≡ reads ds n rest
number_read at n ds rest h k e = rw (bytes_read at n ds rest (number_are ds h) k e, number_passes ds h) refl
