-- What the tests of a number pass is a number of RFC 8259, section 6.
use Rattle.std.proofs.Common.{◌≡◌, ℕ, ◌+◌, Bool, true, false, ◌&&◌, ◌||◌, List, [], ◌∷◌, ◌++◌, ◌⊎◌, inl, inr, IsTrue, nat_le, ◌==◌, refl, ap, ◌∙◌, arith, eqb-true}
use Rattle.std.proofs.lemmas.Bool.{and_parts, and_from, or_cases, le-leb, leb-true, eqb-false}
use Rattle.json_text.specs.Json.{Rule}
use Rattle.json_text.specs.Number.{is_digit, Digits, SomeDigits, IsMinus, IsWhole, IsFraction, IsExponent, IsNumber}
use Rattle.json_text.specs.Read.{reads, ◌>>=◌, gives, is_number_byte, all_digits, some_digits, signed_digits, is_exponent, decimals, some_decimals, is_fraction, whole_digits, is_whole, is_number, number_bytes, number_if, read_number}
use Rattle.json_text.proofs.Front.{Front, Sound, bound, picked, gave, none_taken, more_taken, weaken}

digits_found : (bs : List ℕ) → all_digits bs ≡ true → Digits bs
unfolding all_digits
digits_found [] h = tt
digits_found (b ∷ bs) h = let k = and_parts (is_digit b) (all_digits bs) h in (k.0, digits_found bs k.1)

some_digits_found : (bs : List ℕ) → some_digits bs ≡ true → SomeDigits bs
some_digits_found [] h = cc
some_digits_found (b ∷ bs) h = let k = and_parts (is_digit b) (all_digits bs) h in (k.0, digits_found bs k.1)

record Signed (bs : List ℕ) : Type 0 where
  sign : List ℕ
  digits : List ℕ
  is_sign : (sign ≡ []) ⊎ ((sign ≡ 43 ∷ []) ⊎ (sign ≡ 45 ∷ []))
  are : SomeDigits digits
  whole : bs ≡ sign ++ digits

signed_found : (bs : List ℕ) → signed_digits bs ≡ true → Signed bs
signed_found [] h = cc
signed_found (b ∷ bs) h = elim (picked ((b == 43) || (b == 45)) (some_digits bs) (some_digits (b ∷ bs)) true h) [
  | inl k ↦ elim (or_cases (b == 43) (b == 45) k.0) [
    | inl e ↦ record { sign = 43 ∷ []; digits = bs; is_sign = inr (inl refl); are = some_digits_found bs k.1; whole = ap (λ i. i ∷ bs) (eqb-true b 43 e) }
    | inr e ↦ record { sign = 45 ∷ []; digits = bs; is_sign = inr (inr refl); are = some_digits_found bs k.1; whole = ap (λ i. i ∷ bs) (eqb-true b 45 e) }
  ]
  | inr k ↦ record { sign = []; digits = b ∷ bs; is_sign = inl refl; are = some_digits_found (b ∷ bs) k.1; whole = refl }
]

exponent_found : (bs : List ℕ) → is_exponent bs ≡ true → IsExponent bs
exponent_found [] h = inl refl
exponent_found (b ∷ bs) h =
    let k = and_parts ((b == 101) || (b == 69)) (signed_digits bs) h in
    let s = signed_found bs k.1 in
    inr (b, s.sign, s.digits, elim (or_cases (b == 101) (b == 69) k.0) [ inl e ↦ inl (eqb-true b 101 e) | inr e ↦ inr (eqb-true b 69 e) ], s.is_sign, s.are, ap (λ l. b ∷ l) s.whole)

record Decimals (bs : List ℕ) : Type 0 where
  digits : List ℕ
  exponent : List ℕ
  are : Digits digits
  is_exponent : IsExponent exponent
  whole : bs ≡ digits ++ exponent

decimals_more : (b : ℕ) (bs : List ℕ) → is_digit b ≡ true → Decimals bs → Decimals (b ∷ bs)
decimals_more b bs d k = record { digits = b ∷ k.digits; exponent = k.exponent; are = (d, k.are); is_exponent = k.is_exponent; whole = ap (λ l. b ∷ l) k.whole }

decimals_found : (bs : List ℕ) → decimals bs ≡ true → Decimals bs
unfolding decimals
decimals_found [] h = record { digits = []; exponent = []; are = tt; is_exponent = inl refl; whole = refl }
decimals_found (b ∷ bs) h = pick (picked (is_digit b) (decimals bs) (is_exponent (b ∷ bs)) true h) (λ k. decimals_found bs k)
  where
    pick : ((is_digit b ≡ true) × (decimals bs ≡ true)) ⊎ ((is_digit b ≡ false) × (is_exponent (b ∷ bs) ≡ true)) → (decimals bs ≡ true → Decimals bs) → Decimals (b ∷ bs)
    pick (inl k) rec = decimals_more b bs k.0 (rec k.1)
    pick (inr k) rec = record { digits = []; exponent = b ∷ bs; are = tt; is_exponent = exponent_found (b ∷ bs) k.1; whole = refl }

record Fractional (bs : List ℕ) : Type 0 where
  fraction : List ℕ
  exponent : List ℕ
  is_fraction : IsFraction fraction
  is_exponent : IsExponent exponent
  whole : bs ≡ fraction ++ exponent

some_decimals_found : (b : ℕ) (bs : List ℕ) → b ≡ 46 → some_decimals bs ≡ true → Fractional (b ∷ bs)
some_decimals_found b [] e h = cc
some_decimals_found b (c ∷ bs) e h =
    let k = and_parts (is_digit c) (decimals bs) h in
    let d = decimals_found bs k.1 in
    record { fraction = 46 ∷ c ∷ d.digits; exponent = d.exponent; is_fraction = inr (c ∷ d.digits, (k.0, d.are), refl); is_exponent = d.is_exponent; whole = ap (λ i. i ∷ c ∷ bs) e ∙ ap (λ l. 46 ∷ c ∷ l) d.whole }

fraction_found : (bs : List ℕ) → is_fraction bs ≡ true → Fractional bs
fraction_found [] h = record { fraction = []; exponent = []; is_fraction = inl refl; is_exponent = inl refl; whole = refl }
fraction_found (b ∷ bs) h = elim (picked (b == 46) (some_decimals bs) (is_exponent (b ∷ bs)) true h) [
  | inl k ↦ some_decimals_found b bs (eqb-true b 46 k.0) k.1
  | inr k ↦ record { fraction = []; exponent = b ∷ bs; is_fraction = inl refl; is_exponent = exponent_found (b ∷ bs) k.1; whole = refl }
]

record Whole (bs : List ℕ) : Type 0 where
  digits : List ℕ
  rest : List ℕ
  are : Digits digits
  more : Fractional rest
  whole : bs ≡ digits ++ rest

whole_more : (b : ℕ) (bs : List ℕ) → is_digit b ≡ true → Whole bs → Whole (b ∷ bs)
whole_more b bs d k = record { digits = b ∷ k.digits; rest = k.rest; are = (d, k.are); more = k.more; whole = ap (λ l. b ∷ l) k.whole }

whole_digits_found : (bs : List ℕ) → whole_digits bs ≡ true → Whole bs
unfolding whole_digits
whole_digits_found [] h = record { digits = []; rest = []; are = tt; more = fraction_found [] refl; whole = refl }
whole_digits_found (b ∷ bs) h = pick (picked (is_digit b) (whole_digits bs) (is_fraction (b ∷ bs)) true h) (λ k. whole_digits_found bs k)
  where
    pick : ((is_digit b ≡ true) × (whole_digits bs ≡ true)) ⊎ ((is_digit b ≡ false) × (is_fraction (b ∷ bs) ≡ true)) → (whole_digits bs ≡ true → Whole bs) → Whole (b ∷ bs)
    pick (inl k) rec = whole_more b bs k.0 (rec k.1)
    pick (inr k) rec = record { digits = []; rest = b ∷ bs; are = tt; more = fraction_found (b ∷ bs) k.1; whole = refl }

record Unsigned (bs : List ℕ) : Type 0 where
  first : List ℕ
  rest : List ℕ
  is_whole : IsWhole first
  more : Fractional rest
  whole : bs ≡ first ++ rest

first_digit : (b : ℕ) → (b == 48) ≡ false → is_digit b ≡ true → IsTrue (nat_le 49 b && nat_le b 57)
first_digit b n d =
    let k = and_parts (nat_le 48 b) (nat_le b 57) d in
    and_from (nat_le 49 b) (nat_le b 57) (le-leb 49 b (omega (arith, leb-true 48 b k.0, eqb-false b 48 n))) k.1

unsigned_found : (bs : List ℕ) → is_whole bs ≡ true → Unsigned bs
unsigned_found [] h = cc
unsigned_found (b ∷ bs) h = elim (picked (b == 48) (is_fraction bs) (is_digit b && whole_digits bs) true h) [
  | inl k ↦ record { first = 48 ∷ []; rest = bs; is_whole = inl refl; more = fraction_found bs k.1; whole = ap (λ i. i ∷ bs) (eqb-true b 48 k.0) }
  | inr k ↦
      let d = and_parts (is_digit b) (whole_digits bs) k.1 in
      let w = whole_digits_found bs d.1 in
      record { first = b ∷ w.digits; rest = w.rest; is_whole = inr (b, w.digits, first_digit b k.0 d.0, w.are, refl); more = w.more; whole = ap (λ l. b ∷ l) w.whole }
]

signed_number : (minus bs : List ℕ) → IsMinus minus → Unsigned bs → IsNumber (minus ++ bs)
signed_number minus bs m u = (minus, u.first, u.more.fraction, u.more.exponent, m, u.is_whole, u.more.is_fraction, u.more.is_exponent, ap (λ l. minus ++ l) (u.whole ∙ ap (λ l. u.first ++ l) u.more.whole))

number_found : (bs : List ℕ) → is_number bs ≡ true → IsNumber bs
number_found [] h = cc
number_found (b ∷ bs) h = elim (picked (b == 45) (is_whole bs) (is_whole (b ∷ bs)) true h) [
  | inl k ↦ rw (eqb-true b 45 k.0) (signed_number (45 ∷ []) bs (inr refl) (unsigned_found bs k.1))
  | inr k ↦ signed_number [] (b ∷ bs) (inl refl) (unsigned_found (b ∷ bs) k.1)
]

abbrev exactly : List ℕ → Rule
exactly ds at bs = bs ≡ ds

number_bytes_sound : Sound number_bytes exactly
unfolding number_bytes
number_bytes_sound at [] ds to rest h = none_taken exactly at [] [] ds to rest h refl
number_bytes_sound at (b ∷ bs) ds to rest h = pick (picked (is_number_byte b) (number_bytes (at + 1) bs >>= λ ds. gives (b ∷ ds)) (reads [] at (b ∷ bs)) (reads ds to rest) h) (λ xs to rest k. number_bytes_sound (at + 1) bs xs to rest k)
  where
    pick : ((is_number_byte b ≡ true) × ((number_bytes (at + 1) bs >>= λ ds. gives (b ∷ ds)) ≡ reads ds to rest)) ⊎ ((is_number_byte b ≡ false) × (reads [] at (b ∷ bs) ≡ reads ds to rest))
        → ((xs : List ℕ) (to : ℕ) (rest : List ℕ) → number_bytes (at + 1) bs ≡ reads xs to rest → Front (exactly xs) (at + 1) bs to rest) → Front (exactly ds) at (b ∷ bs) to rest
    pick (inl k) rec =
        let f = bound (number_bytes (at + 1) bs) (λ ds. gives (b ∷ ds)) ds to rest k.1 in
        gave exactly at (b ∷ bs) (b ∷ f.read) ds f.to to f.rest rest f.goes (more_taken at b bs f.to f.rest (rec f.read f.to f.rest f.is) (λ xs e. ap (λ l. b ∷ l) e))
    pick (inr k) rec = none_taken exactly at (b ∷ bs) [] ds to rest k.1 refl

abbrev number_rule : List ℕ → Rule
number_rule ds at bs = (bs ≡ ds) × IsNumber ds

passed : (x : Bool) (xs ds : List ℕ) (at to : ℕ) (bs rest : List ℕ) → number_if x xs at bs ≡ reads ds to rest → (x ≡ true) × (reads xs at bs ≡ reads ds to rest)
passed true xs ds at to bs rest h = (refl, h)
passed false xs ds at to bs rest h = cc

pub number_sound : Sound read_number (λ ds at bs. (bs ≡ ds) × IsNumber ds)
number_sound at bs ds to rest h =
    let f = bound (number_bytes at bs) (λ ds. number_if (is_number ds) ds) ds to rest h in
    let p = passed (is_number f.read) f.read ds f.to to f.rest rest f.goes in
    gave number_rule at bs f.read ds f.to to f.rest rest p.1 (weaken (λ i xs e. (e, number_found f.read p.0)) (number_bytes_sound at bs f.read f.to f.rest f.is))
