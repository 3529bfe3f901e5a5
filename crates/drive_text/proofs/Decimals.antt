-- A number in a line is its decimal digits, and is written in no other way.
use Rattle.std.proofs.Common.{◌≡◌, ⊎_elim, ℕ, zero, suc, ◌+◌, ◌-◌, ◌*◌, ◌^◌, ◌<◌, ◌≤◌, ◌&&◌, Bool, true, false, cond, nat_lt, nat_le, List, [], ◌∷◌, length, get_or, refl, sym, ap, ◌∙◌, arith, rules}
use Rattle.std.specs.Prelude.{Some, None, decimal}
use Rattle.std.specs.Int.{IsInRange}
use Rattle.std.proofs.lemmas.Bool.{le-leb, lt-ltb, ne_eqb}
use Rattle.std.proofs.lemmas.Bool.Decides.{nat_tests}
use Rattle.std.proofs.lemmas.Fmt.{decimal_digit, decimal_nonempty, first_decimal, digits_decimal, digits_value-decimal, decimal-digits_value}
use Rattle.std.proofs.lemmas.Str.Parse.{IsNumeralModel, numerals_by_fold}
use Rattle.drive_text.specs.Numbers.{with_digit, digits_from, is_padded, number_of}
use Rattle.drive_text.specs.Options.{then_option}
use Rattle.drive_text.proofs.Options.{then_some, test_some, none_some}

abbrev pub IsDigits : List ℕ → Type 0
IsDigits [] = Unit {0}
IsDigits (b ∷ text) = IsInRange 48 57 b × IsDigits text

abbrev pub value_from : ℕ → List ℕ → ℕ
value_from n [] = n
value_from n (b ∷ text) = value_from (n * 10 + (b - 48)) text

own : IsNumeralModel IsDigits (value_from 0)
own = numerals_by_fold IsDigits (search rules) value_from (search rules)

-- from the digits to the number

grows : (n : ℕ) (text : List ℕ) → n ≤ value_from n text
grows n [] = omega arith
grows n (b ∷ text) = let g = grows (n * 10 + (b - 48)) text in omega (arith, g)

digit_read : (n b : ℕ) → 48 ≤ b → b ≤ 57 → n * 10 + (b - 48) < 2 ^ 64 → with_digit n b ≡ Some (n * 10 + (b - 48))
digit_read n b l h s =
    let p : nat_le 48 b ≡ true = le-leb 48 b l in
    let q : nat_le b 57 ≡ true = le-leb b 57 h in
    let r : nat_lt (n * 10 + (b - 48)) (2 ^ 64) ≡ true = lt-ltb (n * 10 + (b - 48)) (2 ^ 64) s in
    rw p (rw q (rw r refl))

digits_read : (n : ℕ) (text : List ℕ) → IsDigits text → value_from n text < 2 ^ 64 → digits_from n text ≡ Some (value_from n text)
digits_read n [] d h = refl
digits_read n (b ∷ text) d h =
    let g = grows (n * 10 + (b - 48)) text in
    let w = digit_read n b d.0.0 d.0.1 (omega (arith, g, h)) in
    ap (λ o. then_option o (λ m. digits_from m text)) w ∙ digits_read (n * 10 + (b - 48)) text d.1 h

unpadded : (text : List ℕ) → 0 < length text → (get_or text 0 0 ≡ 48 → length text ≡ 1) → is_padded text ≡ false
unpadded [] h g = absurd (omega (arith, h))
unpadded (b ∷ []) h g = refl
unpadded (b ∷ c ∷ text) h g = ne_eqb b 48 (λ e. let l = g e in omega (arith, l))

begins : (n : ℕ) → n < 2 ^ 64 → get_or (decimal n) 0 0 ≡ 48 → length (decimal n) ≡ 1
begins zero s e = ap length (decimal_digit 0 (omega arith))
begins (suc n) s e = let f = first_decimal (suc n) (omega arith) s in absurd (omega (arith, f, e))

pub number_read : (n : ℕ) → n < 2 ^ 64 → number_of (decimal n) ≡ Some n
number_read n s =
    let v : value_from 0 (decimal n) ≡ n = digits_value-decimal own n s in
    let p : is_padded (decimal n) ≡ false = unpadded (decimal n) (decimal_nonempty n s) (begins n s) in
    let d : digits_from 0 (decimal n) ≡ Some (value_from 0 (decimal n)) = digits_read 0 (decimal n) (digits_decimal own n s) (omega (arith, v, s)) in
    ap (λ b. cond b None (digits_from 0 (decimal n))) p ∙ (d ∙ ap (λ m. Some m) v)

pub decimal_digits : (n : ℕ) → n < 2 ^ 64 → IsDigits (decimal n)
decimal_digits n s = digits_decimal own n s

-- from the number to the digits

record Digit (n b k : ℕ) : Type 0 where
  least : 48 ≤ b
  most : b ≤ 57
  value : k ≡ n * 10 + (b - 48)
  small : k < 2 ^ 64

digit_some : (n b k : ℕ) → with_digit n b ≡ Some k → Digit n b k
digit_some n b k h =
    ⊎_elim (λ t. record { least = grind (arith, nat_tests, t.0); most = grind (arith, nat_tests, t.0); value = sym t.1; small = grind (arith, nat_tests, t.0, t.1) })
    (λ e. absurd (none_some k e)) (test_some (nat_le 48 b && nat_le b 57 && nat_lt (n * 10 + (b - 48)) (2 ^ 64)) (n * 10 + (b - 48)) None k h)

record Digits (n : ℕ) (text : List ℕ) (m : ℕ) : Type 0 where
  digits : IsDigits text
  value : value_from n text ≡ m
  small : m < 2 ^ 64

digits_some : (n : ℕ) (text : List ℕ) (m : ℕ) → n < 2 ^ 64 → digits_from n text ≡ Some m → Digits n text m
digits_some n [] m s h =
    let e : n ≡ m = cc in
    record { digits = tt; value = e; small = omega (arith, e, s) }
digits_some n (b ∷ text) m s h =
    let t = then_some (λ k. digits_from k text) (with_digit n b) m h in
    let d = digit_some n b t.0 t.1 in
    let more = digits_some t.0 text m d.small t.2 in
    record { digits = ((d.least, d.most), more.digits); value = ap (λ k. value_from k text) (sym d.value) ∙ more.value; small = more.small }

filled : (text : List ℕ) → is_padded text ≡ false → 0 < length text
filled [] p = absurd (cc)
filled (b ∷ text) p = omega arith

lone : (text : List ℕ) → is_padded text ≡ false → get_or text 0 0 ≡ 48 → length text ≡ 1
lone [] p e = absurd (cc)
lone (b ∷ []) p e = refl
lone (b ∷ c ∷ text) p e = absurd (grind (arith, nat_tests, p, e))

pub number_spelled : (text : List ℕ) (n : ℕ) → number_of text ≡ Some n → (text ≡ decimal n) × (n < 2 ^ 64)
number_spelled text n h = choice (is_padded text) refl h
  where
    choice : (z : Bool) → is_padded text ≡ z → cond z None (digits_from 0 text) ≡ Some n → (text ≡ decimal n) × (n < 2 ^ 64)
    choice true e h = absurd (none_some n h)
    choice false e h =
        let d = digits_some 0 text n (omega arith) h in
        let small : value_from 0 text < 2 ^ 64 = omega (arith, d.value, d.small) in
        (sym (decimal-digits_value own text d.digits (filled text e) (lone text e) small) ∙ ap decimal d.value, d.small)
