-- What the classes of bytes say, and the bytes of each class.
use Rattle.std.proofs.Common.{◌≡◌, refl, ap, ℕ, ◌&&◌, ◌⊎◌, inl, inr, arith}
use Rattle.std.specs.Prelude.{IsTrue, true, nat_le}
use Rattle.std.specs.Char.{is_ascii_digit}
use Rattle.std.proofs.lemmas.Bool.Decides.{nat_tests}
use Rattle.json_text.specs.Number.{is_digit}
use Rattle.json_text.specs.Read.{is_number_byte}
use Rattle.json_token.specs.declared.number.NumberByte.TheVariants as byte
use Rattle.json_token.specs.declared.number.NumberPart.{NumberPart}
use Rattle.json_token.specs.declared.number.NumberPart.TheVariants as part
use Rattle.json_token.specs.declared.number.NumberMove.TheVariants.{Goes}
use Rattle.json_token.specs.NumberMoves.{number_byte, number_move, after_whole, after_fraction, after_exponent}
use Rattle.json_token.specs.Runs.{takes_digits}

pub zero_is : (b : ℕ) → number_byte b ≡ byte.Zero → b ≡ 48
unfolding number_byte
zero_is b h = grind (arith, nat_tests)

pub one_is : (b : ℕ) → number_byte b ≡ byte.OneToNine → IsTrue (nat_le 49 b && nat_le b 57)
unfolding number_byte
one_is b h = grind (arith, nat_tests)

pub zero_digit : (b : ℕ) → number_byte b ≡ byte.Zero → IsTrue (is_digit b)
unfolding number_byte
zero_digit b h = grind (arith, nat_tests)

pub one_digit : (b : ℕ) → number_byte b ≡ byte.OneToNine → IsTrue (is_digit b)
unfolding number_byte
one_digit b h = grind (arith, nat_tests)

pub point_is : (b : ℕ) → number_byte b ≡ byte.Point → b ≡ 46
unfolding number_byte
point_is b h = grind (arith, nat_tests)

pub letter_is : (b : ℕ) → number_byte b ≡ byte.Letter → (b ≡ 101) ⊎ (b ≡ 69)
unfolding number_byte
letter_is b h = grind (arith, nat_tests)

pub plus_is : (b : ℕ) → number_byte b ≡ byte.Plus → b ≡ 43
unfolding number_byte
plus_is b h = grind (arith, nat_tests)

pub minus_is : (b : ℕ) → number_byte b ≡ byte.Minus → b ≡ 45
unfolding number_byte
minus_is b h = grind (arith, nat_tests)

pub one_class : (b : ℕ) → IsTrue (nat_le 49 b && nat_le b 57) → number_byte b ≡ byte.OneToNine
unfolding number_byte
one_class b h = grind (arith, nat_tests)

pub digit_class : (b : ℕ) → IsTrue (is_digit b) → (number_byte b ≡ byte.Zero) ⊎ (number_byte b ≡ byte.OneToNine)
unfolding number_byte
digit_class b h = grind (arith, nat_tests)

ascii_digit_class : (b : ℕ) → is_ascii_digit b ≡ true → (number_byte b ≡ byte.Zero) ⊎ (number_byte b ≡ byte.OneToNine)
unfolding number_byte
ascii_digit_class b h = grind (arith, nat_tests)

-- no number has a byte of the last class
pub other_is : (b : ℕ) → number_byte b ≡ byte.Other → IsTrue (is_number_byte b) → ⊥
unfolding number_byte
other_is b h k = grind (arith, nat_tests)

pub other_class : (b : ℕ) → (IsTrue (is_number_byte b) → ⊥) → number_byte b ≡ byte.Other
unfolding number_byte
other_class b h = grind (arith, nat_tests)

pub zero_class : number_byte 48 ≡ byte.Zero
unfolding number_byte
zero_class = refl

pub point_class : number_byte 46 ≡ byte.Point
unfolding number_byte
point_class = refl

pub plus_class : number_byte 43 ≡ byte.Plus
unfolding number_byte
plus_class = refl

pub minus_class : number_byte 45 ≡ byte.Minus
unfolding number_byte
minus_class = refl

pub letter_class : (e : ℕ) → (e ≡ 101) ⊎ (e ≡ 69) → number_byte e ≡ byte.Letter
unfolding number_byte
letter_class e (inl h) = ap number_byte h
letter_class e (inr h) = ap number_byte h

pub digit_goes : (p : NumberPart) (b : ℕ) → takes_digits p ≡ true → is_ascii_digit b ≡ true → number_move p b ≡ Goes p
digit_goes p b t h = go p (ascii_digit_class b h) t
  where
    go : (q : NumberPart) → (number_byte b ≡ byte.Zero) ⊎ (number_byte b ≡ byte.OneToNine) → takes_digits q ≡ true → number_move q b ≡ Goes q
    go part.Whole (inl e) t = ap after_whole e
    go part.Whole (inr e) t = ap after_whole e
    go part.Fraction (inl e) t = ap after_fraction e
    go part.Fraction (inr e) t = ap after_fraction e
    go part.Exponent (inl e) t = ap after_exponent e
    go part.Exponent (inr e) t = ap after_exponent e
    go _ e t = absurd cc
