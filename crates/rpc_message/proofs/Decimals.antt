-- What `decimal` writes is the text of an integer id.
use Rattle.std.proofs.Common.{◌≡◌, ℕ, ℤ, pos, negsuc, zero, suc, ◌+◌, ◌/◌, ◌%◌, ◌^◌, ◌<◌, ◌≤◌, true, ◌&&◌, ◌||◌, ◌==◌, List, [], ◌∷◌, ◌++◌, IsTrue, nat_le, inl, inr, length, decimal, refl, sym, ap, subst, arith, append-nil}
use Rattle.std.proofs.lemmas.Bool.{and_parts, and_from, le-leb}
use Rattle.std.proofs.lemmas.Fmt.{decimal_by_steps_wide, decimal_digit}
use Rattle.std.specs.Fmt.{signed_decimal}
use Rattle.std.specs.Int.Signed.{mag}
use Rattle.json_text.specs.Json.{number}
use Rattle.json_text.specs.Number.{is_digit, IsNumber}
use Rattle.json_text.specs.Read.{all_digits}
use Rattle.rpc_message.specs.Message.{integer, is_integer, integer_if}
use Rattle.rpc_message.specs.ValueTexts.{IsIdText}
use Rattle.rpc_message.proofs.Fixed.{digits_of}

digit : (d : ℕ) → d < 10 → is_digit (48 + d) ≡ true
digit d h = and_from (nat_le 48 (48 + d)) (nat_le (48 + d) 57) (le-leb 48 (48 + d) (omega arith)) (le-leb (48 + d) 57 (omega arith))

digits_then : (ds : List ℕ) (c : ℕ) → all_digits ds ≡ true → is_digit c ≡ true → all_digits (ds ++ c ∷ []) ≡ true
unfolding all_digits
digits_then [] c h g = and_from (is_digit c) true g refl
digits_then (d ∷ ds) c h g = let k : (is_digit d ≡ true) × (all_digits ds ≡ true) = and_parts (is_digit d) (all_digits ds) h in
    and_from (is_digit d) (all_digits (ds ++ c ∷ [])) k.0 (digits_then ds c k.1 g)

-- digits, and no leading zero
record Leading (ds : List ℕ) : Type 0 where
  first : ℕ
  rest : List ℕ
  positive : IsTrue (nat_le 49 first && nat_le first 57)
  digits : all_digits rest ≡ true
  is : ds ≡ first ∷ rest

record Spelt (n : ℕ) (ds : List ℕ) : Type 0 where
  digits : all_digits ds ≡ true
  leading : 0 < n → Leading ds

spelt_one : (n : ℕ) → n < 10 → Spelt n ((48 + n) ∷ [])
unfolding all_digits
spelt_one n h = record {
  digits = and_from (is_digit (48 + n)) true (digit n h) refl;
  leading = λ p. record {
    first = 48 + n;
    rest = [];
    digits = refl;
    is = refl;
    positive = and_from (nat_le 49 (48 + n)) (nat_le (48 + n) 57) (le-leb 49 (48 + n) (omega (arith, p))) (le-leb (48 + n) 57 (omega arith));
  };
}

spelt_more : (n : ℕ) (ds : List ℕ) → 10 ≤ n → Spelt (n / 10) ds → Spelt n (ds ++ ((48 + n % 10) ∷ []))
spelt_more n ds h s = record {
  digits = digits_then ds (48 + n % 10) s.digits (digit (n % 10) (omega arith));
  leading = λ p. let l : Leading ds = s.leading (omega arith) in record {
    first = l.first;
    rest = l.rest ++ ((48 + n % 10) ∷ []);
    positive = l.positive;
    digits = digits_then l.rest (48 + n % 10) l.digits (digit (n % 10) (omega arith));
    is = ap (λ z. z ++ ((48 + n % 10) ∷ [])) l.is;
  };
}

spelt : (n : ℕ) → n < 10 ^ 64 → Spelt n (decimal n)
spelt n h = decimal_by_steps_wide Spelt spelt_one spelt_more n h

number_leading : (ds : List ℕ) → Leading ds → IsNumber ds
number_leading ds l = ([], ds, [], [], inl refl, inr (l.first, l.rest, l.positive, digits_of l.rest l.digits, l.is), inl refl, inl refl, sym (append-nil ds))

zero_number : IsNumber (48 ∷ [])
zero_number = ([], 48 ∷ [], [], [], inl refl, inl refl, inl refl, inl refl, refl)

pub decimal_number : (n : ℕ) → n < 10 ^ 64 → IsNumber (decimal n)
decimal_number zero h = subst IsNumber (sym (decimal_digit 0 (omega arith))) zero_number
decimal_number (suc n) h = number_leading (decimal (suc n)) ((spelt (suc n) h).leading (omega arith))

integer_digits : (ds : List ℕ) → all_digits ds ≡ true → is_integer ds ≡ true
unfolding all_digits is_integer
integer_digits [] h = refl
integer_digits (d ∷ ds) h = let k : (is_digit d ≡ true) × (all_digits ds ≡ true) = and_parts (is_digit d) (all_digits ds) h in
    and_from (is_digit d || (d == 45)) (is_integer ds) (ap (λ b. b || (d == 45)) k.0) (integer_digits ds k.1)

pub decimal_integer : (n : ℕ) → n < 10 ^ 64 → is_integer (decimal n) ≡ true
decimal_integer n h = integer_digits (decimal n) (spelt n h).digits

-- the same below zero
pub signed_number : (z : ℤ) → mag z < 2 ^ 32 → IsNumber (signed_decimal z)
signed_number (pos n) h = decimal_number n (omega arith)
signed_number (negsuc n) h = let l : Leading (decimal (suc n)) = (spelt (suc n) (omega arith)).leading (omega arith) in
    (45 ∷ [], decimal (suc n), [], [], inr refl, inr (l.first, l.rest, l.positive, digits_of l.rest l.digits, l.is), inl refl, inl refl, ap (λ z. 45 ∷ z) (sym (append-nil (decimal (suc n)))))

pub signed_integer : (z : ℤ) → mag z < 2 ^ 32 → is_integer (signed_decimal z) ≡ true
unfolding is_integer
signed_integer (pos n) h = decimal_integer n (omega arith)
signed_integer (negsuc n) h = decimal_integer (suc n) (omega arith)

-- `decimal n` is the text of the id `integer (decimal n)`
pub decimal_wide_law : (n : ℕ) → n < 10 ^ 64 → IsIdText (integer (decimal n)) (decimal n)
decimal_wide_law n h = record {
  tree = number (record { from = 0; to = 0 + length (decimal n) }) (decimal n);
  stands = ((refl, decimal_number n h), refl);
  is = ap (λ b. integer_if b (decimal n)) (decimal_integer n h);
}

pub decimal_law : (n : ℕ) → n < 2 ^ 64 → IsIdText (integer (decimal n)) (decimal n)
decimal_law n h = decimal_wide_law n (omega arith)
