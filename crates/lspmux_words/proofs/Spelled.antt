-- The number that a text is.
use Rattle.std.proofs.Common.{◌≡◌, ◌<◌, ◌≤◌, ◌^◌, ◌&&◌, ℕ, Bool, true, false, cond, List, Option, Some, None, Ok, Err, Result, nat_le, decimal, refl, sym, ap, ◌∙◌, arith}
use Rattle.std.proofs.lemmas.Bool.{and_parts}
use Rattle.std.proofs.lemmas.Bool.Decides.{nat_tests}
use Rattle.std.proofs.lemmas.Fmt.{decimal_is_IsNumeral, parse-decimal}
use Rattle.std.proofs.lemmas.Slice.Eq.{bytes_eq-Decides}
use Rattle.std.specs.Str.{bytes_eq}
use Rattle.std.specs.Str.Parse.{ParsesUnsigned, digits_value}
use Rattle.lspmux_words.specs.Meaning.{is_number, number_in}

-- this number, where the text is it
abbrev pub number_if : ℕ → ℕ → List ℕ → ℕ → Option ℕ
number_if low high text n = cond (is_number low high n text) (Some n) None

is_spelled : (low high n : ℕ) (text : List ℕ) → is_number low high n text ≡ true → decimal n ≡ text
is_spelled low high n text h = (bytes_eq-Decides (decimal n) text).0 (and_parts (bytes_eq (decimal n) text) _ h).0

is_below : (low high n : ℕ) (text : List ℕ) → is_number low high n text ≡ true → n ≤ high
is_below low high n text h =
    let k = (and_parts (nat_le low n) (nat_le n high) (and_parts (bytes_eq (decimal n) text) _ h).1).1 in
    grind (arith, nat_tests)

pub is_value : (n : ℕ) (text : List ℕ) → n < 2 ^ 64 → decimal n ≡ text → digits_value 10 text ≡ n
is_value n text small is = ap (digits_value 10) (sym is) ∙ (decimal_is_IsNumeral n small).1

module _ {E : Type 0} (low high : ℕ) (text : List ℕ) (r : Result ℕ E) (few : high < 2 ^ 64) (h : ParsesUnsigned 64 10 text r) where
  -- where the text is a number of the range, it was read
  was_read : (m : ℕ) → is_number low high m text ≡ true → r ≡ Ok m
  was_read m is =
      let small : m < 2 ^ 64 = let k = is_below low high m text is in omega arith in
      parse-decimal 64 m text r small small (sym (is_spelled low high m text is)) h

  pub number_found : (n : ℕ) → r ≡ Ok n → number_if low high text n ≡ number_in low high text
  number_found n read = go (is_number low high n text) refl (is_number low high (digits_value 10 text) text) refl
    where
      same : digits_value 10 text ≡ n → number_if low high text n ≡ number_in low high text
      same e = ap (number_if low high text) (sym e)

      ok : (m : ℕ) → r ≡ Ok m → m ≡ n
      ok m e =
          let both = sym e ∙ read in
          cc

      go : (b : Bool) → is_number low high n text ≡ b → (d : Bool) → is_number low high (digits_value 10 text) text ≡ d
          → number_if low high text n ≡ number_in low high text
      go true is d is_d =
          let small : n < 2 ^ 64 = let k = is_below low high n text is in omega arith in
          same (is_value n text small (is_spelled low high n text is))
      go false is true is_d = same (ok (digits_value 10 text) (was_read (digits_value 10 text) is_d))
      go false is false is_d = rw (is, is_d) refl

  pub number_missed : (e : E) → r ≡ Err e → None ≡ number_in low high text
  number_missed e failed = go (is_number low high (digits_value 10 text) text) refl
    where
      go : (d : Bool) → is_number low high (digits_value 10 text) text ≡ d → None ≡ number_in low high text
      go true is =
          let both = sym (was_read (digits_value 10 text) is) ∙ failed in
          cc
      go false is = rw is refl
