-- Numbers in a line: decimal, without sign and leading zeros, below 2^64.
use Rattle.std.specs.Prelude.{ℕ, ◌+◌, ◌-◌, ◌*◌, ◌^◌, Bool, true, false, ◌&&◌, List, [], ◌∷◌, nat_eq, nat_le, nat_lt, if◌then◌else◌}
use Rattle.std.specs.Prelude.{Option, Some, None}
use Rattle.drive_text.specs.Options.{then_option}

-- a number with one more digit behind it
abbrev pub with_digit : ℕ → ℕ → Option ℕ
with_digit n b = if nat_le 48 b && nat_le b 57 && nat_lt (n * 10 + (b - 48)) (2 ^ 64) then Some (n * 10 + (b - 48)) else None

abbrev pub digits_from : ℕ → List ℕ → Option ℕ
digits_from n [] = Some n
digits_from n (b ∷ text) = then_option (with_digit n b) (λ m. digits_from m text)

-- it begins with a zero that isn't the number itself, or is empty
abbrev pub is_padded : List ℕ → Bool
is_padded [] = true
is_padded (b ∷ []) = false
is_padded (b ∷ c ∷ text) = nat_eq b 48

abbrev pub number_of : List ℕ → Option ℕ
number_of text = if is_padded text then None else digits_from 0 text
