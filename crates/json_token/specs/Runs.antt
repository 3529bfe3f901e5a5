-- Bytes that do the same to a token, however many of them come.
use Rattle.std.specs.Prelude.{ℕ, Bool, true, false, not, ◌&&◌, nat_lt}
use Rattle.std.specs.Char.{is_ascii_digit}
use Rattle.json_text.specs.Json.{is_space}
use Rattle.json_text.specs.String.{is_plain}
use Rattle.json_token.specs.declared.number.NumberPart.{NumberPart}
use Rattle.json_token.specs.declared.number.NumberPart.TheVariants as part

-- a byte of ASCII that stands for itself in a string
abbrev pub is_plain_ascii : ℕ → Bool
is_plain_ascii b = is_plain b && nat_lt b 128

abbrev pub is_not_plain_ascii : ℕ → Bool
is_not_plain_ascii b = not (is_plain_ascii b)

abbrev pub is_not_plain : ℕ → Bool
is_not_plain b = not (is_plain b)

abbrev pub is_no_digit : ℕ → Bool
is_no_digit b = not (is_ascii_digit b)

abbrev pub is_no_space : ℕ → Bool
is_no_space b = not (is_space b)

-- a part of a number that another digit leaves as it is
abbrev pub takes_digits : NumberPart → Bool
takes_digits part.Whole = true
takes_digits part.Fraction = true
takes_digits part.Exponent = true
takes_digits _ = false
