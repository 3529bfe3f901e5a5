-- The characters that a string's bytes stand for, one after the other.
use Rattle.std.specs.Prelude.{ℕ, zero, suc, ◌+◌, ◌-◌, ◌*◌, ◌&&◌, List, [], ◌∷◌, length, ◌==◌, nat_lt, if◌then◌else◌}
use Rattle.std.specs.Prelude.{Option, Some, None}
use Rattle.std.specs.Borrow.{Bor}
use Rattle.std.specs.Char.{digit_value}
use Rattle.std.specs.Char.Utf16.{is_high_surrogate, is_low_surrogate, surrogate_pair_char}
use lib.Utf8.{scalar}
use Rattle.json_text.specs.String.{short_character}

-- a number or a character that was read, and the bytes behind it
abbrev pub Front : Type 0
Front = Option (ℕ × List ℕ)

abbrev pub pair_view : ℕ × Bor (List ℕ) → ℕ × List ℕ
pair_view p = (p.0, p.1.now)

abbrev pub front_view : Option (ℕ × Bor (List ℕ)) → Front
front_view (Some p) = Some (p.0, p.1.now)
front_view None = None

-- U+FFFD in place of what is no character
abbrev pub replaced : ℕ → ℕ
replaced c = if scalar c then c else 0xFFFD

abbrev pub two_code : ℕ → ℕ → ℕ
two_code a b = (a - 192) * 64 + (b - 128)

abbrev pub three_code : ℕ → ℕ → ℕ → ℕ
three_code a b c = (a - 224) * 4096 + ((b - 128) * 64 + (c - 128))

abbrev pub four_code : ℕ → ℕ → ℕ → ℕ → ℕ
four_code a b c d = (a - 240) * 262144 + ((b - 128) * 4096 + ((c - 128) * 64 + (d - 128)))

abbrev pub two_front : ℕ → List ℕ → Front
two_front a [] = None
two_front a (b ∷ rest) = Some (replaced (two_code a b), rest)

abbrev pub three_front : ℕ → List ℕ → Front
three_front a [] = None
three_front a (b ∷ []) = None
three_front a (b ∷ c ∷ rest) = Some (replaced (three_code a b c), rest)

abbrev pub four_front : ℕ → List ℕ → Front
four_front a [] = None
four_front a (b ∷ []) = None
four_front a (b ∷ c ∷ []) = None
four_front a (b ∷ c ∷ d ∷ rest) = Some (replaced (four_code a b c d), rest)

-- a character that stands for itself, in UTF-8 (RFC 3629, section 3)
abbrev pub plain_front : List ℕ → Front
plain_front [] = None
plain_front (a ∷ rest) = if nat_lt a 128 then Some (a, rest) else if nat_lt a 224 then two_front a rest else if nat_lt a 240 then three_front a rest else four_front a rest

abbrev pub unit_value : ℕ → ℕ → ℕ → ℕ → ℕ
unit_value a b c d = digit_value a * 4096 + digit_value b * 256 + digit_value c * 16 + digit_value d

-- the unit of UTF-16 that four digits write
abbrev pub unit_front : List ℕ → Front
unit_front [] = None
unit_front (a ∷ []) = None
unit_front (a ∷ b ∷ []) = None
unit_front (a ∷ b ∷ c ∷ []) = None
unit_front (a ∷ b ∷ c ∷ d ∷ rest) = Some (unit_value a b c d, rest)

-- the same behind a backslash and u
abbrev pub escaped_unit : List ℕ → Front
escaped_unit [] = None
escaped_unit (s ∷ []) = None
escaped_unit (s ∷ u ∷ rest) = if (s == 92) && (u == 117) then unit_front rest else None

-- a pair of surrogates, of which the second was read, or the first alone
abbrev pub after_second : ℕ → List ℕ → Front → ℕ × List ℕ
after_second unit rest None = (replaced unit, rest)
after_second unit rest (Some p) = if is_high_surrogate unit && is_low_surrogate p.0 then (replaced (surrogate_pair_char unit p.0), p.1) else (replaced unit, rest)

-- what a unit stands for, with the one behind it where the two are a pair
abbrev pub after_unit : ℕ → List ℕ → ℕ × List ℕ
after_unit unit rest = after_second unit rest (escaped_unit rest)

abbrev pub unit_character : Front → Front
unit_character (Some p) = Some (after_unit p.0 p.1)
unit_character None = None

-- what stands behind a backslash
abbrev pub escape_front : List ℕ → Front
escape_front [] = None
escape_front (b ∷ rest) = if b == 117 then unit_character (unit_front rest) else Some (short_character b, rest)

abbrev pub next_character : List ℕ → Front
next_character [] = None
next_character (b ∷ rest) = if b == 92 then escape_front rest else plain_front (b ∷ rest)

-- a character, where there is one, and those that are read in the bytes behind it
abbrev pub first_then : (List ℕ → List ℕ) → Front → List ℕ
first_then behind None = []
first_then behind (Some p) = p.0 ∷ behind p.1

-- so many characters at most, one after the other, up to the first place where none can be read
unfoldable pub characters_within : ℕ → List ℕ → List ℕ
characters_within zero raw = []
characters_within (suc n) raw = first_then (λ rest. characters_within n rest) (next_character raw)

-- all of them: of the bytes of a string, its characters
abbrev pub characters_in : List ℕ → List ℕ
characters_in raw = characters_within (length raw) raw

-- the bytes behind this character, where it comes first
abbrev pub behind : ℕ → Front → Option (List ℕ)
behind wanted None = None
behind wanted (Some p) = if p.0 == wanted then Some p.1 else None

abbrev pub rest_view : Option (Bor (List ℕ)) → Option (List ℕ)
rest_view (Some rest) = Some rest.now
rest_view None = None
