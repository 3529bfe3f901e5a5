-- RFC 8259, section 7: string = quotation-mark *char quotation-mark.
use Rattle.std.specs.Prelude.{◌≡◌, ℕ, ◌+◌, ◌*◌, Bool, not, ◌&&◌, List, [], ◌∷◌, ◌==◌, IsTrue, nat_le, nat_lt, flat_map, if◌then◌else◌}
use Rattle.std.specs.Char.{IsScalar, digit_value}
use Rattle.std.specs.Char.Escape.{encode_utf16}
use Rattle.std.specs.Char.Utf16.{utf16_lossy_chars}
use Rattle.std.specs.List.{AllByRecursion}
use lib.Utf8.{encode}

-- char of the ABNF: a character that stands for itself, a backslash and a letter, or a backslash, u and four hex digits
pub data Piece : Type 0 where
  plain : ℕ → Piece
  short : ℕ → Piece
  unit : ℕ → ℕ → ℕ → ℕ → Piece

-- unescaped = %x20-21 / %x23-5B / %x5D-10FFFF
abbrev pub is_plain : ℕ → Bool
is_plain c = nat_le 32 c && (not (c == 34) && not (c == 92))

-- what a backslash and this letter stand for; 0 where it is none of the eight letters
abbrev pub short_character : ℕ → ℕ
short_character b = if b == 34 then 34 else if b == 92 then 92 else if b == 47 then 47 else if b == 98 then 8 else
    if b == 102 then 12 else if b == 110 then 10 else if b == 114 then 13 else if b == 116 then 9 else 0

abbrev pub is_short : ℕ → Bool
is_short b = nat_lt 0 (short_character b)

abbrev pub is_hex : ℕ → Bool
is_hex b = nat_lt (digit_value b) 16

abbrev pub IsPiece : Piece → Type 0
IsPiece (plain c) = IsScalar c × IsTrue (is_plain c)
IsPiece (short b) = IsTrue (is_short b)
IsPiece (unit a b c d) = IsTrue (is_hex a) × IsTrue (is_hex b) × IsTrue (is_hex c) × IsTrue (is_hex d)

-- the bytes of a piece, in UTF-8 (RFC 8259, section 8.1)
abbrev pub spelled : Piece → List ℕ
spelled (plain c) = encode c
spelled (short b) = 92 ∷ b ∷ []
spelled (unit a b c d) = 92 ∷ 117 ∷ a ∷ b ∷ c ∷ d ∷ []

-- the units of UTF-16 that a piece stands for
abbrev pub units : Piece → List ℕ
units (plain c) = encode_utf16 c
units (short b) = short_character b ∷ []
units (unit a b c d) = (digit_value a * 4096 + digit_value b * 256 + digit_value c * 16 + digit_value d) ∷ []

-- the characters of a string; a surrogate with no partner stands for U+FFFD
abbrev pub characters : List Piece → List ℕ
characters ps = utf16_lossy_chars (flat_map units ps)

-- these bytes, between the quotation marks, are a string of these characters
abbrev pub SpellsCharacters : List ℕ → List ℕ → Type 0
SpellsCharacters cs bytes = (ps : List Piece) × AllByRecursion IsPiece ps × (bytes ≡ flat_map spelled ps) × (cs ≡ characters ps)
