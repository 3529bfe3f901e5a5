-- Places in a text of three lines, worked out by the checker.
use Rattle.std.proofs.Common.{◌≡◌, ℕ, List, [], ◌∷◌, refl}
use Rattle.std.specs.Str.{chars}
use Rattle.position_codec.specs.declared.Encoding.TheVariants.{Utf8, Utf16, Utf32}
use Rattle.position_codec.specs.Position.{lines, offset_at, starts}

-- `a😀b\r\nc\rd`
abbrev text : List ℕ
text = 97 ∷ 240 ∷ 159 ∷ 152 ∷ 128 ∷ 98 ∷ 13 ∷ 10 ∷ 99 ∷ 13 ∷ 100 ∷ []

abbrev characters : List ℕ
characters = 97 ∷ 0x1F600 ∷ 98 ∷ 13 ∷ 10 ∷ 99 ∷ 13 ∷ 100 ∷ []

its_characters : chars text ≡ characters
unfolding chars
its_characters = refl

places_utf16 : offset_at Utf16 0 0 (lines characters) ∷ offset_at Utf16 0 1 (lines characters) ∷ offset_at Utf16 0 2 (lines characters) ∷ offset_at Utf16 0 3 (lines characters) ∷ offset_at Utf16 0 4 (lines characters) ∷ offset_at Utf16 0 9 (lines characters) ∷ offset_at Utf16 1 0 (lines characters) ∷ offset_at Utf16 1 5 (lines characters) ∷ offset_at Utf16 2 0 (lines characters) ∷ offset_at Utf16 3 0 (lines characters) ∷ [] ≡ 0 ∷ 1 ∷ 1 ∷ 5 ∷ 6 ∷ 6 ∷ 8 ∷ 9 ∷ 10 ∷ 11 ∷ []
places_utf16 = refl

places_utf8 : offset_at Utf8 0 3 (lines characters) ∷ offset_at Utf8 0 5 (lines characters) ∷ [] ≡ 1 ∷ 5 ∷ []
places_utf8 = refl

places_utf32 : offset_at Utf32 0 2 (lines characters) ∷ offset_at Utf32 0 3 (lines characters) ∷ [] ≡ 5 ∷ 6 ∷ []
places_utf32 = refl

line_starts : starts 0 (lines characters) ≡ 0 ∷ 8 ∷ 10 ∷ []
line_starts = refl

-- a text without characters has one line
no_characters : starts 0 (lines []) ≡ 0 ∷ []
no_characters = refl

-- `\n\r\r\n\n`
ends_alone : starts 0 (lines (10 ∷ 13 ∷ 13 ∷ 10 ∷ 10 ∷ [])) ≡ 0 ∷ 1 ∷ 2 ∷ 4 ∷ 5 ∷ []
ends_alone = refl
