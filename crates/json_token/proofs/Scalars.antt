-- The characters of a string are Unicode scalar values: a surrogate with no partner stands for U+FFFD (RFC 8259, section 8.2).
use Rattle.std.proofs.Common.{◌≡◌, refl, ap, subst, ◌∙◌, sym, ℕ, ◌<◌, ◌≤◌, Bool, true, false, ◌&&◌, List, [], ◌∷◌, ◌++◌, map, ◌⊎◌, inl, inr, IsUtf8, arith, encode_utf8_all}
use Rattle.std.specs.Prelude.{flat_map, if◌then◌else◌}
use Rattle.std.specs.Prelude.{Some}
use Rattle.std.specs.List.{AllByRecursion}
use Rattle.std.specs.Option.{unwrap_or}
use Rattle.std.specs.Char.{IsScalar}
use Rattle.std.specs.Char.Escape.{encode_utf16}
use Rattle.std.specs.Char.Utf16.{is_high_surrogate, is_low_surrogate, surrogate_pair_char, lone_unit_char, utf16_chars, utf16_lossy_chars}
use Rattle.std.specs.Str.{chars}
use Rattle.std.proofs.str.Utf16.{one_unit, two_units}
use Rattle.std.proofs.lemmas.Bool.Decides.{nat_tests}
use Rattle.std.proofs.lemmas.Bool.{cases_lt}
use Rattle.std.proofs.lemmas.Str.{chars-encodes}
use lib.Utf8.{scalar, scalars}
use Rattle.json_text.specs.Json.{string, value}
use Rattle.json_text.specs.declared.span.Span.{Span}
use Rattle.json_text.specs.String.{Piece, plain, short, unit, short_character, IsPiece, units, SpellsCharacters}
use Rattle.json_token.proofs.Decoding.{short_below, unit_below, scalar_below}

-- units of UTF-16
abbrev AreUnits : List ℕ → Type 0
AreUnits us = AllByRecursion (λ u. u < 65536) us

lone_scalar : (u : ℕ) → u < 65536 → scalar (unwrap_or (lone_unit_char u) 0xFFFD) ≡ true
lone_scalar u h = grind (arith, nat_tests)

pair_scalar : (u v : ℕ) → (is_high_surrogate u && is_low_surrogate v) ≡ true → scalar (surrogate_pair_char u v) ≡ true
pair_scalar u v h = grind (arith, nat_tests)

joined : (a b : Bool) → a ≡ true → b ≡ true → (a && b) ≡ true
joined true true e f = refl
joined true false e f = f
joined false b e f = e

lossy_scalars : (us : List ℕ) → AreUnits us → scalars (utf16_lossy_chars us) ≡ true
unfolding utf16_chars
lossy_scalars [] h = refl
lossy_scalars (u ∷ []) h = joined (scalar (unwrap_or (lone_unit_char u) 0xFFFD)) true (lone_scalar u h.0) refl
lossy_scalars (u ∷ v ∷ us) h = go (is_high_surrogate u && is_low_surrogate v) refl (lossy_scalars us h.1.1) (lossy_scalars (v ∷ us) h.1)
  where
    go : (b : Bool) → (is_high_surrogate u && is_low_surrogate v) ≡ b → scalars (utf16_lossy_chars us) ≡ true → scalars (utf16_lossy_chars (v ∷ us)) ≡ true
        → scalars (map (λ o. unwrap_or o 0xFFFD) (if b then Some (surrogate_pair_char u v) ∷ utf16_chars us else lone_unit_char u ∷ utf16_chars (v ∷ us))) ≡ true
    go true e f g = joined (scalar (surrogate_pair_char u v)) (scalars (utf16_lossy_chars us)) (pair_scalar u v e) f
    go false e f g = joined (scalar (unwrap_or (lone_unit_char u) 0xFFFD)) (scalars (utf16_lossy_chars (v ∷ us))) (lone_scalar u h.0) g

units_joined : (us vs : List ℕ) → AreUnits us → AreUnits vs → AreUnits (us ++ vs)
units_joined [] vs h g = g
units_joined (u ∷ us) vs h g = (h.0, units_joined us vs h.1 g)

character_units : (c : ℕ) → IsScalar c → (c < 65536) ⊎ (65536 ≤ c) → AreUnits (encode_utf16 c)
character_units c s (inl h) = subst AreUnits (sym (one_unit c h)) (h, tt)
character_units c s (inr h) = subst AreUnits (sym (two_units c h)) (omega (arith, scalar_below c s), (omega arith, tt))

piece_units : (p : Piece) → IsPiece p → AreUnits (units p)
piece_units (plain c) h = character_units c h.0 (cases_lt c 65536)
piece_units (short b) h = let l : short_character b < 128 = short_below b in (omega arith, tt)
piece_units (unit a b c d) h = (unit_below a b c d h.0 h.1 h.2 h.3, tt)

all_units : (ps : List Piece) → AllByRecursion IsPiece ps → AreUnits (flat_map units ps)
all_units [] h = tt
all_units (p ∷ ps) h = units_joined (units p) (flat_map units ps) (piece_units p h.0) (all_units ps h.1)

-- what a string's bytes spell
pub scalar_characters : (cs bytes : List ℕ) → SpellsCharacters cs bytes → scalars cs ≡ true
scalar_characters cs bytes h = ap scalars h.3 ∙ lossy_scalars (flat_map units h.0) (all_units h.0 h.1)

-- the characters of a string that stands somewhere
pub scalar_string : (s : Span) (cs : List ℕ) (at : ℕ) (bytes : List ℕ) → value (string s cs) at bytes → scalars cs ≡ true
scalar_string s cs at bytes h = scalar_characters cs h.0.4.0 h.0.4.3

-- characters that are scalar values, as UTF-8
pub utf8_characters : (cs : List ℕ) → scalars cs ≡ true → IsUtf8 (encode_utf8_all cs) × (chars (encode_utf8_all cs) ≡ cs)
utf8_characters cs h = ((cs, (h, refl)), chars-encodes cs h)
