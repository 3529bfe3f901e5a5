-- A text as it is quoted is a string of its characters (RFC 8259, section 7).
use Rattle.std.proofs.Common.{◌≡◌, ℕ, zero, suc, ◌+◌, ◌<◌, ◌≤◌, ◌/◌, ◌%◌, Bool, true, false, ◌&&◌, nat_lt, List, [], ◌∷◌, ◌++◌, length, map, IsUtf8, IsTrue, inl, inr, refl, sym, ap, ap₂, ◌∙◌, subst, arith, append-nil, zero-add}
use Rattle.std.specs.Prelude.{if◌then◌else◌, flat_map, bytes_eq, unwrap_or}
use Rattle.std.specs.Char.{IsScalar, digit_char}
use Rattle.std.specs.Char.Escape.{encode_utf16}
use Rattle.std.specs.Char.Utf16.{utf16_lossy_chars}
use Rattle.std.specs.List.{AllByRecursion}
use Rattle.std.specs.Str.{chars}
use Rattle.std.proofs.lemmas.Bool.{and_parts, cases_lt, cases_eq}
use Rattle.std.proofs.lemmas.Bool.Decides.{nat_tests}
use Rattle.std.proofs.lemmas.Grind.{flat_map-append}
use Rattle.std.proofs.lemmas.Slice.Eq.{bytes_eq-Decides}
use Rattle.std.proofs.lemmas.Str.{encodes-chars, scalars-chars, utf16_chars-nil}
use Rattle.std.proofs.str.Utf16.{one_unit}
use lib.Utf8.{scalar, scalars, encode, encodes}
use Rattle.json.specs.Print.{escape_letter, escape_byte, escape, quoted, print, print_from}
use Rattle.json.specs.Token.{Token}
use Rattle.json.specs.Token as token
use Rattle.json.proofs.Printed.Strings.{escape_byte_plain}
use Rattle.json_text.specs.String.{Piece, plain, short, unit, IsPiece, is_plain, is_short, is_hex, spelled, units, characters, SpellsCharacters}
use Rattle.json_text.specs.Json.{string, value}
use Rattle.json_token.proofs.Decoding.{plain_units}
use Rattle.json_token.proofs.Encoded.{one, two, three, four, plain_past}

-- how a character stands there
abbrev pub piece_of : ℕ → Piece
piece_of c = if nat_lt 0 (escape_letter c) then short (escape_letter c) else if nat_lt c 32 then unit 48 48 (digit_char (c / 16)) (digit_char (c % 16)) else plain c

abbrev is_piece : Piece → Bool
is_piece (plain c) = scalar c && is_plain c
is_piece (short b) = is_short b
is_piece (unit a b c d) = is_hex a && (is_hex b && (is_hex c && is_hex d))

-- that piece is one, its bytes are what is written for the character, and it stands for the character
abbrev fits : ℕ → Bool
fits c = is_piece (piece_of c) && (bytes_eq (spelled (piece_of c)) (escape_byte c) && bytes_eq (units (piece_of c)) (c ∷ []))

abbrev fit_below : ℕ → Bool
fit_below zero = true
fit_below (suc n) = fits n && fit_below n

ascii_fits : fit_below 128 ≡ true
unfolding escape_byte encode
ascii_fits = refl

below : (n : ℕ) → fit_below n ≡ true → (c : ℕ) → c < n → fits c ≡ true
below zero e c h = absurd (omega arith)
below (suc n) e c h = let p = and_parts _ _ e in elim (cases_eq c n) [ inl same ↦ rw same p.0 | inr other ↦ below n p.1 c (omega arith) ]

are_hex : (x y z w : Bool) → (x && (y && (z && w))) ≡ true → IsTrue x × IsTrue y × IsTrue z × IsTrue w
are_hex true true true true e = (refl, refl, refl, refl)
are_hex true true true false e = cc
are_hex true true false w e = cc
are_hex true false z w e = cc
are_hex false y z w e = cc

piece_is : (p : Piece) → is_piece p ≡ true → IsPiece p
piece_is (plain c) e = let p = and_parts _ _ e in (p.0, p.1)
piece_is (short b) e = e
piece_is (unit a b c d) e = are_hex (is_hex a) (is_hex b) (is_hex c) (is_hex d) e

-- a character stands as the piece p
record Stands (c : ℕ) (p : Piece) : Type 0 where
  pub piece : IsPiece p
  pub bytes : spelled p ≡ escape (encode c)
  pub character : units p ≡ encode_utf16 c

ascii_stands : (c : ℕ) → c < 128 → Stands c (piece_of c)
ascii_stands c h =
    let all : fits c ≡ true = below 128 ascii_fits c h in
    let p = and_parts _ _ all in
    let q = and_parts _ _ p.1 in
    record {
      piece = piece_is (piece_of c) p.0;
      bytes = (bytes_eq-Decides (spelled (piece_of c)) (escape_byte c)).0 q.0 ∙ sym (ap escape (one c h) ∙ append-nil (escape_byte c));
      character = (bytes_eq-Decides (units (piece_of c)) (c ∷ [])).0 q.1 ∙ sym (one_unit c (omega arith));
    }

-- bytes from 128 on are written as they are
high : (b : ℕ) (bs : List ℕ) → 128 ≤ b → escape bs ≡ bs → escape (b ∷ bs) ≡ b ∷ bs
high b bs h e = ap₂ (λ (x y : List ℕ). x ++ y) (escape_byte_plain b (λ e. omega arith) (λ e. omega arith) (omega arith)) e

same_bytes : (bs cs : List ℕ) → bs ≡ cs → escape cs ≡ cs → bs ≡ escape bs
same_bytes bs cs e h = e ∙ sym (ap escape e ∙ h)

past_bytes : (c : ℕ) → 128 ≤ c → encode c ≡ escape (encode c)
past_bytes c h = elim (cases_lt c 2048) [
  | inl k ↦ same_bytes (encode c) _ (two c h k) (high _ _ (omega arith) (high _ [] (omega arith) refl))
  | inr k ↦ elim (cases_lt c 65536) [
    | inl l ↦ same_bytes (encode c) _ (three c k l) (high _ _ (omega arith) (high _ _ (omega arith) (high _ [] (omega arith) refl)))
    | inr l ↦ same_bytes (encode c) _ (four c l) (high _ _ (omega arith) (high _ _ (omega arith) (high _ _ (omega arith) (high _ [] (omega arith) refl))))
  ]
]

past_piece : (c : ℕ) → 128 ≤ c → piece_of c ≡ plain c
past_piece c h = grind (arith, nat_tests)

past_stands : (c : ℕ) → 128 ≤ c → IsScalar c → Stands c (piece_of c)
past_stands c h s = rw (past_piece c h) (record { piece = (s, plain_past c h); bytes = past_bytes c h; character = refl })

stands : (c : ℕ) → IsScalar c → Stands c (piece_of c)
stands c s = elim (cases_lt c 128) [ inl h ↦ ascii_stands c h | inr h ↦ past_stands c h s ]

-- and so do all of them

pieces : (cs : List ℕ) → scalars cs ≡ true → AllByRecursion IsPiece (map piece_of cs)
pieces [] e = tt
pieces (c ∷ cs) e = let p = and_parts _ _ e in ((stands c p.0).piece, pieces cs p.1)

written : (cs : List ℕ) → scalars cs ≡ true → escape (encodes cs) ≡ flat_map spelled (map piece_of cs)
written [] e = refl
written (c ∷ cs) e = let p = and_parts _ _ e in flat_map-append escape_byte (encode c) (encodes cs) ∙ ap₂ (λ (x y : List ℕ). x ++ y) (sym (stands c p.0).bytes) (written cs p.1)

meant : (cs : List ℕ) → scalars cs ≡ true → cs ≡ characters (map piece_of cs)
meant [] e = sym (ap (λ xs. map (λ o. unwrap_or o 0xFFFD) xs) utf16_chars-nil)
meant (c ∷ cs) e = let p = and_parts _ _ e in
    ap (λ xs. c ∷ xs) (meant cs p.1)
    ∙ sym (ap (λ xs. utf16_lossy_chars (xs ++ flat_map units (map piece_of cs))) (stands c p.0).character ∙ plain_units c (flat_map units (map piece_of cs)) p.0 (cases_lt c 65536))

pub spells_text : (text : List ℕ) → IsUtf8 text → SpellsCharacters (chars text) (escape text)
spells_text text u = let cs = chars text in
    (map piece_of cs, pieces cs (scalars-chars text u), sym (ap escape (encodes-chars text u)) ∙ written cs (scalars-chars text u), meant cs (scalars-chars text u))

pub quoted_text : (at : ℕ) (text : List ℕ) → IsUtf8 text → value (string (record { from = at; to = at + length (quoted text) }) (chars text)) at (quoted text)
quoted_text at text u = ((34 ∷ [], escape text ++ 34 ∷ [], refl, refl, (escape text, 34 ∷ [], refl, spells_text text u, refl)), refl)

-- what the kit writes for one string behind some bytes
pub printed_string : (written before items : List ℕ) (tokens : List Token) (text : List ℕ) → items ≡ before ++ print tokens → before ≡ written → tokens ≡ token.string text ∷ [] → items ≡ written ++ quoted text
unfolding print_from
printed_string written before items tokens text e b t =
    e ∙ ap₂ (λ (x : List ℕ) (ts : List Token). x ++ print ts) b t ∙ ap (λ (x : List ℕ). written ++ x) (append-nil (quoted text))

pub quoted_body : (body text : List ℕ) → body ≡ quoted text → IsUtf8 text → value (string (record { from = 0; to = length body }) (chars text)) 0 body
quoted_body body text e u =
    let P : List ℕ → ℕ → Type 0 = λ bs n. value (string (record { from = 0; to = n }) (chars text)) 0 bs in
    let whole : P (quoted text) (length (quoted text)) = subst (P (quoted text)) (zero-add (length (quoted text))) (quoted_text 0 text u) in
    subst (λ bs. P bs (length bs)) (sym e) whole
