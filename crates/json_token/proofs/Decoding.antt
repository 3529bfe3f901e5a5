-- The characters that are read one after the other are those of the string (RFC 8259, section 7).
use Rattle.std.proofs.Common.{◌≡◌, refl, ap, subst, ◌∙◌, sym, ℕ, ◌+◌, ◌-◌, ◌*◌, ◌/◌, ◌%◌, ◌<◌, ◌≤◌, Bool, true, false, ◌&&◌, List, [], ◌∷◌, ◌++◌, get_or, map, ◌⊎◌, inl, inr, arith}
use Rattle.std.specs.Prelude.{IsTrue, ◌==◌, nat_lt, Some, None, flat_map, if◌then◌else◌}
use Rattle.std.specs.List.{AllByRecursion}
use Rattle.std.specs.Option.{unwrap_or}
use Rattle.std.specs.Char.{IsScalar, digit_value}
use Rattle.std.specs.Char.Escape.{encode_utf16}
use Rattle.std.specs.Char.Utf16.{is_high_surrogate, is_low_surrogate, surrogate_pair_char, lone_unit_char, utf16_lossy_chars}
use Rattle.std.proofs.str.Utf16.{IsPair, one_unit, two_units}
use Rattle.std.proofs.lemmas.Str.{utf16_chars_lone, utf16_chars_pair, utf16_chars-nil}
use lib.Utf8.{encode}
use Rattle.std.proofs.lemmas.Bool.Decides.{nat_tests}
use Rattle.std.proofs.lemmas.Bool.{cases_lt}
use Rattle.json_text.specs.String.{Piece, plain, short, unit, is_plain, is_hex, is_short, short_character, IsPiece, spelled, units, characters, SpellsCharacters}
use Rattle.json_token.specs.Characters.{Front, replaced, two_code, three_code, four_code, unit_value, unit_front, escaped_unit, after_second, unit_character, next_character}
use Rattle.json_token.proofs.Encoded.{one, two, three, four, scalar_low, scalar_high, scalar_sides}

-- one character from its bytes

pub replaced_scalar : (c : ℕ) → IsScalar c → replaced c ≡ c
replaced_scalar c h = ap (λ t. if t then c else 0xFFFD) h

one_decodes : (c : ℕ) (rest : List ℕ) → c < 128 → IsTrue (is_plain c) → next_character (c ∷ rest) ≡ Some (c, rest)
one_decodes c rest h k = grind (arith, nat_tests)

two_decodes : (a b c : ℕ) (rest : List ℕ) → 128 ≤ a → a < 224 → two_code a b ≡ c → IsScalar c → next_character (a ∷ b ∷ rest) ≡ Some (c, rest)
two_decodes a b c rest from to is s = go (ap replaced is ∙ replaced_scalar c s)
  where
    go : replaced (two_code a b) ≡ c → next_character (a ∷ b ∷ rest) ≡ Some (c, rest)
    go e = grind (arith, nat_tests)

three_decodes : (a b c n : ℕ) (rest : List ℕ) → 224 ≤ a → a < 240 → three_code a b c ≡ n → IsScalar n → next_character (a ∷ b ∷ c ∷ rest) ≡ Some (n, rest)
three_decodes a b c n rest from to is s = go (ap replaced is ∙ replaced_scalar n s)
  where
    go : replaced (three_code a b c) ≡ n → next_character (a ∷ b ∷ c ∷ rest) ≡ Some (n, rest)
    go e = grind (arith, nat_tests)

four_decodes : (a b c d n : ℕ) (rest : List ℕ) → 240 ≤ a → four_code a b c d ≡ n → IsScalar n → next_character (a ∷ b ∷ c ∷ d ∷ rest) ≡ Some (n, rest)
four_decodes a b c d n rest from is s = go (ap replaced is ∙ replaced_scalar n s)
  where
    go : replaced (four_code a b c d) ≡ n → next_character (a ∷ b ∷ c ∷ d ∷ rest) ≡ Some (n, rest)
    go e = grind (arith, nat_tests)

pub scalar_below : (c : ℕ) → IsScalar c → c < 1114112
scalar_below c s = go (scalar_sides c s)
  where
    go : (c < 55296) ⊎ ((57344 ≤ c) × (c < 1114112)) → c < 1114112
    go (inl h) = omega arith
    go (inr h) = h.1

plain_sides : (c : ℕ) (rest : List ℕ) → IsScalar c → IsTrue (is_plain c) → (c < 128) ⊎ (128 ≤ c) → (c < 2048) ⊎ (2048 ≤ c) → (c < 65536) ⊎ (65536 ≤ c) → next_character (encode c ++ rest) ≡ Some (c, rest)
plain_sides c rest s k (inl a) b d = ap (λ x. next_character (x ++ rest)) (one c a) ∙ one_decodes c rest a k
plain_sides c rest s k (inr a) (inl b) d = ap (λ x. next_character (x ++ rest)) (two c a b) ∙ two_decodes (192 + c / 64) (128 + c % 64) c rest (omega arith) (omega arith) (omega arith) s
plain_sides c rest s k (inr a) (inr b) (inl d) = ap (λ x. next_character (x ++ rest)) (three c b d) ∙ three_decodes (224 + c / 4096) (128 + c / 64 % 64) (128 + c % 64) c rest (omega arith) (omega arith) (omega arith) s
plain_sides c rest s k (inr a) (inr b) (inr d) = ap (λ x. next_character (x ++ rest)) (four c d) ∙ four_decodes (240 + c / 262144) (128 + c / 4096 % 64) (128 + c / 64 % 64) (128 + c % 64) c rest (omega arith) (omega arith) s

plain_decodes : (c : ℕ) (rest : List ℕ) → IsScalar c → IsTrue (is_plain c) → next_character (encode c ++ rest) ≡ Some (c, rest)
plain_decodes c rest s k = plain_sides c rest s k (cases_lt c 128) (cases_lt c 2048) (cases_lt c 65536)

short_is : (b : ℕ) → IsTrue (is_short b) → (b == 117) ≡ false
short_is b h = grind (arith, nat_tests)

pub short_below : (b : ℕ) → short_character b < 128
short_below b = grind (arith, nat_tests)

short_decodes : (b : ℕ) (rest : List ℕ) → IsTrue (is_short b) → next_character (92 ∷ b ∷ rest) ≡ Some (short_character b, rest)
short_decodes b rest h = ap (λ t. if t then unit_character (unit_front rest) else Some (short_character b, rest)) (short_is b h)

-- the unit behind a unit

escaped_of : List Piece → Front
escaped_of [] = None
escaped_of (plain c ∷ ps) = None
escaped_of (short b ∷ ps) = None
escaped_of (unit a b c d ∷ ps) = Some (unit_value a b c d, flat_map spelled ps)

no_escape : (x : ℕ) (xs : List ℕ) → (x == 92) ≡ false → escaped_unit (x ∷ xs) ≡ None
no_escape x [] h = refl
no_escape x (u ∷ xs) h = ap (λ t. if t && (u == 117) then unit_front xs else None) h

plain_first : (c : ℕ) → IsTrue (is_plain c) → (c == 92) ≡ false
plain_first c h = grind (arith, nat_tests)

past_ascii : (a : ℕ) → 128 ≤ a → (a == 92) ≡ false
past_ascii a h = grind (arith, nat_tests)

plain_no_escape : (c : ℕ) (rest : List ℕ) → IsTrue (is_plain c) → (c < 128) ⊎ (128 ≤ c) → (c < 2048) ⊎ (2048 ≤ c) → (c < 65536) ⊎ (65536 ≤ c) → escaped_unit (encode c ++ rest) ≡ None
plain_no_escape c rest k (inl a) b d = ap (λ x. escaped_unit (x ++ rest)) (one c a) ∙ no_escape c rest (plain_first c k)
plain_no_escape c rest k (inr a) (inl b) d = ap (λ x. escaped_unit (x ++ rest)) (two c a b) ∙ no_escape (192 + c / 64) ((128 + c % 64) ∷ rest) (past_ascii (192 + c / 64) (omega arith))
plain_no_escape c rest k (inr a) (inr b) (inl d) = ap (λ x. escaped_unit (x ++ rest)) (three c b d) ∙ no_escape (224 + c / 4096) ((128 + c / 64 % 64) ∷ (128 + c % 64) ∷ rest) (past_ascii (224 + c / 4096) (omega arith))
plain_no_escape c rest k (inr a) (inr b) (inr d) = ap (λ x. escaped_unit (x ++ rest)) (four c d) ∙ no_escape (240 + c / 262144) ((128 + c / 4096 % 64) ∷ (128 + c / 64 % 64) ∷ (128 + c % 64) ∷ rest) (past_ascii (240 + c / 262144) (omega arith))

escaped_is : (ps : List Piece) → AllByRecursion IsPiece ps → escaped_unit (flat_map spelled ps) ≡ escaped_of ps
unfolding escaped_of
escaped_is [] h = refl
escaped_is (plain c ∷ ps) h = plain_no_escape c (flat_map spelled ps) h.0.1 (cases_lt c 128) (cases_lt c 2048) (cases_lt c 65536)
escaped_is (short b ∷ ps) h = ap (λ t. if t then unit_front (flat_map spelled ps) else None) (short_is b h.0)
escaped_is (unit a b c d ∷ ps) h = refl

-- units of UTF-16 and their characters

pub unit_below : (a b c d : ℕ) → IsTrue (is_hex a) → IsTrue (is_hex b) → IsTrue (is_hex c) → IsTrue (is_hex d) → unit_value a b c d < 65536
unit_below a b c d ha hb hc hd =
    let la : digit_value a < 16 = hex_below a ha in
    let lb : digit_value b < 16 = hex_below b hb in
    let lc : digit_value c < 16 = hex_below c hc in
    let ld : digit_value d < 16 = hex_below d hd in
    bounded (digit_value a) (digit_value b) (digit_value c) (digit_value d) la lb lc ld
  where
    below : (v : ℕ) → nat_lt v 16 ≡ true → v < 16
    below v h = grind (arith, nat_tests)

    hex_below : (a : ℕ) → IsTrue (is_hex a) → digit_value a < 16
    hex_below a h = below (digit_value a) h

    bounded : (a b c d : ℕ) → a < 16 → b < 16 → c < 16 → d < 16 → a * 4096 + b * 256 + c * 16 + d < 65536
    bounded a b c d la lb lc ld = omega arith

-- a unit with no partner stands for itself or for U+FFFD
lone_character : (u : ℕ) → u < 65536 → unwrap_or (lone_unit_char u) 0xFFFD ≡ replaced u
lone_character u h = grind (arith, nat_tests)

lone_first : (u : ℕ) (us : List ℕ) → u < 65536 → ¬ (IsPair u (get_or us 0 0)) → utf16_lossy_chars (u ∷ us) ≡ replaced u ∷ utf16_lossy_chars us
lone_first u us h apart = ap (λ xs. map (λ o. unwrap_or o 0xFFFD) xs) (utf16_chars_lone u us apart) ∙ ap (λ c. c ∷ utf16_lossy_chars us) (lone_character u h)

pair_first : (u v : ℕ) (us : List ℕ) → IsPair u v → utf16_lossy_chars (u ∷ v ∷ us) ≡ surrogate_pair_char u v ∷ utf16_lossy_chars us
pair_first u v us pair = ap (λ xs. map (λ o. unwrap_or o 0xFFFD) xs) (utf16_chars_pair u v us pair)

pair_scalar : (u v : ℕ) → IsPair u v → IsScalar (surrogate_pair_char u v)
pair_scalar u v pair = scalar_high (surrogate_pair_char u v) (omega arith) (omega arith)

pair_is : (u v : ℕ) → (is_high_surrogate u && is_low_surrogate v) ≡ true → IsPair u v
pair_is u v h = (grind (arith, nat_tests), grind (arith, nat_tests), grind (arith, nat_tests), grind (arith, nat_tests))

pair_not : (u v : ℕ) → (is_high_surrogate u && is_low_surrogate v) ≡ false → ¬ (IsPair u v)
pair_not u v h pair = apart u v h pair.0 pair.1 pair.2 pair.3
  where
    apart : (u v : ℕ) → (is_high_surrogate u && is_low_surrogate v) ≡ false → 0xD800 ≤ u → u < 0xDC00 → 0xDC00 ≤ v → v < 0xE000 → ⊥
    apart u v h a b c d = grind (arith, nat_tests)

no_first : (u v : ℕ) → (u < 0xD800) ⊎ (0xE000 ≤ u) → ¬ (IsPair u v)
no_first u v (inl h) pair = omega (arith, pair.0)
no_first u v (inr h) pair = omega (arith, pair.1)

no_second : (u v : ℕ) → (v < 0xDC00) ⊎ (0xE000 ≤ v) → ¬ (IsPair u v)
no_second u v (inl h) pair = omega (arith, pair.2)
no_second u v (inr h) pair = omega (arith, pair.3)

scalar_apart : (c : ℕ) → (c < 55296) ⊎ ((57344 ≤ c) × (c < 1114112)) → (c < 0xD800) ⊎ (0xE000 ≤ c)
scalar_apart c (inl h) = inl h
scalar_apart c (inr h) = inr h.0

scalar_second : (c : ℕ) → (c < 55296) ⊎ ((57344 ≤ c) × (c < 1114112)) → (c < 0xDC00) ⊎ (0xE000 ≤ c)
scalar_second c (inl h) = inl (omega arith)
scalar_second c (inr h) = inr h.0

two_pair : (c : ℕ) → 65536 ≤ c → c < 1114112 → IsPair (0xD800 + (c - 0x1_0000) / 0x400) (0xDC00 + (c - 0x1_0000) % 0x400)
two_pair c from below = (omega arith, omega arith, omega arith, omega arith)

pair_back : (c : ℕ) → 65536 ≤ c → c < 1114112 → surrogate_pair_char (0xD800 + (c - 0x1_0000) / 0x400) (0xDC00 + (c - 0x1_0000) % 0x400) ≡ c
pair_back c from below = omega arith

-- a character that stands for itself comes first
pub plain_units : (c : ℕ) (us : List ℕ) → IsScalar c → (c < 65536) ⊎ (65536 ≤ c) → utf16_lossy_chars (encode_utf16 c ++ us) ≡ c ∷ utf16_lossy_chars us
plain_units c us s (inl h) = ap (λ x. utf16_lossy_chars (x ++ us)) (one_unit c h)
    ∙ (lone_first c us h (no_first c (get_or us 0 0) (scalar_apart c (scalar_sides c s))) ∙ ap (λ x. x ∷ utf16_lossy_chars us) (replaced_scalar c s))
plain_units c us s (inr h) = ap (λ x. utf16_lossy_chars (x ++ us)) (two_units c h)
    ∙ (pair_first (0xD800 + (c - 0x1_0000) / 0x400) (0xDC00 + (c - 0x1_0000) % 0x400) us (two_pair c h (scalar_below c s)) ∙ ap (λ x. x ∷ utf16_lossy_chars us) (pair_back c h (scalar_below c s)))

short_units : (b : ℕ) (us : List ℕ) → utf16_lossy_chars (short_character b ∷ us) ≡ short_character b ∷ utf16_lossy_chars us
short_units b us =
    let l : short_character b < 128 = short_below b in
    first (short_character b) us l
  where
    first : (c : ℕ) (us : List ℕ) → c < 128 → utf16_lossy_chars (c ∷ us) ≡ c ∷ utf16_lossy_chars us
    first c us l = lone_first c us (omega arith) (no_first c (get_or us 0 0) (inl (omega arith))) ∙ ap (λ x. x ∷ utf16_lossy_chars us) (replaced_scalar c (scalar_low c (omega arith)))

-- what is no escaped unit begins with no second surrogate
plain_apart : (u c : ℕ) (us : List ℕ) → IsScalar c → (c < 65536) ⊎ (65536 ≤ c) → ¬ (IsPair u (get_or (encode_utf16 c ++ us) 0 0))
plain_apart u c us s (inl h) = subst (λ x. ¬ (IsPair u (get_or (x ++ us) 0 0))) (sym (one_unit c h)) (no_second u c (scalar_second c (scalar_sides c s)))
plain_apart u c us s (inr h) = subst (λ x. ¬ (IsPair u (get_or (x ++ us) 0 0))) (sym (two_units c h)) (no_second u (0xD800 + (c - 0x1_0000) / 0x400) (inl (omega (arith, scalar_below c s))))

short_apart : (u b : ℕ) → ¬ (IsPair u (short_character b))
short_apart u b = no_second u (short_character b) (inl (omega (arith, short_below b)))

-- the first character of a string

pub data Next (raw cs : List ℕ) : Type 0 where
  none : next_character raw ≡ None → cs ≡ [] → Next raw cs
  some : (c : ℕ) (ps : List Piece) → AllByRecursion IsPiece ps → next_character raw ≡ Some (c, flat_map spelled ps) → cs ≡ c ∷ characters ps → Next raw cs

lone_next : (a b c d : ℕ) (ps : List Piece) → AllByRecursion IsPiece ps → unit_value a b c d < 65536 → after_second (unit_value a b c d) (flat_map spelled ps) (escaped_of ps) ≡ (replaced (unit_value a b c d), flat_map spelled ps)
    → ¬ (IsPair (unit_value a b c d) (get_or (flat_map units ps) 0 0)) → Next (spelled (unit a b c d) ++ flat_map spelled ps) (characters (unit a b c d ∷ ps))
lone_next a b c d ps h l e apart = some (replaced (unit_value a b c d)) ps h (ap Some (ap (after_second (unit_value a b c d) (flat_map spelled ps)) (escaped_is ps h) ∙ e)) (lone_first (unit_value a b c d) (flat_map units ps) l apart)

two_next : (a b c d e f g h : ℕ) (ps : List Piece) → IsPiece (unit e f g h) → AllByRecursion IsPiece ps → unit_value a b c d < 65536 → (t : Bool) → (is_high_surrogate (unit_value a b c d) && is_low_surrogate (unit_value e f g h)) ≡ t
    → Next (spelled (unit a b c d) ++ flat_map spelled (unit e f g h ∷ ps)) (characters (unit a b c d ∷ unit e f g h ∷ ps))
unfolding escaped_of
two_next a b c d e f g h ps is are l true k =
    some (replaced (surrogate_pair_char (unit_value a b c d) (unit_value e f g h))) ps are
    (ap Some (ap (λ t. if t then (replaced (surrogate_pair_char (unit_value a b c d) (unit_value e f g h)), flat_map spelled ps) else (replaced (unit_value a b c d), flat_map spelled (unit e f g h ∷ ps))) k))
    (pair_first (unit_value a b c d) (unit_value e f g h) (flat_map units ps) (pair_is (unit_value a b c d) (unit_value e f g h) k)
    ∙ ap (λ x. x ∷ characters ps) (sym (replaced_scalar (surrogate_pair_char (unit_value a b c d) (unit_value e f g h)) (pair_scalar (unit_value a b c d) (unit_value e f g h) (pair_is (unit_value a b c d) (unit_value e f g h) k)))))
two_next a b c d e f g h ps is are l false k =
    lone_next a b c d (unit e f g h ∷ ps) (is, are) l
    (ap (λ t. if t then (replaced (surrogate_pair_char (unit_value a b c d) (unit_value e f g h)), flat_map spelled ps) else (replaced (unit_value a b c d), flat_map spelled (unit e f g h ∷ ps))) k)
    (pair_not (unit_value a b c d) (unit_value e f g h) k)

unit_next : (a b c d : ℕ) (ps : List Piece) → AllByRecursion IsPiece ps → unit_value a b c d < 65536 → Next (spelled (unit a b c d) ++ flat_map spelled ps) (characters (unit a b c d ∷ ps))
unfolding escaped_of
unit_next a b c d [] h l = lone_next a b c d [] h l refl (no_second (unit_value a b c d) 0 (inl (omega arith)))
unit_next a b c d (plain e ∷ ps) h l = lone_next a b c d (plain e ∷ ps) h l refl (plain_apart (unit_value a b c d) e (flat_map units ps) h.0.0 (cases_lt e 65536))
unit_next a b c d (short e ∷ ps) h l = lone_next a b c d (short e ∷ ps) h l refl (short_apart (unit_value a b c d) e)
unit_next a b c d (unit e f g i ∷ ps) h l = two_next a b c d e f g i ps h.0 h.1 l (is_high_surrogate (unit_value a b c d) && is_low_surrogate (unit_value e f g i)) refl

next_piece : (ps : List Piece) → AllByRecursion IsPiece ps → Next (flat_map spelled ps) (characters ps)
next_piece [] h = none refl (ap (λ xs. map (λ o. unwrap_or o 0xFFFD) xs) utf16_chars-nil)
next_piece (plain c ∷ ps) h = some c ps h.1 (plain_decodes c (flat_map spelled ps) h.0.0 h.0.1) (plain_units c (flat_map units ps) h.0.0 (cases_lt c 65536))
next_piece (short b ∷ ps) h = some (short_character b) ps h.1 (short_decodes b (flat_map spelled ps) h.0) (short_units b (flat_map units ps))
next_piece (unit a b c d ∷ ps) h = unit_next a b c d ps h.1 (unit_below a b c d h.0.0 h.0.1 h.0.2 h.0.3)

-- bytes with no first character spell no characters
pub next_none : (cs raw : List ℕ) → SpellsCharacters cs raw → next_character raw ≡ None → cs ≡ []
next_none cs raw s h = go (subst (λ r. Next r (characters s.0)) (sym s.2) (next_piece s.0 s.1))
  where
    go : Next raw (characters s.0) → cs ≡ []
    go (none e is) = s.3 ∙ is
    go (some c ps are e is) = absurd cc

abbrev code_or_none : Front → ℕ
code_or_none (Some p) = p.0
code_or_none None = 0

abbrev rest_or_none : Front → List ℕ
rest_or_none (Some p) = p.1
rest_or_none None = []

-- the first character that is read is the first of the string, and the bytes behind it spell the others
pub next_some : (cs raw more : List ℕ) (c : ℕ) → SpellsCharacters cs raw → next_character raw ≡ Some (c, more) → (ds : List ℕ) × (cs ≡ c ∷ ds) × SpellsCharacters ds more
next_some cs raw more c s h = go (subst (λ r. Next r (characters s.0)) (sym s.2) (next_piece s.0 s.1))
  where
    first : (r : Front) (c d : ℕ) (xs ys : List ℕ) → r ≡ Some (c, xs) → r ≡ Some (d, ys) → c ≡ d
    first r c d xs ys e f = ap code_or_none (sym e ∙ f)

    behind : (r : Front) (c d : ℕ) (xs ys : List ℕ) → r ≡ Some (c, xs) → r ≡ Some (d, ys) → xs ≡ ys
    behind r c d xs ys e f = ap rest_or_none (sym e ∙ f)

    clash : (r : Front) (c : ℕ) (xs : List ℕ) → r ≡ Some (c, xs) → r ≡ None → ⊥
    clash r c xs e f = absurd cc

    go : Next raw (characters s.0) → (ds : List ℕ) × (cs ≡ c ∷ ds) × SpellsCharacters ds more
    go (none e is) = absurd (clash (next_character raw) c more h e)
    go (some d ps are e is) =
        (characters ps, s.3 ∙ (is ∙ ap (λ x. x ∷ characters ps) (sym (first (next_character raw) c d more (flat_map spelled ps) h e))), (ps, are, behind (next_character raw) c d more (flat_map spelled ps) h e, refl))
