-- Objects written with no whitespace: what they say, member by member.
use Rattle.std.proofs.Common.{◌≡◌, ℕ, ◌<◌, Bool, true, ◌&&◌, List, [], ◌∷◌, ◌++◌, map, flat_map, IsTrue, nat_lt, refl, sym, ◌∙◌, ap, ap₂, arith, append_assoc, append-nil, codes}
use Rattle.std.proofs.lemmas.Bool.{and_parts, lt-ltb, lt-leb, ltb-true}
use Rattle.std.proofs.lemmas.Str.{utf16_chars_lone, utf16_chars-nil}
use Rattle.std.specs.Option.{unwrap_or}
use Rattle.std.specs.Prelude.{Some}
use Rattle.std.specs.Char.Escape.{encode_utf16}
use Rattle.std.specs.Char.Utf16.{utf16_chars, utf16_lossy_chars, lone_unit_char}
use Rattle.std.specs.List.{AllByRecursion}
use lib.Utf8.{encode, low_scalar}
use Rattle.json_text.specs.declared.span.Span.{Span}
use Rattle.json_text.specs.declared.kind.Word.TheVariants.{Null}
use Rattle.json_text.specs.String.{plain, IsPiece, is_plain, spelled, units, SpellsCharacters}
use Rattle.json_text.specs.Json.{Json, word, string, object, Members, no_members, member}
use Rattle.json_text.proofs.Forms.{Form, ◌along◌, one, quotes, name_and, says, says_more_members, SaysText}

-- characters of ASCII that stand for themselves in a string
abbrev pub all_simple : List ℕ → Bool
all_simple [] = true
all_simple (c ∷ cs) = (is_plain c && nat_lt c 128) && all_simple cs

simple_cons : (c : ℕ) (cs : List ℕ) → IsTrue (all_simple (c ∷ cs)) → (is_plain c ≡ true) × (c < 128) × (all_simple cs ≡ true)
simple_cons c cs h =
    let a : ((is_plain c && nat_lt c 128) ≡ true) × (all_simple cs ≡ true) = and_parts (is_plain c && nat_lt c 128) (all_simple cs) h in
    let b : (is_plain c ≡ true) × (nat_lt c 128 ≡ true) = and_parts (is_plain c) (nat_lt c 128) a.0 in
    (b.0, ltb-true c 128 b.1, a.1)

simple_pieces : (cs : List ℕ) → IsTrue (all_simple cs) → AllByRecursion IsPiece (map plain cs)
simple_pieces [] h = tt
simple_pieces (c ∷ cs) h = let k : (is_plain c ≡ true) × (c < 128) × (all_simple cs ≡ true) = simple_cons c cs h in
    ((low_scalar c (omega (arith, k.1)), k.0), simple_pieces cs k.2)

one_byte : (c : ℕ) → c < 128 → encode c ≡ c ∷ []
unfolding encode
one_byte c h = rw (lt-ltb c 128 h) refl

one_unit : (c : ℕ) → c < 128 → encode_utf16 c ≡ c ∷ []
one_unit c h = rw (lt-ltb c 0x1_0000 (omega arith)) refl

simple_spelled : (cs : List ℕ) → IsTrue (all_simple cs) → cs ≡ flat_map spelled (map plain cs)
simple_spelled [] h = refl
simple_spelled (c ∷ cs) h = let k : (is_plain c ≡ true) × (c < 128) × (all_simple cs ≡ true) = simple_cons c cs h in
    ap₂ (λ a b. a ++ b) (sym (one_byte c k.1)) (simple_spelled cs k.2)

simple_units : (cs : List ℕ) → IsTrue (all_simple cs) → flat_map units (map plain cs) ≡ cs
simple_units [] h = refl
simple_units (c ∷ cs) h = let k : (is_plain c ≡ true) × (c < 128) × (all_simple cs ≡ true) = simple_cons c cs h in
    ap₂ (λ a b. a ++ b) (one_unit c k.1) (simple_units cs k.2)

no_surrogate : (c : ℕ) → c < 128 → lone_unit_char c ≡ Some c
no_surrogate c h = rw (lt-leb 0xD800 c (omega arith)) refl

simple_chars : (cs : List ℕ) → IsTrue (all_simple cs) → utf16_lossy_chars cs ≡ cs
simple_chars [] h = ap (λ l. map (λ o. unwrap_or o 0xFFFD) l) utf16_chars-nil
simple_chars (c ∷ cs) h = let k : (is_plain c ≡ true) × (c < 128) × (all_simple cs ≡ true) = simple_cons c cs h in
    ap (λ l. map (λ o. unwrap_or o 0xFFFD) l) (utf16_chars_lone c cs (λ p. omega (arith, p.0, k.1)) ∙ ap (λ o. o ∷ utf16_chars cs) (no_surrogate c k.1))
    ∙ ap (λ l. c ∷ l) (simple_chars cs k.2)

-- simple characters spell themselves
pub simple_spells : (cs : List ℕ) → IsTrue (all_simple cs) → SpellsCharacters cs cs
simple_spells cs h = (map plain cs, simple_pieces cs h, simple_spelled cs h, sym (ap utf16_lossy_chars (simple_units cs h) ∙ simple_chars cs h))

pub simple_quoted : (cs : List ℕ) → IsTrue (all_simple cs) → quotes cs (34 ∷ (cs ++ 34 ∷ []))
simple_quoted cs h = (34 ∷ [], cs ++ 34 ∷ [], refl, refl, (cs, 34 ∷ [], refl, simple_spells cs h, refl))

-- a string of simple characters
pub simple_string : (s : Span) (cs : List ℕ) → IsTrue (all_simple cs) → says (string s cs) (34 ∷ (cs ++ 34 ∷ []))
simple_string s cs h = simple_quoted cs h

-- a name, a colon, the value
compact_pair : (cs : List ℕ) (j : Json) (w : List ℕ) → IsTrue (all_simple cs) → says j w → name_and cs (says j) ((34 ∷ (cs ++ 34 ∷ [])) ++ (58 ∷ w))
compact_pair cs j w h v = (34 ∷ (cs ++ 34 ∷ []), 58 ∷ w, refl, simple_quoted cs h, ([], 58 ∷ w, refl, tt, (58 ∷ [], w, refl, refl, ([], w, refl, tt, v))))

-- members behind others, and the closing brace
abbrev pub Closing : Members → Form
Closing ms = says_more_members ms along one 125

pub closing_none : Closing no_members (125 ∷ [])
closing_none = ([], 125 ∷ [], refl, refl, refl)

regroup : (cs w m e : List ℕ) → 34 ∷ (cs ++ (34 ∷ 58 ∷ (w ++ (m ++ e)))) ≡ (((34 ∷ (cs ++ 34 ∷ [])) ++ (58 ∷ w)) ++ m) ++ e
regroup cs w m e = simp append_assoc

whole : (cs w m e rest : List ℕ) → rest ≡ m ++ e → 34 ∷ (cs ++ (34 ∷ 58 ∷ (w ++ rest))) ≡ (((34 ∷ (cs ++ 34 ∷ [])) ++ (58 ∷ w)) ++ m) ++ e
whole cs w m e rest h = ap (λ z. 34 ∷ (cs ++ (34 ∷ 58 ∷ (w ++ z)))) h ∙ regroup cs w m e

-- one more member, behind a comma
pub closing_member : (s : Span) (cs : List ℕ) (j : Json) (ms : Members) (w rest : List ℕ) → IsTrue (all_simple cs) → says j w → Closing ms rest
    → Closing (member s cs j ms) (44 ∷ 34 ∷ (cs ++ (34 ∷ 58 ∷ (w ++ rest))))
closing_member s cs j ms w rest h v c = (
  44 ∷ (((34 ∷ (cs ++ 34 ∷ [])) ++ (58 ∷ w)) ++ c.0),
  c.1,
  ap (λ z. 44 ∷ z) (whole cs w c.0 c.1 rest c.2),
  (
    44 ∷ [],
    ((34 ∷ (cs ++ 34 ∷ [])) ++ (58 ∷ w)) ++ c.0,
    refl,
    refl,
    (
      [],
      ((34 ∷ (cs ++ 34 ∷ [])) ++ (58 ∷ w)) ++ c.0,
      refl,
      tt,
      ((34 ∷ (cs ++ 34 ∷ [])) ++ (58 ∷ w), c.0, refl, compact_pair cs j w h v, ([], c.0, refl, tt, c.3)),
    ),
  ),
  c.4,
)

-- an object of a member and those behind it
pub compact_object : (o s : Span) (cs : List ℕ) (j : Json) (ms : Members) (w rest : List ℕ) → IsTrue (all_simple cs) → says j w → Closing ms rest
    → says (object o (member s cs j ms)) (123 ∷ 34 ∷ (cs ++ (34 ∷ 58 ∷ (w ++ rest))))
compact_object o s cs j ms w rest h v c = (
  123 ∷ [],
  34 ∷ (cs ++ (34 ∷ 58 ∷ (w ++ rest))),
  refl,
  refl,
  (
    ((34 ∷ (cs ++ 34 ∷ [])) ++ (58 ∷ w)) ++ c.0,
    c.1,
    whole cs w c.0 c.1 rest c.2,
    (
      [],
      ((34 ∷ (cs ++ 34 ∷ [])) ++ (58 ∷ w)) ++ c.0,
      refl,
      tt,
      ((34 ∷ (cs ++ 34 ∷ [])) ++ (58 ∷ w), c.0, refl, compact_pair cs j w h v, ([], c.0, refl, tt, c.3)),
    ),
    c.4,
  ),
)

pub empty_object : (o : Span) → says (object o no_members) (123 ∷ 125 ∷ [])
empty_object o = (123 ∷ [], 125 ∷ [], refl, refl, ([], 125 ∷ [], refl, tt, refl))

pub null_word : (s : Span) → says (word s Null) (codes "null")
null_word s = refl

-- a value alone is a text
pub bare_text : (j : Json) (w : List ℕ) → says j w → SaysText j w
bare_text j w h = ([], w, refl, tt, (w, [], sym (append-nil w), h, tt))
