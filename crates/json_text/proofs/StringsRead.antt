-- A string of RFC 8259, section 7, is read.
use Rattle.std.proofs.Common.{◌≡◌, ℕ, zero, suc, ◌+◌, ◌-◌, ◌*◌, ◌/◌, ◌%◌, ◌<◌, ◌≤◌, true, false, ◌&&◌, not, List, [], ◌∷◌, ◌++◌, length, flat_map, inl, inr, nat_le, ◌==◌, refl, sym, ap, ◌∙◌, arith, append_assoc, length-append}
use Rattle.std.proofs.lemmas.Bool.{and_parts, lt-ltb, le-ltb, eq-eqb, ne_eqb, cases_lt, not-true}
use Rattle.std.specs.List.{AllByRecursion}
use lib.Utf8.{encode, scalar}
use Rattle.json_text.specs.Json.{quoted}
use Rattle.json_text.specs.String.{Piece, plain, short, unit, is_plain, is_short, is_hex, IsPiece, spelled, characters}
use Rattle.json_text.specs.Read.{reads, expect_all, code_in_front, read_plain, read_piece, read_pieces, read_string}

pub expect_all_read : (at n : ℕ) (cs rest : List ℕ) → n ≡ at + length cs → expect_all cs at (cs ++ rest) ≡ reads tt n rest
unfolding expect_all
expect_all_read at n [] rest e = let i : at ≡ n = omega arith in ap (λ i. reads tt i rest) i
expect_all_read at n (c ∷ cs) rest e = rw (eq-eqb c c refl) (expect_all_read (at + 1) n cs rest (omega arith))

two : (c : ℕ) → 128 ≤ c → c < 2048 → encode c ≡ (192 + c / 64) ∷ (128 + c % 64) ∷ []
unfolding encode
two c h k = rw (le-ltb c 128 h, lt-ltb c 2048 k) refl

three : (c : ℕ) → 2048 ≤ c → c < 65536 → encode c ≡ (224 + c / 4096) ∷ (128 + c / 64 % 64) ∷ (128 + c % 64) ∷ []
unfolding encode
three c h k = rw (le-ltb c 128 (omega arith), le-ltb c 2048 h, lt-ltb c 65536 k) refl

four : (c : ℕ) → 65536 ≤ c → encode c ≡ (240 + c / 262144) ∷ (128 + c / 4096 % 64) ∷ (128 + c / 64 % 64) ∷ (128 + c % 64) ∷ []
unfolding encode
four c h = rw (le-ltb c 128 (omega arith), le-ltb c 2048 (omega arith), le-ltb c 65536 h) refl

one : (c : ℕ) → c < 128 → encode c ≡ c ∷ []
unfolding encode
one c h = rw (lt-ltb c 128 h) refl

two_back : (c : ℕ) → 128 ≤ c → c < 2048 → (rest : List ℕ) → code_in_front (192 + c / 64) ((128 + c % 64) ∷ rest) ≡ c
two_back c h k rest = rw (le-ltb (192 + c / 64) 128 (omega arith), lt-ltb (192 + c / 64) 224 (omega arith)) (omega arith)

three_sum : (c : ℕ) → (((224 + c / 4096) - 224) * 64 + ((128 + c / 64 % 64) - 128)) * 64 + ((128 + c % 64) - 128) ≡ c
three_sum c = omega arith

three_back : (c : ℕ) → 2048 ≤ c → c < 65536 → (rest : List ℕ) → code_in_front (224 + c / 4096) ((128 + c / 64 % 64) ∷ (128 + c % 64) ∷ rest) ≡ c
three_back c h k rest = rw (le-ltb (224 + c / 4096) 128 (omega arith), le-ltb (224 + c / 4096) 224 (omega arith), lt-ltb (224 + c / 4096) 240 (omega arith)) (three_sum c)

four_sum : (c : ℕ) → ((((240 + c / 262144) - 240) * 64 + ((128 + c / 4096 % 64) - 128)) * 64 + ((128 + c / 64 % 64) - 128)) * 64 + ((128 + c % 64) - 128) ≡ c
four_sum c = omega arith

four_back : (c : ℕ) → 65536 ≤ c → (rest : List ℕ) → code_in_front (240 + c / 262144) ((128 + c / 4096 % 64) ∷ (128 + c / 64 % 64) ∷ (128 + c % 64) ∷ rest) ≡ c
four_back c h rest = rw (le-ltb (240 + c / 262144) 128 (omega arith), le-ltb (240 + c / 262144) 224 (omega arith), le-ltb (240 + c / 262144) 240 (omega arith)) (four_sum c)

-- the first byte of a piece is no quotation mark, and the piece is read
record Begun (p : Piece) : Type 0 where
  first : ℕ
  after : List ℕ
  is : spelled p ≡ first ∷ after
  no_quote : (first == 34) ≡ false
  is_read : (at : ℕ) (rest : List ℕ) → read_piece at (first ∷ (after ++ rest)) ≡ reads p (at + length (spelled p)) rest

character_read : (c at : ℕ) (rest : List ℕ) → scalar c ≡ true → is_plain c ≡ true → read_plain c at (encode c ++ rest) ≡ reads (plain c) (at + length (encode c)) rest
character_read c at rest s p = rw (s, p, expect_all_read at (at + length (encode c)) (encode c) rest refl) refl

plain_read : (c b : ℕ) (bs rest : List ℕ) (at : ℕ) → encode c ≡ b ∷ bs → (b == 92) ≡ false → code_in_front b (bs ++ rest) ≡ c → scalar c ≡ true → is_plain c ≡ true → read_piece at (b ∷ (bs ++ rest)) ≡ reads (plain c) (at + length (encode c)) rest
plain_read c b bs rest at e n k s p =
    let whole : encode c ++ rest ≡ b ∷ (bs ++ rest) = ap (λ l. l ++ rest) e in
    rw n (ap (λ i. read_plain i at (b ∷ (bs ++ rest))) k ∙ ap (λ l. read_plain c at l) (sym whole) ∙ character_read c at rest s p)

plain_begun : (c b : ℕ) (bs : List ℕ) → scalar c ≡ true → is_plain c ≡ true → encode c ≡ b ∷ bs → (b == 92) ≡ false → (b == 34) ≡ false → ((rest : List ℕ) → code_in_front b (bs ++ rest) ≡ c) → Begun (plain c)
plain_begun c b bs s p e n q k = record { first = b; after = bs; is = e; no_quote = q; is_read = λ at rest. plain_read c b bs rest at e n (k rest) s p }

ascii_begun : (c : ℕ) → scalar c ≡ true → is_plain c ≡ true → c < 128 → Begun (plain c)
ascii_begun c s p h =
    let k = and_parts (nat_le 32 c) (not (c == 34) && not (c == 92)) p in
    let l = and_parts (not (c == 34)) (not (c == 92)) k.1 in
    plain_begun c c [] s p (one c h) (not-true (c == 92) l.1) (not-true (c == 34) l.0) (λ rest. rw (lt-ltb c 128 h) refl)

high : (b k : ℕ) → k < 128 → 128 ≤ b → (b == k) ≡ false
high b k h l = ne_eqb b k (λ e. omega arith)

character_begun : (c : ℕ) → scalar c ≡ true → is_plain c ≡ true → Begun (plain c)
character_begun c s p = elim (cases_lt c 128) [
  | inl h ↦ ascii_begun c s p h
  | inr h ↦ elim (cases_lt c 2048) [
    | inl k ↦ plain_begun c (192 + c / 64) ((128 + c % 64) ∷ []) s p (two c h k) (high _ 92 (omega arith) (omega arith)) (high _ 34 (omega arith) (omega arith)) (two_back c h k)
    | inr k ↦ elim (cases_lt c 65536) [
      | inl m ↦ plain_begun c (224 + c / 4096) ((128 + c / 64 % 64) ∷ (128 + c % 64) ∷ []) s p (three c k m) (high _ 92 (omega arith) (omega arith)) (high _ 34 (omega arith) (omega arith)) (three_back c k m)
      | inr m ↦ plain_begun c (240 + c / 262144) ((128 + c / 4096 % 64) ∷ (128 + c / 64 % 64) ∷ (128 + c % 64) ∷ []) s p (four c m) (high _ 92 (omega arith) (omega arith)) (high _ 34 (omega arith) (omega arith)) (four_back c m)
    ]
  ]
]

short_is_no_u : (b : ℕ) → is_short b ≡ true → (b == 117) ≡ false
short_is_no_u b h = ne_eqb b 117 (λ e. let i : is_short 117 ≡ true = rw e at h in cc)

short_begun : (b : ℕ) → is_short b ≡ true → Begun (short b)
short_begun b h = record {
  first = 92;
  after = b ∷ [];
  is = refl;
  no_quote = refl;
  is_read = λ at rest.
      let e : at + 1 + 1 ≡ at + 2 = omega arith in
      rw (short_is_no_u b h, h) (ap (λ i. reads (short b) i rest) e);
}

unit_begun : (a b c d : ℕ) → is_hex a ≡ true → is_hex b ≡ true → is_hex c ≡ true → is_hex d ≡ true → Begun (unit a b c d)
unit_begun a b c d h k l m = record {
  first = 92;
  after = 117 ∷ a ∷ b ∷ c ∷ d ∷ [];
  is = refl;
  no_quote = refl;
  is_read = λ at rest.
      let e : at + 1 + 1 + 4 ≡ at + 6 = omega arith in
      rw (h, k, l, m) (ap (λ i. reads (unit a b c d) i rest) e);
}

begun : (p : Piece) → IsPiece p → Begun p
begun (plain c) h = character_begun c h.0 h.1
begun (short b) h = short_begun b h
begun (unit a b c d) h = unit_begun a b c d h.0 h.1 h.2 h.3

piece_goes : (p : Piece) (ps : List Piece) (m at n : ℕ) (more rest : List ℕ) → Begun p → read_pieces m (at + length (spelled p)) more ≡ reads ps n rest → read_pieces (suc m) at (spelled p ++ more) ≡ reads (p ∷ ps) n rest
unfolding read_pieces
piece_goes p ps m at n more rest b h = rw (b.is) (rw (b.no_quote, b.is_read at more, h) refl)

pieces_read : (ps : List Piece) (m at n : ℕ) (rest : List ℕ) → AllByRecursion IsPiece ps → length (flat_map spelled ps) < m → n ≡ at + length (flat_map spelled ps) + 1 → read_pieces m at (flat_map spelled ps ++ 34 ∷ rest) ≡ reads ps n rest
unfolding read_pieces
pieces_read [] zero at n rest h l e = absurd (omega arith)
pieces_read [] (suc m) at n rest h l e = let i : at + 1 ≡ n = omega arith in ap (λ i. reads [] i rest) i
pieces_read (p ∷ ps) zero at n rest h l e = absurd (omega arith)
pieces_read (p ∷ ps) (suc m) at n rest h l e =
    let b = begun p h.0 in
    let some : length (spelled p) ≡ suc (length b.after) = ap length b.is in
    let both : length (flat_map spelled (p ∷ ps)) ≡ length (spelled p) + length (flat_map spelled ps) = length-append (spelled p) (flat_map spelled ps) in
    let fits : length (flat_map spelled ps) < m = omega (arith, some, both, l) in
    let place : n ≡ at + length (spelled p) + length (flat_map spelled ps) + 1 = omega (arith, both, e) in
    ap (read_pieces (suc m) at) (append_assoc (spelled p) (flat_map spelled ps) (34 ∷ rest))
    ∙ piece_goes p ps m at n (flat_map spelled ps ++ 34 ∷ rest) rest b (pieces_read ps m (at + length (spelled p)) n rest h.1 fits place)

-- between two quotation marks
between : (ps : List Piece) (at n : ℕ) (bs rest : List ℕ) → AllByRecursion IsPiece ps → bs ≡ flat_map spelled ps → n ≡ at + length bs + 2 → read_string at (34 ∷ (bs ++ 34 ∷ rest)) ≡ reads (characters ps) n rest
unfolding read_string
between ps at n bs rest h e k =
    let size : length (flat_map spelled ps ++ 34 ∷ rest) ≡ length (flat_map spelled ps) + suc (length rest) = length-append (flat_map spelled ps) (34 ∷ rest) in
    rw e (rw (pieces_read ps (length (flat_map spelled ps ++ 34 ∷ rest)) (at + 1) n rest h (omega (arith, size)) (omega (arith, ap length e))) refl)

-- what stands between two bytes
pub enclosed : (x y : ℕ) (bs a b c d rest : List ℕ) → bs ≡ a ++ b → a ≡ x ∷ [] → b ≡ c ++ d → d ≡ y ∷ [] → bs ++ rest ≡ x ∷ (c ++ y ∷ rest)
enclosed x y bs a b c d rest p q r s = rw (p, q, r, s) (ap (λ l. x ∷ l) (append_assoc c (y ∷ []) rest))

pub length-enclosed : (x y : ℕ) (bs a b c d : List ℕ) → bs ≡ a ++ b → a ≡ x ∷ [] → b ≡ c ++ d → d ≡ y ∷ [] → length bs ≡ length c + 2
length-enclosed x y bs a b c d p q r s = rw (p, q, r, s) (omega (arith, length-append c (y ∷ [])))

pub string_read : (at n : ℕ) (cs bs rest : List ℕ) → quoted cs at bs → n ≡ at + length bs → read_string at (bs ++ rest) ≡ reads cs n rest
string_read at n cs bs rest h e =
    let k = h.4 in
    let s = k.3 in
    let size : length bs ≡ length k.0 + 2 = length-enclosed 34 34 bs h.0 h.1 k.0 k.1 h.2 h.3 k.2 k.4 in
    ap (read_string at) (enclosed 34 34 bs h.0 h.1 k.0 k.1 rest h.2 h.3 k.2 k.4) ∙ between s.0 at n k.0 rest s.1 s.2 (omega (arith, size, e)) ∙ ap (λ l. reads l n rest) (sym s.3)
