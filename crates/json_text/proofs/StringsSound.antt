-- What is read as a string is one of RFC 8259, section 7.
use Rattle.std.proofs.Common.{◌≡◌, ℕ, zero, suc, ◌+◌, Bool, true, false, ◌&&◌, List, [], ◌∷◌, ◌++◌, length, flat_map, ◌⊎◌, inl, inr, ◌==◌, if◌then◌else◌, refl, sym, ap, ◌∙◌, arith, append_assoc, eqb-true}
use Rattle.std.proofs.lemmas.Bool.{and_parts}
use Rattle.std.specs.List.{AllByRecursion}
use lib.Utf8.{encode, scalar}
use Rattle.json_text.specs.Json.{Rule, ◌then◌, byte, quoted}
use Rattle.json_text.specs.String.{Piece, plain, short, unit, is_plain, is_short, is_hex, IsPiece, spelled, characters}
use Rattle.json_text.specs.Read.{fails, reads, ◌>>=◌, gives, expect, expect_all, code_in_front, plain_if, read_plain, unit_if, read_unit, read_escape, read_piece, read_pieces, read_string}
use Rattle.json_text.proofs.Front.{Front, Sound, bound, picked, gave, one_taken, none_taken, more_taken, joined, weaken, expect_sound}

pub expect_all_sound : (cs : List ℕ) → Sound (expect_all cs) (λ done at bs. bs ≡ cs)
unfolding expect_all
expect_all_sound [] at bs x to rest h = none_taken (λ done at bs. bs ≡ []) at bs tt x to rest h refl
expect_all_sound (c ∷ cs) at [] x to rest h = cc
expect_all_sound (c ∷ cs) at (b ∷ bs) x to rest h = pick (picked (b == c) (expect_all cs (at + 1) bs) fails (reads x to rest) h) (λ k. expect_all_sound cs (at + 1) bs x to rest k)
  where
    pick : ((b == c ≡ true) × (expect_all cs (at + 1) bs ≡ reads x to rest)) ⊎ ((b == c ≡ false) × (fails ≡ reads x to rest))
        → (expect_all cs (at + 1) bs ≡ reads x to rest → Front (λ at bs. bs ≡ cs) (at + 1) bs to rest) → Front (λ at bs. bs ≡ c ∷ cs) at (b ∷ bs) to rest
    pick (inl k) rec = more_taken at b bs to rest (rec k.1) (λ xs e. ap (λ i. i ∷ xs) (eqb-true b c k.0) ∙ ap (λ l. c ∷ l) e)
    pick (inr k) rec = let i = k.1 in cc

abbrev piece_rule : Piece → Rule
piece_rule p at bs = IsPiece p × (bs ≡ spelled p)

-- the bytes of a piece behind its backslash
abbrev escape_rule : Piece → Rule
escape_rule p at bs = IsPiece p × (92 ∷ bs ≡ spelled p)

plain_sound : (x : Bool) (c : ℕ) → (x ≡ true → IsPiece (plain c)) → Sound (plain_if x c) piece_rule
plain_sound true c k at bs p to rest h =
    let f = bound (expect_all (encode c) at bs) (λ done. gives (plain c)) p to rest h in
    gave piece_rule at bs (plain c) p f.to to f.rest rest f.goes (weaken (λ i xs e. (k refl, e)) (expect_all_sound (encode c) at bs f.read f.to f.rest f.is))
plain_sound false c k at bs p to rest h = cc

unit_sound : (at a b c d : ℕ) (x : Bool) (bs : List ℕ) (p : Piece) (to : ℕ) (rest : List ℕ) → (x ≡ true → IsPiece (unit a b c d)) → unit_if x a b c d (at + 5) bs ≡ reads p to rest → Front (escape_rule p) at (117 ∷ a ∷ b ∷ c ∷ d ∷ bs) to rest
unit_sound at a b c d true bs p to rest k h = gave escape_rule at (117 ∷ a ∷ b ∷ c ∷ d ∷ bs) (unit a b c d) p (at + 5) to bs rest h (record { front = 117 ∷ a ∷ b ∷ c ∷ d ∷ []; whole = refl; is_to = refl; rule = (k refl, refl) })
unit_sound at a b c d false bs p to rest k h = cc

hex_digits : (a b c d : ℕ) → (is_hex a && (is_hex b && (is_hex c && is_hex d))) ≡ true → IsPiece (unit a b c d)
hex_digits a b c d h =
    let k = and_parts (is_hex a) (is_hex b && (is_hex c && is_hex d)) h in
    let l = and_parts (is_hex b) (is_hex c && is_hex d) k.1 in
    let m = and_parts (is_hex c) (is_hex d) l.1 in
    (k.0, l.0, m.0, m.1)

read_unit_sound : (at : ℕ) (bs : List ℕ) (p : Piece) (to : ℕ) (rest : List ℕ) → read_unit (at + 1) bs ≡ reads p to rest → Front (escape_rule p) at (117 ∷ bs) to rest
read_unit_sound at [] p to rest h = cc
read_unit_sound at (a ∷ []) p to rest h = cc
read_unit_sound at (a ∷ b ∷ []) p to rest h = cc
read_unit_sound at (a ∷ b ∷ c ∷ []) p to rest h = cc
read_unit_sound at (a ∷ b ∷ c ∷ d ∷ bs) p to rest h =
    let e : at + 1 + 4 ≡ at + 5 = omega arith in
    unit_sound at a b c d (is_hex a && (is_hex b && (is_hex c && is_hex d))) bs p to rest (hex_digits a b c d) (ap (λ i. unit_if (is_hex a && (is_hex b && (is_hex c && is_hex d))) a b c d i bs) (sym e) ∙ h)

escape_sound : Sound read_escape escape_rule
escape_sound at [] p to rest h = cc
escape_sound at (b ∷ bs) p to rest h = elim (picked (b == 117) (read_unit (at + 1) bs) (if is_short b then reads (short b) (at + 1) bs else fails) (reads p to rest) h) [
  | inl k ↦ rw (eqb-true b 117 k.0) (read_unit_sound at bs p to rest k.1)
  | inr k ↦ elim (picked (is_short b) (reads (short b) (at + 1) bs) fails (reads p to rest) k.1) [
    | inl l ↦ one_taken escape_rule at b bs (short b) p to rest l.1 (l.0, refl)
    | inr l ↦ let i = l.1 in cc
  ]
]

piece_sound : Sound read_piece piece_rule
piece_sound at [] p to rest h = cc
piece_sound at (b ∷ bs) p to rest h = elim (picked (b == 92) (read_escape (at + 1) bs) (read_plain (code_in_front b bs) at (b ∷ bs)) (reads p to rest) h) [
  | inl k ↦ more_taken at b bs to rest (escape_sound (at + 1) bs p to rest k.1) (λ xs e. (e.0, ap (λ i. i ∷ xs) (eqb-true b 92 k.0) ∙ e.1))
  | inr k ↦ plain_sound (scalar (code_in_front b bs) && is_plain (code_in_front b bs)) (code_in_front b bs) (and_parts (scalar (code_in_front b bs)) (is_plain (code_in_front b bs))) at (b ∷ bs) p to rest k.1
]

abbrev pieces : List Piece → Rule
pieces ps at bs = AllByRecursion IsPiece ps × (bs ≡ flat_map spelled ps)

no_pieces : (at : ℕ) (xs : List ℕ) → xs ≡ 34 ∷ [] → (pieces [] then byte 34) at xs
no_pieces at xs e = ([], 34 ∷ [], e, (tt, refl), refl)

more_pieces : (p : Piece) (ps : List Piece) (at : ℕ) (xs : List ℕ) → (piece_rule p then (pieces ps then byte 34)) at xs → (pieces (p ∷ ps) then byte 34) at xs
more_pieces p ps at xs h =
    let k = h.4 in
    (h.0 ++ k.0, k.1, h.2 ∙ ap (λ l. h.0 ++ l) k.2 ∙ sym (append_assoc h.0 k.0 k.1), ((h.3.0, k.3.0), ap (λ l. l ++ k.0) h.3.1 ∙ ap (λ l. spelled p ++ l) k.3.1), k.4)

pieces_sound : (n : ℕ) → Sound (read_pieces n) (λ ps. pieces ps then byte 34)
unfolding read_pieces
pieces_sound zero at bs ps to rest h = cc
pieces_sound (suc n) at [] ps to rest h = cc
pieces_sound (suc n) at (b ∷ bs) ps to rest h = pick (picked (b == 34) (reads [] (at + 1) bs) (read_piece at (b ∷ bs) >>= λ p at bs. read_pieces n at bs >>= λ ps. gives (p ∷ ps)) (reads ps to rest) h) (pieces_sound n)
  where
    pick : ((b == 34 ≡ true) × (reads [] (at + 1) bs ≡ reads ps to rest)) ⊎ ((b == 34 ≡ false) × ((read_piece at (b ∷ bs) >>= λ p at bs. read_pieces n at bs >>= λ ps. gives (p ∷ ps)) ≡ reads ps to rest))
        → Sound (read_pieces n) (λ ps. pieces ps then byte 34) → Front (pieces ps then byte 34) at (b ∷ bs) to rest
    pick (inl k) rec = one_taken (λ ps. pieces ps then byte 34) at b bs [] ps to rest k.1 (no_pieces at (b ∷ []) (ap (λ i. i ∷ []) (eqb-true b 34 k.0)))
    pick (inr k) rec =
        let f = bound (read_piece at (b ∷ bs)) (λ p at bs. read_pieces n at bs >>= λ ps. gives (p ∷ ps)) ps to rest k.1 in
        let g = bound (read_pieces n f.to f.rest) (λ ps. gives (f.read ∷ ps)) ps to rest f.goes in
        gave (λ ps. pieces ps then byte 34) at (b ∷ bs) (f.read ∷ g.read) ps g.to to g.rest rest g.goes
        (weaken (more_pieces f.read g.read) (joined at (b ∷ bs) f.to f.rest g.to g.rest (piece_sound at (b ∷ bs) f.read f.to f.rest f.is) (rec f.to f.rest g.read g.to g.rest g.is)))

spelt : (ps : List Piece) (at : ℕ) (xs : List ℕ) → (byte 34 then (pieces ps then byte 34)) at xs → quoted (characters ps) at xs
spelt ps at xs h = let k = h.4 in (h.0, h.1, h.2, h.3, (k.0, k.1, k.2, (ps, k.3.0, k.3.1, refl), k.4))

pub string_sound : Sound (λ at bs. read_string at bs) quoted
unfolding read_string
string_sound at bs cs to rest h =
    let f = bound (expect 34 at bs) (λ done at bs. read_pieces (length bs) at bs >>= λ ps. gives (characters ps)) cs to rest h in
    let g = bound (read_pieces (length f.rest) f.to f.rest) (λ ps. gives (characters ps)) cs to rest f.goes in
    gave quoted at bs (characters g.read) cs g.to to g.rest rest g.goes
    (weaken (spelt g.read) (joined at bs f.to f.rest g.to g.rest (expect_sound 34 at bs f.read f.to f.rest f.is) (pieces_sound (length f.rest) f.to f.rest g.read g.to g.rest g.is)))
