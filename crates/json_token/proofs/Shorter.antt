-- Reading a character leaves fewer bytes.
use Rattle.std.proofs.Common.{◌≡◌, subst, ℕ, suc, ◌<◌, ◌≤◌, Bool, true, false, ◌&&◌, List, [], ◌∷◌, length, arith}
use Rattle.std.specs.Prelude.{◌==◌, nat_lt, Some, None, if◌then◌else◌}
use Rattle.std.specs.Char.Utf16.{is_high_surrogate, is_low_surrogate, surrogate_pair_char}
use Rattle.json_text.specs.String.{short_character}
use Rattle.json_token.specs.Characters.{Front, replaced, two_front, three_front, four_front, plain_front, unit_front, escaped_unit, after_second, unit_character, escape_front, next_character}

-- fewer than n bytes are left
abbrev Leaves : ℕ → Front → Type 0
Leaves n (Some p) = length p.1 < n
Leaves n None = Unit {0}

either : (n : ℕ) (t : Bool) (x y : Front) → Leaves n x → Leaves n y → Leaves n (if t then x else y)
either n true x y h k = h
either n false x y h k = k

two_leaves : (a : ℕ) (rest : List ℕ) → Leaves (suc (length rest)) (two_front a rest)
two_leaves a [] = tt
two_leaves a (b ∷ rest) = omega arith

three_leaves : (a : ℕ) (rest : List ℕ) → Leaves (suc (length rest)) (three_front a rest)
three_leaves a [] = tt
three_leaves a (b ∷ []) = tt
three_leaves a (b ∷ c ∷ rest) = omega arith

four_leaves : (a : ℕ) (rest : List ℕ) → Leaves (suc (length rest)) (four_front a rest)
four_leaves a [] = tt
four_leaves a (b ∷ []) = tt
four_leaves a (b ∷ c ∷ []) = tt
four_leaves a (b ∷ c ∷ d ∷ rest) = omega arith

plain_leaves : (a : ℕ) (rest : List ℕ) → Leaves (suc (length rest)) (plain_front (a ∷ rest))
plain_leaves a rest =
    either (suc (length rest)) (nat_lt a 128) (Some (a, rest)) (if nat_lt a 224 then two_front a rest else if nat_lt a 240 then three_front a rest else four_front a rest) (omega arith)
    (either (suc (length rest)) (nat_lt a 224) (two_front a rest) (if nat_lt a 240 then three_front a rest else four_front a rest) (two_leaves a rest)
    (either (suc (length rest)) (nat_lt a 240) (three_front a rest) (four_front a rest) (three_leaves a rest) (four_leaves a rest)))

unit_leaves : (rest : List ℕ) → Leaves (suc (length rest)) (unit_front rest)
unit_leaves [] = tt
unit_leaves (a ∷ []) = tt
unit_leaves (a ∷ b ∷ []) = tt
unit_leaves (a ∷ b ∷ c ∷ []) = tt
unit_leaves (a ∷ b ∷ c ∷ d ∷ rest) = omega arith

more_leaves : (m n : ℕ) (f : Front) → m ≤ n → Leaves m f → Leaves n f
more_leaves m n (Some p) h k = omega arith
more_leaves m n None h k = tt

escaped_leaves : (rest : List ℕ) → Leaves (suc (length rest)) (escaped_unit rest)
escaped_leaves [] = tt
escaped_leaves (s ∷ []) = tt
escaped_leaves (s ∷ u ∷ rest) = either (suc (suc (suc (length rest)))) ((s == 92) && (u == 117)) (unit_front rest) None (more_leaves (suc (length rest)) (suc (suc (suc (length rest)))) (unit_front rest) (omega arith) (unit_leaves rest)) tt

second_leaves : (u : ℕ) (rest : List ℕ) (f : Front) → Leaves (suc (length rest)) f → length (after_second u rest f).1 ≤ length rest
second_leaves u rest None h = omega arith
second_leaves u rest (Some p) h = pick (is_high_surrogate u && is_low_surrogate p.0) (replaced (surrogate_pair_char u p.0), p.1) (replaced u, rest) (omega arith) (omega arith)
  where
    pick : (t : Bool) (x y : ℕ × List ℕ) → length x.1 ≤ length rest → length y.1 ≤ length rest → length (if t then x else y).1 ≤ length rest
    pick true x y k l = k
    pick false x y k l = l

character_leaves : (n : ℕ) (f : Front) → Leaves n f → Leaves n (unit_character f)
character_leaves n None h = tt
character_leaves n (Some p) h = let l = second_leaves p.0 p.1 (escaped_unit p.1) (escaped_leaves p.1) in omega arith

escape_leaves : (rest : List ℕ) → Leaves (suc (length rest)) (escape_front rest)
escape_leaves [] = tt
escape_leaves (b ∷ rest) = either (suc (suc (length rest))) (b == 117) (unit_character (unit_front rest)) (Some (short_character b, rest))
    (more_leaves (suc (length rest)) (suc (suc (length rest))) (unit_character (unit_front rest)) (omega arith) (character_leaves (suc (length rest)) (unit_front rest) (unit_leaves rest))) (omega arith)

next_leaves : (raw : List ℕ) → Leaves (length raw) (next_character raw)
next_leaves [] = tt
next_leaves (b ∷ rest) = either (suc (length rest)) (b == 92) (escape_front rest) (plain_front (b ∷ rest)) (escape_leaves rest) (plain_leaves b rest)

pub next_shorter : (raw more : List ℕ) (c : ℕ) → next_character raw ≡ Some (c, more) → length more < length raw
next_shorter raw more c h = subst (Leaves (length raw)) h (next_leaves raw)
