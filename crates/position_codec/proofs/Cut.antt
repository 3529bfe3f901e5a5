-- The lines of a text are the text, cut.
use Rattle.std.proofs.Common.{◌≡◌, ℕ, List, [], ◌∷◌, ◌++◌, length, ◌+◌, refl, ap, ◌∙◌, arith}
use Rattle.position_codec.specs.Position.{Lines, last, line, Ending, feed, return, return_feed, lines, with_first, with_return, with_character, starts, bytes, ending_bytes}
use Rattle.position_codec.proofs.Sorts.{Sort, is_feed, is_return, is_other, sort, with_first-other}

abbrev pub ending_characters : Ending → List ℕ
ending_characters feed = 10 ∷ []
ending_characters return_feed = 13 ∷ 10 ∷ []
ending_characters return = 13 ∷ []

-- the lines, one after the other, each with its end
abbrev pub joined : Lines → List ℕ
joined (last cs) = cs
joined (line cs end ls) = cs ++ (ending_characters end ++ joined ls)

-- how many lines end
abbrev pub ends : Lines → ℕ
ends (last cs) = 0
ends (line cs end ls) = ends ls + 1

joined_character : (c : ℕ) (ls : Lines) → joined (with_character c ls) ≡ c ∷ joined ls
joined_character c (last cs) = refl
joined_character c (line cs end ls) = refl

joined_return : (ls : Lines) → joined (with_return ls) ≡ 13 ∷ joined ls
joined_return (last cs) = refl
joined_return (line [] feed ls) = refl
joined_return (line [] return_feed ls) = refl
joined_return (line [] return ls) = refl
joined_return (line (c ∷ cs) end ls) = refl

joined_first : (c : ℕ) (ls : Lines) → Sort c → joined (with_first c ls) ≡ c ∷ joined ls
joined_first c ls (is_feed h) = rw h refl
joined_first c ls (is_return h) = rw h (joined_return ls)
joined_first c ls (is_other g h) = ap joined (with_first-other c ls g h) ∙ joined_character c ls

pub joined_lines : (cs : List ℕ) → joined (lines cs) ≡ cs
joined_lines [] = refl
joined_lines (c ∷ cs) = joined_first c (lines cs) (sort c) ∙ ap (λ xs. c ∷ xs) (joined_lines cs)

-- one line more than ends
pub count_starts : (here : ℕ) (ls : Lines) → length (starts here ls) ≡ ends ls + 1
count_starts here (last cs) = refl
count_starts here (line cs end ls) = omega (arith, count_starts (here + (bytes cs + ending_bytes end)) ls)
