-- Sums of a text's bytes: texts of which these differ are different ones.
use Rattle.std.specs.Prelude.{ℕ, ◌+◌, List, [], ◌∷◌, length}
use Rattle.text_pieces.specs.declared.sums.Sums.{Sums}

abbrev pub total : List ℕ → ℕ
total [] = 0
total (b ∷ bs) = b + total bs

-- each byte as often as its place says, from 1
abbrev pub weighted : List ℕ → ℕ
weighted [] = 0
weighted (b ∷ bs) = (b + total bs) + weighted bs

abbrev pub sums_of : List ℕ → Sums
sums_of bs = record { length = length bs; total = total bs; weighted = weighted bs }
