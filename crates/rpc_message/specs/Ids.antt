-- Bytes that begin with a quotation mark, and what is between the first and the last byte.
use Rattle.std.specs.Prelude.{ℕ, ◌-◌, Bool, false, List, [], ◌∷◌, length, take, drop, nat_eq}

abbrev pub is_quoted : List ℕ → Bool
is_quoted [] = false
is_quoted (b ∷ bs) = nat_eq b 34

abbrev pub between_quotes : List ℕ → List ℕ
between_quotes id = take (length id - 2) (drop 1 id)
