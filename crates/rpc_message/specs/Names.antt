-- The names of members as a set of their texts.
use Rattle.std.specs.Prelude.{ℕ, Bool, List, Vec, encode_utf8_all}
use Rattle.std.specs.Ordering.{nat_cmp}
use Rattle.std.specs.Cmp.Lexicographic.{slice_cmp}
use Rattle.std.specs.BTreeSet.{BTreeSet, contains_by}

-- whether the text of these characters, in UTF-8, is in the set
abbrev pub has_name : {Y : Type 0} → BTreeSet (Vec ℕ Y) → List ℕ → Bool
has_name names cs = contains_by (λ name. slice_cmp nat_cmp (encode_utf8_all cs) name.items) names
