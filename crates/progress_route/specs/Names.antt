-- How the texts of live tokens are kept: by numbers that rise as they are created, and what an index says of these.
use Rattle.std.specs.Prelude.{◌≡◌, ℕ, ◌+◌, ◌≤◌, Bool, false, List, [], ◌∷◌, bytes_eq, if◌then◌else◌}
use Rattle.std.specs.Prelude.{Option, Some, None}
use Rattle.std.specs.Int.{w128, to_be_bytes}
use Rattle.std.specs.Map.{lookup}
use Rattle.std.specs.Ordering.{nat_cmp}
use Rattle.std.specs.BTreeMap.{is_at}
use Rattle.number_index.specs.Numbers.{numbers_under}
use Rattle.id_rewrite.specs.Fingerprints.{fingerprint}

-- a token as the server wrote it
abbrev pub Text : Type 0
Text = List ℕ

-- texts by their numbers, and the number that comes next
pub record Numbered : Type 0 where
  pub rows : List (ℕ × Text)
  pub next : ℕ

-- the text of a number
abbrev pub row_at : ℕ → List (ℕ × Text) → Option Text
row_at n rows = lookup (is_at (nat_cmp n)) rows

-- the numbers of the texts that pass a test
abbrev pub numbers_with : (Text → Bool) → List (ℕ × Text) → List ℕ
numbers_with test [] = []
numbers_with test (r ∷ rs) = if test r.1 then r.0 ∷ numbers_with test rs else numbers_with test rs

-- the number of the first that passes
abbrev pub first_with : (Text → Bool) → List (ℕ × Text) → Option ℕ
first_with test [] = None
first_with test (r ∷ rs) = if test r.1 then Some r.0 else first_with test rs

-- the numbers rise, from one number up to below another
abbrev pub Rise : ℕ → ℕ → List (ℕ × Text) → Type 0
Rise from to [] = from ≤ to
Rise from to (r ∷ rs) = (from ≤ r.0) × Rise (r.0 + 1) to rs

-- the key of a text: its fingerprint's sixteen bytes
abbrev pub print_key : Text → List ℕ
print_key text = to_be_bytes w128 (fingerprint 0 text)

-- an index has, under each key, the numbers of the texts with this key
abbrev pub Indexes : (Text → List ℕ) → List (ℕ × Text) → List (List ℕ × List ℕ) → Type 0
Indexes key rows index = (k : List ℕ) → numbers_under k index ≡ numbers_with (λ text. bytes_eq (key text) k) rows

-- what is kept: texts below the next number, from 1, and their index
pub record IsKept (rows : List (ℕ × Text)) (next : ℕ) (index : List (List ℕ × List ℕ)) : Type 0 where
  pub rise : Rise 1 next rows
  pub keys : Indexes print_key rows index

abbrev pub passes : (Text → Bool) → Option Text → Bool
passes test None = false
passes test (Some text) = test text

-- of these numbers, the first whose text passes a test
abbrev pub first_number : (Text → Bool) → List (ℕ × Text) → List ℕ → Option ℕ
first_number test rows [] = None
first_number test rows (n ∷ ns) = if passes test (row_at n rows) then Some n else first_number test rows ns
