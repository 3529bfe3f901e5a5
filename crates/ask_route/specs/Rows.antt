-- How asks are kept: by numbers that rise as they are put, and what three indexes say of these.
use Rattle.std.specs.Prelude.{◌≡◌, ℕ, ◌+◌, ◌≤◌, Bool, false, List, [], ◌∷◌, ◌++◌, bytes_eq, if◌then◌else◌}
use Rattle.std.specs.Prelude.{Option, Some, None}
use Rattle.std.specs.Int.{w64, w128, to_be_bytes}
use Rattle.std.specs.Map.{lookup}
use Rattle.std.specs.Ordering.{nat_cmp}
use Rattle.std.specs.BTreeMap.{is_at}
use Rattle.number_index.specs.Numbers.{numbers_under}
use Rattle.id_rewrite.specs.Fingerprints.{fingerprint}
use Rattle.ask_route.specs.declared.ask.Ask.{Ask}
use Rattle.ask_route.specs.declared.ask.Seat.{Seat}
use Rattle.ask_route.specs.Tables.{is_with, number_in, seat_of}

-- asks by their numbers, and the number that comes next
pub record Numbered : Type 0 where
  pub rows : List (ℕ × Ask)
  pub next : ℕ

-- the ask of a number
abbrev pub row_at : ℕ → List (ℕ × Ask) → Option Ask
row_at n rows = lookup (is_at (nat_cmp n)) rows

-- the numbers of the asks that pass a test
abbrev pub numbers_with : (Ask → Bool) → List (ℕ × Ask) → List ℕ
numbers_with test [] = []
numbers_with test (r ∷ rs) = if test r.1 then r.0 ∷ numbers_with test rs else numbers_with test rs

-- the number of the first that passes
abbrev pub first_with : (Ask → Bool) → List (ℕ × Ask) → Option ℕ
first_with test [] = None
first_with test (r ∷ rs) = if test r.1 then Some r.0 else first_with test rs

-- the numbers rise, from one number up to below another
abbrev pub Rise : ℕ → ℕ → List (ℕ × Ask) → Type 0
Rise from to [] = from ≤ to
Rise from to (r ∷ rs) = (from ≤ r.0) × Rise (r.0 + 1) to rs

-- an index has, under each key, the numbers of the asks with this key
abbrev pub Indexes : (Ask → List ℕ) → List (ℕ × Ask) → List (List ℕ × List ℕ) → Type 0
Indexes key rows index = (k : List ℕ) → numbers_under k index ≡ numbers_with (λ ask. bytes_eq (key ask) k) rows

-- the key of an id: its fingerprint's sixteen bytes
abbrev pub print_key : List ℕ → List ℕ
print_key id = to_be_bytes w128 (fingerprint 0 id)

abbrev pub id_key : Ask → List ℕ
id_key ask = print_key ask.id

-- the key of a number under which an editor was asked: its sixteen bytes; no bytes where none was asked
abbrev pub seat_key : Option Seat → List ℕ
seat_key None = []
seat_key (Some seat) = to_be_bytes w128 seat.number

abbrev pub number_key : Ask → List ℕ
number_key ask = seat_key (seat_of ask)

-- the key of an editor: its eight bytes; no bytes where none was asked
abbrev pub holder_key : Option ℕ → List ℕ
holder_key None = []
holder_key (Some editor) = to_be_bytes w64 editor

abbrev pub holder_in : Option Seat → Option ℕ
holder_in None = None
holder_in (Some seat) = Some seat.editor

abbrev pub editor_key : Ask → List ℕ
editor_key ask = holder_key (holder_in (seat_of ask))

-- what is kept: asks below the next number, and their indexes
pub record IsKept (rows : List (ℕ × Ask)) (next : ℕ) (by_id by_number by_editor : List (List ℕ × List ℕ)) : Type 0 where
  pub rise : Rise 0 next rows
  pub ids : Indexes id_key rows by_id
  pub numbers : Indexes number_key rows by_number
  pub editors : Indexes editor_key rows by_editor

abbrev pub passes : (Ask → Bool) → Option Ask → Bool
passes test None = false
passes test (Some ask) = test ask

-- of these numbers, the first whose ask passes a test, and all of these
abbrev pub first_number : (Ask → Bool) → List (ℕ × Ask) → List ℕ → Option ℕ
first_number test rows [] = None
first_number test rows (n ∷ ns) = if passes test (row_at n rows) then Some n else first_number test rows ns

abbrev pub chosen : (Ask → Bool) → List (ℕ × Ask) → List ℕ → List ℕ
chosen test rows [] = []
chosen test rows (n ∷ ns) = if passes test (row_at n rows) then n ∷ chosen test rows ns else chosen test rows ns

-- of these numbers, those that an editor has under them
abbrev pub number_with : ℕ → Option Ask → List ℕ
number_with editor None = []
number_with editor (Some ask) = if is_with (Some editor) ask then number_in (seat_of ask) else []

abbrev pub numbers_among : ℕ → List (ℕ × Ask) → List ℕ → List ℕ
numbers_among editor rows [] = []
numbers_among editor rows (n ∷ ns) = number_with editor (row_at n rows) ++ numbers_among editor rows ns
