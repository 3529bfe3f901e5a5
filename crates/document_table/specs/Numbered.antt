-- Documents by rising numbers, in the order of opening, and what two indexes say of them.
use Rattle.std.specs.Prelude.{◌≡◌, ℕ, ◌+◌, ◌<◌, ◌≤◌, ◌^◌, Bool, true, false, not, List, [], ◌∷◌, fold, nat_eq, bytes_eq, if◌then◌else◌}
use Rattle.std.specs.Prelude.{Option, Some, None}
use Rattle.std.specs.List.{AllByRecursion}
use Rattle.std.specs.Int.{w64, to_be_bytes}
use Rattle.std.specs.Map.{lookup, values_of}
use Rattle.std.specs.Ordering.{nat_cmp}
use Rattle.std.specs.BTreeMap.{is_at}
use Rattle.document_model.specs.Opens.{Open}
use Rattle.document_model.specs.Orderly.{Once}
use Rattle.number_index.specs.Numbers.{numbers_under}

-- the document of a number
abbrev pub row_at : ℕ → List (ℕ × Open) → Option Open
row_at n rows = lookup (is_at (nat_cmp n)) rows

-- the numbers of the documents that pass a test
abbrev pub numbers_with : (Open → Bool) → List (ℕ × Open) → List ℕ
numbers_with test [] = []
numbers_with test (r ∷ rs) = if test r.1 then r.0 ∷ numbers_with test rs else numbers_with test rs

-- the numbers rise, from one number up to below another
abbrev pub Rise : ℕ → ℕ → List (ℕ × Open) → Type 0
Rise from to [] = from ≤ to
Rise from to (r ∷ rs) = (from ≤ r.0) × Rise (r.0 + 1) to rs

-- an index has, under each key, the numbers of the documents with this key
abbrev pub Indexes : (Open → List ℕ) → List (ℕ × Open) → List (List ℕ × List ℕ) → Type 0
Indexes key rows index = (k : List ℕ) → numbers_under k index ≡ numbers_with (λ o. bytes_eq (key o) k) rows

abbrev pub uri_key : Open → List ℕ
uri_key o = o.uri

-- an editor's key is its eight bytes
abbrev pub editor_key : Open → List ℕ
editor_key o = to_be_bytes w64 o.editor

-- what is kept: documents below the next number, each once, and their indexes
pub record Kept (rows : List (ℕ × Open)) (next : ℕ) (by_uri by_editor : List (List ℕ × List ℕ)) : Type 0 where
  pub rise : Rise 0 next rows
  pub uris : Indexes uri_key rows by_uri
  pub editors : Indexes editor_key rows by_editor
  pub fits : AllByRecursion (λ (o : Open). o.editor < 2 ^ 64) (values_of rows)
  pub once : Once (values_of rows)

-- the first of these numbers whose document passes a test

abbrev pub passes : (Open → Bool) → Option Open → Bool
passes test None = false
passes test (Some o) = test o

abbrev pub first_number : (Open → Bool) → List (ℕ × Open) → List ℕ → Option ℕ
first_number test rows [] = None
first_number test rows (n ∷ ns) = if passes test (row_at n rows) then Some n else first_number test rows ns

-- the documents of these numbers

abbrev pub and_row : Option Open → List Open → List Open
and_row None os = os
and_row (Some o) os = o ∷ os

abbrev pub rows_at : List (ℕ × Open) → List ℕ → List Open
rows_at rows [] = []
rows_at rows (n ∷ ns) = and_row (row_at n rows) (rows_at rows ns)

-- a touch of the document of a number, and of several
abbrev pub touch_row : ℕ → List (ℕ × Open) → ℕ → List (ℕ × Open)
touch_row turn [] n = []
touch_row turn (r ∷ rs) n = if is_at (nat_cmp n) r.0 then (r.0, record r.1 { touched = turn }) ∷ rs else r ∷ touch_row turn rs n

abbrev pub touch_rows : ℕ → List (ℕ × Open) → List ℕ → List (ℕ × Open)
touch_rows turn rows ns = fold (touch_row turn) rows ns

-- the documents but for an editor's, where one is named
abbrev pub is_beside : Option ℕ → Open → Bool
is_beside None o = true
is_beside (Some e) o = not (nat_eq o.editor e)
