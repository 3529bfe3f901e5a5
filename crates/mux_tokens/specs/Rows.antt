-- The tables of starts, by the numbers of these.
use Rattle.std.specs.Prelude.{ℕ, List, [], ◌∷◌}
use Rattle.std.specs.Prelude.{Option, Some, None}
use Rattle.std.specs.Map.{set_value}
use Rattle.std.specs.Ordering.{nat_cmp}
use Rattle.std.specs.BTreeMap.{is_at}
use Rattle.progress_route.specs.Tables.{Table, at, nothing, put, left}

abbrev pub Rows : Type 0
Rows = List (ℕ × Table)

-- of a start that created nothing yet none is kept
abbrev pub table_in : Option Table → Table
table_in None = nothing
table_in (Some t) = t

abbrev pub table_of : ℕ → Rows → Table
table_of s rows = table_in (at s rows)

-- the table of a start, which may not be there yet, becomes another
abbrev pub changed_to : ℕ → (Table → Table) → Option Table → Rows → Rows
changed_to s f None rows = put s (f nothing) rows
changed_to s f (Some t) rows = set_value (is_at (nat_cmp s)) rows (f t)

abbrev pub changed : ℕ → (Table → Table) → Rows → Rows
changed s f rows = changed_to s f (at s rows) rows

-- the same, where it is there
abbrev pub edited_to : ℕ → (Table → Table) → Option Table → Rows → Rows
edited_to s f None rows = rows
edited_to s f (Some t) rows = set_value (is_at (nat_cmp s)) rows (f t)

abbrev pub edited : ℕ → (Table → Table) → Rows → Rows
edited s f rows = edited_to s f (at s rows) rows

-- an editor leaves these starts, one after the other
abbrev pub left_each : ℕ → List ℕ → Rows → Rows
left_each e [] rows = rows
left_each e (s ∷ ss) rows = left_each e ss (edited s (left e) rows)
