-- The tables of waiting requests, by the numbers of groups.
use Rattle.std.specs.Prelude.{◌≡◌, ℕ, List, [], nat_eq, if◌then◌else◌}
use Rattle.std.specs.Prelude.{Option, Some, None}
use Rattle.std.specs.BTreeMap.{insert_entry, is_at}
use Rattle.std.specs.Map.{set_value}
use Rattle.std.specs.Ordering.{nat_cmp}
use Rattle.held_requests.specs.declared.request.Request.{Request}
use Rattle.numbered_rows.specs.Rows.{row_at}

abbrev pub Rows : Type 0
Rows = List (ℕ × List Request)

-- of a group in which nothing waits none need be kept
abbrev pub held_in : Option (List Request) → List Request
held_in None = []
held_in (Some rs) = rs

abbrev pub held_of : ℕ → Rows → List Request
held_of g rows = held_in (row_at g rows)

-- what waits in a group becomes something else, whether it is kept yet or not
abbrev pub changed_to : ℕ → (List Request → List Request) → Option (List Request) → Rows → Rows
changed_to g f None rows = insert_entry nat_cmp rows g (f [])
changed_to g f (Some rs) rows = set_value (is_at (nat_cmp g)) rows (f rs)

abbrev pub changed : ℕ → (List Request → List Request) → Rows → Rows
changed g f rows = changed_to g f (row_at g rows) rows

-- the same, where it is kept
abbrev pub edited_to : ℕ → (List Request → List Request) → Option (List Request) → Rows → Rows
edited_to g f None rows = rows
edited_to g f (Some rs) rows = set_value (is_at (nat_cmp g)) rows (f rs)

abbrev pub edited : ℕ → (List Request → List Request) → Rows → Rows
edited g f rows = edited_to g f (row_at g rows) rows

-- what waits in a group becomes something else, and nothing that waits in another
abbrev pub Becomes : ℕ → (List Request → List Request) → Rows → Rows → Type 0
Becomes g f old new = (n : ℕ) → held_of n new ≡ (if nat_eq g n then f (held_of n old) else held_of n old)

-- the same in the group of an editor, where it has one
abbrev pub BecomesAt : Option ℕ → (List Request → List Request) → Rows → Rows → Type 0
BecomesAt None f old new = new ≡ old
BecomesAt (Some g) f old new = Becomes g f old new
