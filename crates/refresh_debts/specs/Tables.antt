-- What starts of servers owe to editors: of each method the last request, in the order in which the methods came to be owed.
use Rattle.std.specs.Prelude.{ℕ, ◌+◌, Bool, not, ◌&&◌, List, [], ◌∷◌, filter, nat_eq, bytes_eq, if◌then◌else◌}
use Rattle.std.specs.Prelude.{Option, Some, None}
use Rattle.refresh_debts.specs.declared.debts.Debt.{Debt}

-- a start owes it, to an editor, of a method
abbrev pub is_at : ℕ → Debt → Bool
is_at start d = nat_eq d.start start

abbrev pub is_with : ℕ → Debt → Bool
is_with editor d = nat_eq d.editor editor

abbrev pub is_of : ℕ → ℕ → Debt → Bool
is_of start editor d = is_at start d && is_with editor d

abbrev pub is_same : ℕ → ℕ → List ℕ → Debt → Bool
is_same start editor method d = is_of start editor d && bytes_eq d.method method

-- what a start owes to an editor
abbrev pub of : ℕ → ℕ → List Debt → List Debt
of start editor ds = filter (is_of start editor) ds

-- without those that pass a test
abbrev pub without : (Debt → Bool) → List Debt → List Debt
without test ds = filter (λ d. not (test d)) ds

-- one more, in the place of that of its method
abbrev pub with_debt : Debt → List Debt → List Debt
with_debt d [] = d ∷ []
with_debt d (x ∷ ds) = if is_same d.start d.editor d.method x then d ∷ ds else x ∷ with_debt d ds

-- the place of the first that passes, counted from one on
abbrev pub place_in : ℕ → (Debt → Bool) → List Debt → Option ℕ
place_in n test [] = None
place_in n test (d ∷ ds) = if test d then Some n else place_in (n + 1) test ds
