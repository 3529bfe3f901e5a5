-- The groups that live, which alone are kept.
use Rattle.std.specs.Prelude.{◌≡◌, ℕ, Bool, true, List, [], ◌∷◌, if◌then◌else◌}
use Rattle.std.specs.Prelude.{Option, Some, None}
use Rattle.std.specs.List.{AllByRecursion}
use Rattle.group_words.specs.declared.idle.Idle.{Idle}
use Rattle.group_words.specs.declared.kept.Kept.{Kept}
use Rattle.group_words.specs.Placing.{idle_since, longer}
use Rattle.number_table.specs.declared.numbered.Numbered.{Numbered}

abbrev pub AreLive : List (Numbered Kept) → Type 0
AreLive live = AllByRecursion (λ x. x.item.live ≡ true) live

abbrev pub number_of : Numbered Kept → ℕ
number_of x = x.number

-- the lowest that meets a test
abbrev pub first_in : (Kept → Bool) → List (Numbered Kept) → Option ℕ
first_in test [] = None
first_in test (x ∷ xs) = if test x.item then Some x.number else first_in test xs

-- the one that is idle for longer, the first of equals
abbrev pub idlest_in : Option Idle → List (Numbered Kept) → Option Idle
idlest_in best [] = best
idlest_in best (x ∷ xs) = idlest_in (longer best x.number (idle_since x.item)) xs
