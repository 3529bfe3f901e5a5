-- The first of several faults: an unknown path, a missing one, one out of range, each the least in byte order.
use Rattle.std.specs.Prelude.{ℕ, Bool, true, List, nat_lt, nat_eq, ◌&&◌, ◌||◌, if◌then◌else◌, fold}
use Rattle.std.specs.Prelude.{Option, Some, None}
use Rattle.std.specs.Ordering.{nat_cmp, is_lt}
use Rattle.std.specs.Cmp.Lexicographic.{slice_cmp}
use Rattle.mux_config.specs.declared.first.Sort.{Sort}
use Rattle.mux_config.specs.declared.first.Sort.TheVariants.{Unknown, Missing, Range}

-- a fault: its sort, and the path of a key
pub record Fault : Type 0 where
  pub sort : Sort
  pub path : List ℕ

abbrev pub rank : Sort → ℕ
rank Unknown = 0
rank Missing = 1
rank Range = 2

abbrev pub comes_before : Fault → Fault → Bool
comes_before f g = nat_lt (rank f.sort) (rank g.sort) || (nat_eq (rank f.sort) (rank g.sort) && is_lt (slice_cmp nat_cmp f.path g.path))

abbrev pub goes_first : Fault → Option Fault → Bool
goes_first f None = true
goes_first f (Some g) = comes_before f g

abbrev pub first_of : Option Fault → Fault → Option Fault
first_of None f = Some f
first_of (Some g) f = if comes_before f g then Some f else Some g

-- the first of some, where there was one before or none
abbrev pub first_in : Option Fault → List Fault → Option Fault
first_in before faults = fold first_of before faults
