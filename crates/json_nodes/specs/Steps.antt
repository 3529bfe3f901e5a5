-- The look-ups as functions of the nodes alone.
use Rattle.std.specs.Prelude.{ℕ, ◌+◌, Bool, true, false, List, ◌==◌, length, nat_lt, ◌&&◌}
use Rattle.std.specs.Prelude.{Option, Some, None}
use Rattle.std.specs.List.{slice_get}
use Rattle.json_nodes.specs.declared.node.Node.{Node}

abbrev pub some_if : Bool → ℕ → Option ℕ
some_if true k = Some k
some_if false k = None

-- the node behind node k, where it is in what this node holds
abbrev pub first_inside : ℕ → ℕ → Option Node → Option ℕ
first_inside count k None = None
first_inside count k (Some x) = some_if (nat_lt (k + 1) x.after && nat_lt (k + 1) count) (k + 1)

abbrev pub first_number : List Node → ℕ → Option ℕ
first_number ns k = first_inside (length ns) k (slice_get ns k)

-- the node behind all that node m holds, where it has the same level
abbrev pub same_level : ℕ → Node → Option Node → Option ℕ
same_level m x None = None
same_level m x (Some y) = some_if ((y.level == x.level) && nat_lt m x.after) x.after

abbrev pub next_behind : List Node → ℕ → Option Node → Option ℕ
next_behind ns m None = None
next_behind ns m (Some x) = same_level m x (slice_get ns x.after)

abbrev pub next_number : List Node → ℕ → Option ℕ
next_number ns m = next_behind ns m (slice_get ns m)
