use Rattle.std.proofs.Common.{◌≡◌, take}
use Rattle.group_table.specs.Tables.{with_groups}
use Rattle.mux_tables.specs.Stands.{ends}
use Rattle.mux_tables.proofs.seats.end_all.Given as goal

abbrev pub invariant-loop-g : goal.invariant-loop-g
invariant-loop-g l = l.groups ≡ with_groups (ends (take l.g-index l.numbers) l.initial.groups.groups) l.initial.groups
