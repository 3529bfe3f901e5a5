use Rattle.std.proofs.Common.{◌≡◌, drop}
use Rattle.std.specs.Prelude.{None}
use Rattle.group_table.specs.Live.{idlest_in}
use Rattle.group_table.proofs.groups.idlest_of.Given as goal

abbrev pub invariant-loop-i : goal.invariant-loop-i
invariant-loop-i l = idlest_in None l.live ≡ idlest_in l.best (drop l.i l.live)
