use Rattle.std.proofs.Common.{◌≡◌, ◌++◌, drop, map}
use Rattle.group_table.specs.Live.{number_of}
use Rattle.group_table.proofs.groups.numbers_of.Given as goal

abbrev pub invariant-loop-i : goal.invariant-loop-i
invariant-loop-i l = map number_of l.live ≡ l.numbers.items ++ map number_of (drop l.i l.live)
