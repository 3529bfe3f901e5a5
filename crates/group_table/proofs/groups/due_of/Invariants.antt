use Rattle.std.proofs.Common.{◌≡◌, ◌++◌, drop}
use Rattle.group_words.specs.Placing.{is_due}
use Rattle.number_table.specs.Numbers.{numbers_in}
use Rattle.group_table.proofs.groups.due_of.Given as goal

abbrev pub invariant-loop-i : goal.invariant-loop-i
invariant-loop-i l = numbers_in (is_due l.limit l.now) l.live ≡ l.due.items ++ numbers_in (is_due l.limit l.now) (drop l.i l.live)
