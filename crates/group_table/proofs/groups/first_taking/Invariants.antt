use Rattle.std.proofs.Common.{◌≡◌, drop}
use Rattle.group_words.specs.Placing.{takes}
use Rattle.group_table.specs.Live.{first_in}
use Rattle.group_table.proofs.groups.first_taking.Given as goal

abbrev pub invariant-loop-i : goal.invariant-loop-i
invariant-loop-i l = first_in (takes l.key l.declared) l.live ≡ first_in (takes l.key l.declared) (drop l.i l.live)
