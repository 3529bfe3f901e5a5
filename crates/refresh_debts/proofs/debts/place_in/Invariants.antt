use Rattle.std.proofs.Common.{◌≡◌, drop}
use Rattle.refresh_debts.specs.Tables.{is_same, place_in}
use Rattle.refresh_debts.proofs.debts.place_in.Given as goal

abbrev pub invariant-loop-i : goal.invariant-loop-i
invariant-loop-i l = place_in l.i (is_same l.start l.editor l.method) (drop l.i l.debts) ≡ place_in 0 (is_same l.start l.editor l.method) l.debts
