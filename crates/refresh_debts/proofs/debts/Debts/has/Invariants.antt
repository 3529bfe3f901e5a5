use Rattle.std.proofs.Common.{◌≡◌, false, take}
use Rattle.std.specs.List.{list_any}
use Rattle.refresh_debts.specs.Tables.{is_of}
use Rattle.refresh_debts.proofs.debts.Debts.has.Given as goal

abbrev pub invariant-loop-debt : goal.invariant-loop-debt
invariant-loop-debt l = list_any (is_of l.start l.editor) (take l.debt-index l.fn.self) ≡ false
