use Rattle.std.proofs.Common.{◌≡◌, ◌++◌}
use Rattle.refresh_debts.specs.Tables.{is_of, of, without}
use Rattle.refresh_debts.proofs.debts.Debts.take.Given as goal

abbrev pub invariant-loop-debt : goal.invariant-loop-debt
invariant-loop-debt l =
    (l.taken.items ++ of l.start l.editor l.debt-iterator.rest.items ≡ of l.start l.editor l.fn.self)
    × (l.left.items ++ without (is_of l.start l.editor) l.debt-iterator.rest.items ≡ without (is_of l.start l.editor) l.fn.self)
