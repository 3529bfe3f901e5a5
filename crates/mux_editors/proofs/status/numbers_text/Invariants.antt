-- The parts so far, and those to come.
use Rattle.std.proofs.Common.{◌≡◌, ◌++◌, drop, map}
use Rattle.group_rows.specs.Status.{number_text}
use Rattle.mux_editors.proofs.status.numbers_text.Given as goal

abbrev pub invariant-loop-n : goal.invariant-loop-n
invariant-loop-n l = map number_text l.numbers ≡ l.parts.items ++ map number_text (drop l.n-index l.numbers)
