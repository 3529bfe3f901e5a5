use Rattle.editor_session.proofs.Numbers.{FoundTo}
use Rattle.editor_session.proofs.editors.Editors.numbers.Given as goal

abbrev pub invariant-loop-kept : goal.invariant-loop-kept
invariant-loop-kept l = FoundTo l.wanted l.kept-items l.kept-index l.numbers.items
