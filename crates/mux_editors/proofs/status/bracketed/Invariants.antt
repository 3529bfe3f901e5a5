-- What is written, and what is left to write.
use Rattle.mux_editors.proofs.Telling.{Left}
use Rattle.mux_editors.proofs.status.bracketed.Given as goal

abbrev pub invariant-loop-part : goal.invariant-loop-part
invariant-loop-part l = Left l.text.items l.started l.part-index l.parts
