-- What is written, and what is left to write.
use Rattle.std.proofs.Common.{codes}
use Rattle.group_facts.specs.group_rows.specs.Live.{unregistration}
use Rattle.mux_turns.proofs.LiveTexts.{Left}
use Rattle.mux_turns.proofs.live_texts.unregister_params.Given as goal

abbrev pub invariant-loop-item : goal.invariant-loop-item
invariant-loop-item l = Left unregistration (codes "{\"unregisterations\":") l.text.items l.started l.item-index l.items
