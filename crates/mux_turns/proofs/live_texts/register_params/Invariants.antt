-- What is written, and what is left to write.
use Rattle.std.proofs.Common.{codes}
use Rattle.group_facts.specs.registrations.specs.declared.registration.Registration.{Registration}
use Rattle.mux_turns.proofs.LiveTexts.{Left}
use Rattle.mux_turns.proofs.live_texts.register_params.Given as goal

abbrev pub invariant-loop-item : goal.invariant-loop-item
invariant-loop-item l = Left (λ (r : Registration). r.item) (codes "{\"registrations\":") l.text.items l.started l.item-index l.items
