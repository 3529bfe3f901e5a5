use Rattle.std.proofs.Common.{codes, ◌∙◌}
use Rattle.std.specs.Prelude.{bytes_eq, if◌then◌else◌}
use Rattle.capability_meet.specs.declared.spot.Spot.TheVariants as spot
use Rattle.capability_meet.proofs.Spots.{chosen, general_letters, other, tests, window_letters}
use Rattle.capability_meet.proofs.spot.top_spot.Goals as goal

pub returns-then-spells_text : goal.returns-then-spells_text
returns-then-spells_text c = λ cs h. chosen spot.Window (if bytes_eq (codes "general") cs then spot.General else spot.Elsewhere) c.spells_text.result (bytes_eq (codes "window") cs) (tests (codes "window") cs c.spells_text.result window_letters (c.spells_text.ensures cs h)) c.if-spells_text.true

pub returns-then-spells_text-2 : goal.returns-then-spells_text-2
returns-then-spells_text-2 c = λ cs h.
    chosen spot.General spot.Elsewhere c.spells_text-else-spells_text.result (bytes_eq (codes "general") cs) (tests (codes "general") cs c.spells_text-else-spells_text.result general_letters (c.spells_text-else-spells_text.ensures cs h)) c.if-spells_text-2.true
    ∙ other spot.Window (if bytes_eq (codes "general") cs then spot.General else spot.Elsewhere) c.spells_text.result (bytes_eq (codes "window") cs) (tests (codes "window") cs c.spells_text.result window_letters (c.spells_text.ensures cs h)) c.if-spells_text.false

pub returns-else-spells_text-2 : goal.returns-else-spells_text-2
returns-else-spells_text-2 c = λ cs h.
    other spot.General spot.Elsewhere c.spells_text-else-spells_text.result (bytes_eq (codes "general") cs) (tests (codes "general") cs c.spells_text-else-spells_text.result general_letters (c.spells_text-else-spells_text.ensures cs h)) c.if-spells_text-2.false
    ∙ other spot.Window (if bytes_eq (codes "general") cs then spot.General else spot.Elsewhere) c.spells_text.result (bytes_eq (codes "window") cs) (tests (codes "window") cs c.spells_text.result window_letters (c.spells_text.ensures cs h)) c.if-spells_text.false
