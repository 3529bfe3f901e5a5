use Rattle.std.proofs.Common.{[], ◌∷◌, ◌++◌, ◌∙◌, ap}
use Rattle.id_rewrite.specs.Slots.{Open}
use Rattle.id_rewrite.proofs.Slotting.{came, came_rising}
use Rattle.id_rewrite.proofs.slots.Slots.push.Goals as goal

pub invariant_of-self : goal.invariant_of-self
invariant_of-self c = came_rising 2 c.self.inside.next c.self.inside.slots.items c.push_reserved.new.self.items _ c.self.invariant c.push_reserved.ensures.items

pub returns-clause-requests : goal.returns-clause-requests
returns-clause-requests c =
    came c.self.inside.slots.items c.push_reserved.new.self.items c.self.inside.next c.args.pending c.push_reserved.ensures.items
    ∙ ap (λ (o : Open). o.requests ++ record { number = o.next; pending = c.args.pending } ∷ []) c.self.view_is
