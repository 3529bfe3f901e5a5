use Rattle.lane_desk.specs.Desks.{TooMany}
use Rattle.lane_desk.proofs.Decks.{kept_fail}
use Rattle.lane_desk.proofs.deck.Desk.fail.Goals as goal

pub invariant_of-self : goal.invariant_of-self
invariant_of-self g c =
    let i = c.self.invariant in
    let d = c.self.inside in
    (kept_fail g.K.Steps.stands (TooMany g.K.Steps.stands g.K.Steps.allows g.K.Steps.passes) g.N.Naming.editors g.N.Naming.servers d.spent d.last d.why d.core d.ends.items d.seats i.0, i.1, i.2, i.3, i.4, i.5, i.6, (λ e. absurd cc))
