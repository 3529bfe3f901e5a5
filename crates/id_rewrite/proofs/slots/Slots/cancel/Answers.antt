use Rattle.std.proofs.Common.{◌∙◌, ap}
use Rattle.id_rewrite.specs.Slots.{Open}
use Rattle.id_rewrite.specs.Tables.{with_cancelled}
use Rattle.id_rewrite.proofs.Slotting.{absent_in, marked_at, marked_rising, none_marked}
use Rattle.id_rewrite.proofs.slots.Slots.cancel.Goals as goal

pub invariant_of-self : goal.invariant_of-self
invariant_of-self c =
    let at = c.in-Some.ensures.found in
    marked_rising 2 c.self.inside.next c.args.n c.self.inside.slots.items c.deref.result.now c.in-Some.at c.index_mut.result.now c.self.invariant c.deref.ensures.value at.0 at.1 c.index_mut.ensures.value c.mark.new.slot c.mark.ensures.number

pub returns-in-Some-clause-requests : goal.returns-in-Some-clause-requests
returns-in-Some-clause-requests c =
    let at = c.in-Some.ensures.found in
    marked_at 2 c.self.inside.next c.args.n c.self.inside.slots.items c.deref.result.now c.in-Some.at c.index_mut.result.now c.self.invariant c.deref.ensures.value at.0 at.1 c.index_mut.ensures.value c.mark.new.slot c.mark.ensures.number c.mark.ensures.pending
    ∙ ap (λ (o : Open). with_cancelled c.args.n o.requests) c.self.view_is

pub returns-in_default-clause-requests : goal.returns-in_default-clause-requests
returns-in_default-clause-requests c =
    none_marked c.args.n c.args.self.now.requests (absent_in c.args.n c.self.inside.slots.items c.deref.result.now c.args.self.now.requests c.deref.ensures.value (ap (λ (o : Open). o.requests) c.self.view_is) c.in_default.ensures.none)
