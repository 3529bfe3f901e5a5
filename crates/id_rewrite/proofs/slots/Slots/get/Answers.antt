use Rattle.std.proofs.Common.{◌∙◌, ap}
use Rattle.id_rewrite.specs.Slots.{Open}
use Rattle.id_rewrite.specs.Tables.{pending_of}
use Rattle.id_rewrite.proofs.Slotting.{pending_at}
use Rattle.id_rewrite.proofs.slots.Slots.get.Goals as goal

pub returns : goal.returns
returns c =
    let at = c.in_ok-at.ensures.found in
    record {
      value = c.as_ref.ensures.value ∙ (pending_at 2 c.self.inside.next c.args.n c.self.inside.slots.items c.deref.result.now c.in_ok-at.at c.index.result.now c.self.invariant c.deref.ensures.value at.0 at.1 c.index.ensures
          ∙ ap (λ (o : Open). pending_of c.args.n o.requests) c.self.view_is);
    }
