use Rattle.std.proofs.Common.{◌∙◌, ap}
use Rattle.id_rewrite.specs.Slots.{Open}
use Rattle.id_rewrite.specs.Tables.{pending_of, without}
use Rattle.id_rewrite.proofs.Slotting.{absent_in, emptied_at, kept_rising, none_taken, pending_at, within_at}
use Rattle.id_rewrite.proofs.slots.Slots.take.Goals as goal

pub returns-in_err-at-clause-requests : goal.returns-in_err-at-clause-requests
returns-in_err-at-clause-requests c =
    none_taken c.args.n c.args.self.now.requests (absent_in c.args.n c.self.inside.slots.items c.deref.result.now c.args.self.now.requests c.deref.ensures.value (ap (λ (o : Open). o.requests) c.self.view_is) c.in_err-at.ensures.none)

pub returns-in_err-pending-clause-value : goal.returns-in_err-pending-clause-value
returns-in_err-pending-clause-value c =
    let at = c.in_ok-at.ensures.found in
    c.from_residual-in_err-pending.ensures ∙ (c.in_err-pending.ensures.value ∙ (pending_at 2 c.self.inside.next c.args.n c.self.inside.slots.items c.deref.result.now c.in_ok-at.at c.index_mut.result.now c.self.invariant c.deref.ensures.value at.0 at.1 c.index_mut.ensures.value
    ∙ ap (λ (o : Open). pending_of c.args.n o.requests) c.self.view_is))

pub returns-in_err-pending-clause-requests : goal.returns-in_err-pending-clause-requests
returns-in_err-pending-clause-requests c =
    let at = c.in_ok-at.ensures.found in
    emptied_at 2 c.self.inside.next c.args.n c.self.inside.slots.items c.deref.result.now c.in_ok-at.at c.index_mut.result.now c.self.invariant c.deref.ensures.value at.0 at.1 c.index_mut.ensures.value c.take.new.self c.take.ensures.after
    ∙ ap (λ (o : Open). without c.args.n o.requests) c.self.view_is

pub invariant_of-self-2 : goal.invariant_of-self-2
invariant_of-self-2 c =
    let at = c.in_ok-at.ensures.found in
    kept_rising 2 c.self.inside.next c.self.inside.slots.items c.in_ok-at.at c.index_mut.result.now c.take.new.self c.self.invariant (within_at c.self.inside.slots.items c.deref.result.now c.in_ok-at.at c.deref.ensures.value at.0) c.index_mut.ensures.value

pub returns-clause-value : goal.returns-clause-value
returns-clause-value c =
    let at = c.in_ok-at.ensures.found in
    c.in_ok-pending.ensures.value ∙ (pending_at 2 c.self.inside.next c.args.n c.self.inside.slots.items c.deref.result.now c.in_ok-at.at c.index_mut.result.now c.self.invariant c.deref.ensures.value at.0 at.1 c.index_mut.ensures.value
    ∙ ap (λ (o : Open). pending_of c.args.n o.requests) c.self.view_is)

pub returns-clause-requests : goal.returns-clause-requests
returns-clause-requests c =
    let at = c.in_ok-at.ensures.found in
    c.emptied.ensures.requests ∙ (emptied_at 2 c.self.inside.next c.args.n c.self.inside.slots.items c.deref.result.now c.in_ok-at.at c.index_mut.result.now c.self.invariant c.deref.ensures.value at.0 at.1 c.index_mut.ensures.value c.take.new.self c.take.ensures.after
    ∙ ap (λ (o : Open). without c.args.n o.requests) c.self.view_is)
