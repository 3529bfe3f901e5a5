use Rattle.std.proofs.Common.{rules, ◌∙◌, sym, ap, subst}
use Rattle.std.proofs.lemmas.Fn.{filter_same}
use Rattle.id_rewrite.specs.Slots.{Open, RiseSlots, live}
use Rattle.id_rewrite.proofs.Slotting.{full_live, full_rising, is_full}
use Rattle.id_rewrite.proofs.slots.Slots.emptied.Goals as goal

pub invariant_of-self : goal.invariant_of-self
invariant_of-self c =
    let kept = filter_same _ is_full _ (λ x b f' k. search rules) _ _ c.retain.ensures.filtered in
    subst (RiseSlots 2 c.self.inside.next) (sym kept) (full_rising 2 c.self.inside.next c.self.inside.slots.items c.self.invariant)

pub returns-then-self-len-clause-requests : goal.returns-then-self-len-clause-requests
returns-then-self-len-clause-requests c =
    let kept = filter_same _ is_full _ (λ x b f' k. search rules) _ _ c.retain.ensures.filtered in
    ap live kept ∙ (full_live c.self.inside.slots.items ∙ ap (λ (o : Open). o.requests) c.self.view_is)
