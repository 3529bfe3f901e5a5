-- One editor more.
use Rattle.std.proofs.Common.{◌+◌, subst, sym, ap, ◌∙◌}
use Rattle.event_model.specs.Event.{with_cause}
use Rattle.mux_history.specs.declared.cause.Cause.TheVariants.{Joined}
use Rattle.number_table.specs.Numbers.{Rise, spread}
use Rattle.number_table.proofs.Places as places
use Rattle.mux_causes.specs.Backlogs.{BacklogsStand}
use Rattle.mux_causes.proofs.Counting.{joined_count, summed}
use Rattle.mux_causes.proofs.backlogs.Backlogs.join.Goals as goal

pub invariant_of-self-2 : goal.invariant_of-self-2
invariant_of-self-2 c =
    subst (λ m. Rise 0 m c.push.new.self.items) (sym (summed c.checked_add.result _ _ _ c.checked_add.ensures c.in_ok-next.ensures.ok_part)) (subst (λ ys. Rise 0 (c.self.inside.count + 1) ys) (sym c.in_ok-push.ensures.items) (places.comes_rise 0 c.self.inside.count c.self.inside.linked.items c.args.self.now c.self.view_is c.self.invariant c.self.inside.count 0 (sym (places.length_is 0 c.self.inside.count c.self.inside.linked.items c.args.self.now c.self.view_is c.self.invariant))))

pub returns : goal.returns
returns c = λ events s.
    subst (λ xs. BacklogsStand xs (with_cause events (Joined c.args.e))) (sym (ap (λ m. spread 0 0 m c.push.new.self.items) (summed c.checked_add.result _ _ _ c.checked_add.ensures c.in_ok-next.ensures.ok_part)
    ∙ (ap (spread 0 0 (c.self.inside.count + 1)) c.in_ok-push.ensures.items ∙ places.one_comes 0 c.self.inside.count c.self.inside.linked.items c.args.self.now c.self.view_is c.self.invariant c.self.inside.count 0 (sym (places.length_is 0 c.self.inside.count c.self.inside.linked.items c.args.self.now c.self.view_is c.self.invariant)))))
    (joined_count c.args.self.now events c.args.e s)
