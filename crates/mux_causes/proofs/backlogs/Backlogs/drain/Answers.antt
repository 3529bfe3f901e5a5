-- Bytes were written.
use Rattle.std.proofs.Common.{◌≡◌, ◌-◌, refl, subst, sym, ap, ◌∙◌, None, rules}
use Rattle.std.specs.Prelude.{slice_set}
use Rattle.event_model.specs.Event.{with_cause}
use Rattle.mux_history.specs.declared.cause.Cause.TheVariants.{Drained}
use Rattle.number_table.specs.Numbers.{IsAt, held}
use Rattle.number_table.proofs.Places as places
use Rattle.mux_causes.specs.Backlogs.{BacklogsStand}
use Rattle.mux_causes.proofs.Counting.{drained_count, drained_nowhere}
use Rattle.mux_causes.proofs.Linked.{nothing_owed}
use Rattle.mux_causes.proofs.backlogs.Backlogs.drain.Goals as goal

pub invariant_of-self : goal.invariant_of-self
invariant_of-self c =
    let at = (subst (λ ys. IsAt ys c.args.e c.in-Some.at) c.deref.ensures.value c.in-Some.ensures.found) in
    places.kept_rise 0 c.self.inside.count c.self.inside.linked.items c.args.self.now c.self.view_is c.self.invariant c.args.e c.in-Some.at (places.kept_inside 0 c.self.inside.count c.self.inside.linked.items c.args.self.now c.self.view_is c.self.invariant c.args.e c.in-Some.at at c.index_mut-kept.result.now c.index_mut-kept.ensures.value) at c.index_mut-kept.result.now c.index_mut-kept.ensures.value _ refl

pub returns-in-Some : goal.returns-in-Some
returns-in-Some c = λ events s.
    let at = (subst (λ ys. IsAt ys c.args.e c.in-Some.at) c.deref.ensures.value c.in-Some.ensures.found) in
    let rest : c.saturating_sub-kept.result ≡ c.index_mut-kept.result.now.item - c.args.bytes = search rules in
    subst (λ xs. BacklogsStand xs (with_cause events (Drained c.args.e c.args.bytes)))
    (sym (places.kept_set 0 c.self.inside.count c.self.inside.linked.items c.args.self.now c.self.view_is c.self.invariant c.args.e c.in-Some.at (places.kept_inside 0 c.self.inside.count c.self.inside.linked.items c.args.self.now c.self.view_is c.self.invariant c.args.e c.in-Some.at at c.index_mut-kept.result.now c.index_mut-kept.ensures.value) at c.index_mut-kept.result.now c.index_mut-kept.ensures.value _ refl ∙ ap (λ n. slice_set c.args.self.now c.args.e n) rest))
    (drained_count c.args.self.now events c.args.e c.index_mut-kept.result.now.item c.args.bytes (places.kept_get 0 c.self.inside.count c.self.inside.linked.items c.args.self.now c.self.view_is c.self.invariant c.args.e c.in-Some.at (places.kept_inside 0 c.self.inside.count c.self.inside.linked.items c.args.self.now c.self.view_is c.self.invariant c.args.e c.in-Some.at at c.index_mut-kept.result.now c.index_mut-kept.ensures.value) at c.index_mut-kept.result.now c.index_mut-kept.ensures.value) s)

pub returns-in_default : goal.returns-in_default
returns-in_default c = λ events s. drained_nowhere c.args.self.now events c.args.e c.args.bytes (nothing_owed c.self.inside.count c.self.inside.linked.items c.args.self.now c.self.view_is c.self.invariant c.args.e (subst (λ ys. held c.args.e ys ≡ None) c.deref.ensures.value c.in_default.ensures.none)) s
