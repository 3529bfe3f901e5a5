-- An editor's link ended.
use Rattle.std.proofs.Common.{◌≡◌, subst, sym, ap, ◌∙◌, None}
use Rattle.event_model.specs.Event.{with_cause}
use Rattle.mux_history.specs.declared.cause.Cause.TheVariants.{EditorGone}
use Rattle.number_table.specs.Numbers.{IsAt, Rise, held, spread}
use Rattle.number_table.proofs.Places as places
use Rattle.mux_causes.specs.Backlogs.{BacklogsStand}
use Rattle.mux_causes.proofs.Counting.{gone_count, gone_nowhere}
use Rattle.mux_causes.proofs.Linked.{nothing_owed}
use Rattle.mux_causes.proofs.backlogs.Backlogs.leave.Goals as goal

pub invariant_of-self : goal.invariant_of-self
invariant_of-self c = subst (λ ys. Rise 0 c.self.inside.count ys) (sym c.forget.ensures) (places.left_rise 0 c.self.inside.count c.self.inside.linked.items c.args.self.now c.self.view_is c.self.invariant c.in-Some.at)

pub returns-in-Some : goal.returns-in-Some
returns-in-Some c = λ events why s.
    subst (λ xs. BacklogsStand xs (with_cause events (EditorGone c.args.e why))) (sym (ap (spread 0 0 c.self.inside.count) c.forget.ensures ∙ places.kept_left 0 c.self.inside.count c.self.inside.linked.items c.args.self.now c.self.view_is c.self.invariant c.args.e c.in-Some.at (subst (λ ys. IsAt ys c.args.e c.in-Some.at) c.deref.ensures.value c.in-Some.ensures.found)))
    (gone_count c.args.self.now events c.args.e why s)

pub returns-in_default : goal.returns-in_default
returns-in_default c = λ events why s. gone_nowhere c.args.self.now events c.args.e why (nothing_owed c.self.inside.count c.self.inside.linked.items c.args.self.now c.self.view_is c.self.invariant c.args.e (subst (λ ys. held c.args.e ys ≡ None) c.deref.ensures.value c.in_default.ensures.none)) s
