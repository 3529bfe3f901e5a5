use Rattle.std.proofs.Common.{◌≡◌, refl, sym, subst, ap, ◌∙◌, None, get_or}
use Rattle.std.proofs.lemmas.List.{get_or_default}
use Rattle.number_table.specs.Numbers.{IsAt, Rise, held, spread}
use Rattle.editor_session.specs.Kept.{AreLinked}
use Rattle.editor_session.specs.Sessions.{gone, in_phase}
use Rattle.editor_session.proofs.Places.{gone_set, is_there_still, kept_left, kept_order, kept_set, left_order, lost_stays, none_such, set_there}
use Rattle.editor_session.proofs.editors.Editors.set.Goals as goal

pub invariant_of-self : goal.invariant_of-self
invariant_of-self c =
    subst (λ ys. Rise 0 c.self.inside.count ys × AreLinked ys) (sym c.forget.ensures) (left_order c.self.inside.count c.self.inside.linked.items c.args.self.now c.self.view_is c.self.invariant.0 c.self.invariant.1 c.in-Some.at)

pub returns-then-is_gone : goal.returns-then-is_gone
returns-then-is_gone c =
    let at = (subst (λ ys. IsAt ys c.args.e c.in-Some.at) c.deref.ensures.value c.in-Some.ensures.found) in
    ap (spread gone 0 c.self.inside.count) c.forget.ensures ∙ (kept_left c.self.inside.count c.self.inside.linked.items c.args.self.now c.self.view_is c.self.invariant.0 c.args.e c.in-Some.at at
    ∙ gone_set c.self.inside.count c.self.inside.linked.items c.args.self.now c.self.view_is c.self.invariant.0 c.self.invariant.1 c.args.e c.in-Some.at c.requires.number at (get_or c.self.inside.linked.items c.in-Some.at none_such) (get_or_default c.self.inside.linked.items c.in-Some.at none_such _ at.inside) c.args.phase (sym c.is_gone.ensures ∙ c.if-is_gone.true))

pub returns-in_default : goal.returns-in_default
returns-in_default c =
    lost_stays c.self.inside.count c.self.inside.linked.items c.args.self.now c.self.view_is c.self.invariant.0 c.args.e c.requires.number (subst (λ ys. held c.args.e ys ≡ None) c.deref.ensures.value c.in_default.ensures.none) (in_phase c.args.phase)

pub invariant_of-self-2 : goal.invariant_of-self-2
invariant_of-self-2 c =
    kept_order c.self.inside.count c.self.inside.linked.items c.args.self.now c.self.view_is c.self.invariant.0 c.self.invariant.1 c.args.e c.in-Some.at c.requires.number (subst (λ ys. IsAt ys c.args.e c.in-Some.at) c.deref.ensures.value c.in-Some.ensures.found) c.index_mut-kept.result.now c.index_mut-kept.ensures.value _ refl (is_there_still c.args.phase (sym c.is_gone.ensures ∙ c.if-is_gone.false) c.requires.joined)

pub returns : goal.returns
returns c =
    kept_set c.self.inside.count c.self.inside.linked.items c.args.self.now c.self.view_is c.self.invariant.0 c.self.invariant.1 c.args.e c.in-Some.at c.requires.number (subst (λ ys. IsAt ys c.args.e c.in-Some.at) c.deref.ensures.value c.in-Some.ensures.found) c.index_mut-kept.result.now c.index_mut-kept.ensures.value _ (in_phase c.args.phase) refl (set_there c.args.phase c.index_mut-kept.result.now.item (sym c.is_gone.ensures ∙ c.if-is_gone.false))
