use Rattle.std.proofs.Common.{◌≡◌, ap, sym, subst, ◌∙◌, None}
use Rattle.number_table.specs.Numbers.{IsAt, Rise, held, spread}
use Rattle.editor_session.specs.Kept.{AreLinked}
use Rattle.editor_session.specs.Sessions.{gone}
use Rattle.editor_session.proofs.Places.{kept_left, left_order, lost_left}
use Rattle.editor_session.proofs.editors.Editors.leave.Goals as goal

pub invariant_of-self : goal.invariant_of-self
invariant_of-self c =
    subst (λ ys. Rise 0 c.self.inside.count ys × AreLinked ys) (sym c.forget.ensures) (left_order c.self.inside.count c.self.inside.linked.items c.args.self.now c.self.view_is c.self.invariant.0 c.self.invariant.1 c.in-Some.at)

pub returns-in-Some : goal.returns-in-Some
returns-in-Some c =
    ap (spread gone 0 c.self.inside.count) c.forget.ensures ∙ kept_left c.self.inside.count c.self.inside.linked.items c.args.self.now c.self.view_is c.self.invariant.0 c.args.e c.in-Some.at (subst (λ ys. IsAt ys c.args.e c.in-Some.at) c.deref.ensures.value c.in-Some.ensures.found)

pub returns-in_default : goal.returns-in_default
returns-in_default c =
    lost_left c.self.inside.count c.self.inside.linked.items c.args.self.now c.self.view_is c.self.invariant.0 c.args.e c.requires (subst (λ ys. held c.args.e ys ≡ None) c.deref.ensures.value c.in_default.ensures.none)
