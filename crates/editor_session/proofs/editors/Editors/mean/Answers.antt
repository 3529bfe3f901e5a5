use Rattle.std.proofs.Common.{◌≡◌, refl, sym, subst, None, true}
use Rattle.event_model.specs.Phases.{is_linked}
use Rattle.editor_session.specs.declared.session.Session.{Session}
use Rattle.number_table.specs.Numbers.{IsAt, held}
use Rattle.editor_session.specs.Sessions.{meaning}
use Rattle.editor_session.proofs.Places.{kept_linked, kept_order, kept_set, lost_stays}
use Rattle.editor_session.proofs.editors.Editors.mean.Goals as goal

pub invariant_of-self : goal.invariant_of-self
invariant_of-self c =
    kept_order c.self.inside.count c.self.inside.linked.items c.args.self.now c.self.view_is c.self.invariant.0 c.self.invariant.1 c.args.e c.in-Some.at c.requires (subst (λ ys. IsAt ys c.args.e c.in-Some.at) c.deref.ensures.value c.in-Some.ensures.found) c.index_mut-kept.result.now c.index_mut-kept.ensures.value (record { number = c.index_mut-kept.result.now.number; item = c.mean.new.self }) refl (subst (λ (s : Session). is_linked s.phase ≡ true) (sym c.mean.ensures) (kept_linked c.self.inside.count c.self.inside.linked.items c.args.self.now c.self.view_is c.self.invariant.0 c.self.invariant.1 c.args.e c.in-Some.at c.requires (subst (λ ys. IsAt ys c.args.e c.in-Some.at) c.deref.ensures.value c.in-Some.ensures.found) c.index_mut-kept.result.now c.index_mut-kept.ensures.value))

pub returns-in-Some : goal.returns-in-Some
returns-in-Some c =
    kept_set c.self.inside.count c.self.inside.linked.items c.args.self.now c.self.view_is c.self.invariant.0 c.self.invariant.1 c.args.e c.in-Some.at c.requires (subst (λ ys. IsAt ys c.args.e c.in-Some.at) c.deref.ensures.value c.in-Some.ensures.found) c.index_mut-kept.result.now c.index_mut-kept.ensures.value (record { number = c.index_mut-kept.result.now.number; item = c.mean.new.self }) (meaning c.args.server) refl c.mean.ensures

pub returns-in_default : goal.returns-in_default
returns-in_default c =
    lost_stays c.self.inside.count c.self.inside.linked.items c.args.self.now c.self.view_is c.self.invariant.0 c.args.e c.requires (subst (λ ys. held c.args.e ys ≡ None) c.deref.ensures.value c.in_default.ensures.none) (meaning c.args.server)
