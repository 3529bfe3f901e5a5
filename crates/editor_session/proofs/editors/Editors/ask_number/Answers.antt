use Rattle.std.proofs.Common.{◌≡◌, refl, sym, subst, ap, ◌∙◌, None, true, if◌then◌else◌}
use Rattle.event_model.specs.Phases.{is_linked}
use Rattle.editor_session.specs.declared.session.Session.{Session}
use Rattle.number_table.specs.Numbers.{IsAt, held}
use Rattle.editor_session.specs.Sessions.{asked, next_ask, number_of, session_of}
use Rattle.editor_session.proofs.Places.{asked_linked, kept_linked, kept_order, kept_session, kept_set, kept_stays, lost, lost_stays}
use Rattle.editor_session.proofs.editors.Editors.ask_number.Goals as goal

pub invariant_of-self : goal.invariant_of-self
invariant_of-self c =
    kept_order c.self.inside.count c.self.inside.linked.items c.args.self.now c.self.view_is c.self.invariant.0 c.self.invariant.1 c.args.e c.in-Some.at c.requires (subst (λ ys. IsAt ys c.args.e c.in-Some.at) c.deref.ensures.value c.in-Some.ensures.found) c.index_mut-kept.result.now c.index_mut-kept.ensures.value (record { number = c.index_mut-kept.result.now.number; item = c.ask.new.self }) refl (subst (λ (s : Session). is_linked s.phase ≡ true) (sym c.ask.ensures.kept) (asked_linked c.index_mut-kept.result.now.item (kept_linked c.self.inside.count c.self.inside.linked.items c.args.self.now c.self.view_is c.self.invariant.0 c.self.invariant.1 c.args.e c.in-Some.at c.requires (subst (λ ys. IsAt ys c.args.e c.in-Some.at) c.deref.ensures.value c.in-Some.ensures.found) c.index_mut-kept.result.now c.index_mut-kept.ensures.value)))

pub returns-in-Some-clause-number : goal.returns-in-Some-clause-number
returns-in-Some-clause-number c =
    c.ask.ensures.number ∙ (ap number_of (kept_session c.self.inside.count c.self.inside.linked.items c.args.self.now c.self.view_is c.self.invariant.0 c.self.invariant.1 c.args.e c.in-Some.at c.requires (subst (λ ys. IsAt ys c.args.e c.in-Some.at) c.deref.ensures.value c.in-Some.ensures.found) c.index_mut-kept.result.now c.index_mut-kept.ensures.value) ∙ sym (ap (λ b. if b then None else number_of (session_of c.args.self.now c.args.e)) (kept_stays c.self.inside.count c.self.inside.linked.items c.args.self.now c.self.view_is c.self.invariant.0 c.self.invariant.1 c.args.e c.in-Some.at c.requires (subst (λ ys. IsAt ys c.args.e c.in-Some.at) c.deref.ensures.value c.in-Some.ensures.found) c.index_mut-kept.result.now c.index_mut-kept.ensures.value)))

pub returns-in-Some-clause-kept : goal.returns-in-Some-clause-kept
returns-in-Some-clause-kept c =
    kept_set c.self.inside.count c.self.inside.linked.items c.args.self.now c.self.view_is c.self.invariant.0 c.self.invariant.1 c.args.e c.in-Some.at c.requires (subst (λ ys. IsAt ys c.args.e c.in-Some.at) c.deref.ensures.value c.in-Some.ensures.found) c.index_mut-kept.result.now c.index_mut-kept.ensures.value (record { number = c.index_mut-kept.result.now.number; item = c.ask.new.self }) asked refl c.ask.ensures.kept

pub returns-in-None-clause-number : goal.returns-in-None-clause-number
returns-in-None-clause-number c =
    sym (ap next_ask (lost c.self.inside.count c.self.inside.linked.items c.args.self.now c.self.view_is c.self.invariant.0 c.args.e c.requires (subst (λ ys. held c.args.e ys ≡ None) c.deref.ensures.value c.in-None.ensures.none)))

pub returns-in-None-clause-kept : goal.returns-in-None-clause-kept
returns-in-None-clause-kept c =
    lost_stays c.self.inside.count c.self.inside.linked.items c.args.self.now c.self.view_is c.self.invariant.0 c.args.e c.requires (subst (λ ys. held c.args.e ys ≡ None) c.deref.ensures.value c.in-None.ensures.none) asked
