use Rattle.std.proofs.Common.{◌≡◌, refl, sym, subst, ap, ◌∙◌, None, true, false}
use Rattle.std.proofs.lemmas.Result.{on_ok_weaker}
use Rattle.event_model.specs.Phases.{is_linked}
use Rattle.number_index.specs.Numbers.{Changes}
use Rattle.number_table.specs.Numbers.{IsAt, held}
use Rattle.editor_session.specs.declared.session.Session.{Session}
use Rattle.editor_session.specs.Sessions.{is_gone, noted_by, session_of, with_session}
use Rattle.editor_session.proofs.Places.{kept_linked, kept_order, kept_put, kept_session, lost, lost_left}
use Rattle.editor_session.proofs.editors.Editors.show.Goals as goal

pub invariant_of-self : goal.invariant_of-self
invariant_of-self c =
    kept_order c.self.inside.count c.self.inside.linked.items c.args.self.now c.self.view_is c.self.invariant.0 c.self.invariant.1 c.args.e c.in-Some.at c.requires (subst (λ ys. IsAt ys c.args.e c.in-Some.at) c.deref.ensures.value c.in-Some.ensures.found) c.index_mut-kept.result.now c.index_mut-kept.ensures.value (record { number = c.index_mut-kept.result.now.number; item = c.show.new.self }) refl
    (subst (λ (s : Session). is_linked s.phase ≡ true) (sym c.show.ensures.rest) (kept_linked c.self.inside.count c.self.inside.linked.items c.args.self.now c.self.view_is c.self.invariant.0 c.self.invariant.1 c.args.e c.in-Some.at c.requires (subst (λ ys. IsAt ys c.args.e c.in-Some.at) c.deref.ensures.value c.in-Some.ensures.found) c.index_mut-kept.result.now c.index_mut-kept.ensures.value))

pub returns-in_default : goal.returns-in_default
returns-in_default c =
    let none = subst (λ ys. held c.args.e ys ≡ None) c.deref.ensures.value c.in_default.ensures.none in
    let out = lost c.self.inside.count c.self.inside.linked.items c.args.self.now c.self.view_is c.self.invariant.0 c.args.e c.requires none in
    record {
      session = session_of c.args.self.now c.args.e;
      set = lost_left c.self.inside.count c.self.inside.linked.items c.args.self.now c.self.view_is c.self.invariant.0 c.args.e c.requires none ∙ ap (with_session c.args.self.now c.args.e) (sym out);
      rest = refl;
      full = λ there. absurd (let e : true ≡ false = sym (ap (λ (s : Session). is_gone s.phase) out) ∙ there in cc);
    }

pub returns : goal.returns
returns c =
    let at = subst (λ ys. IsAt ys c.args.e c.in-Some.at) c.deref.ensures.value c.in-Some.ensures.found in
    let same = kept_session c.self.inside.count c.self.inside.linked.items c.args.self.now c.self.view_is c.self.invariant.0 c.self.invariant.1 c.args.e c.in-Some.at c.requires at c.index_mut-kept.result.now c.index_mut-kept.ensures.value in
    on_ok_weaker c.show.result
    (λ changes. record {
      session = c.show.new.self;
      set = kept_put c.self.inside.count c.self.inside.linked.items c.args.self.now c.self.view_is c.self.invariant.0 c.self.invariant.1 c.args.e c.in-Some.at c.requires at c.index_mut-kept.result.now c.index_mut-kept.ensures.value (record { number = c.index_mut-kept.result.now.number; item = c.show.new.self }) refl;
      rest = c.show.ensures.rest ∙ ap (λ (s : Session). record s { full = c.show.new.self.full }) same;
      full = λ there. subst (λ (s : Session). Changes c.args.uri.now (noted_by c.args.empty) s.full c.show.new.self.full) same changes;
    })
    c.show.ensures.full
