-- What is open under some ids fails.
use Rattle.std.proofs.Common.{◌≡◌, get_or, refl, subst, sym, ◌∙◌}
use Rattle.event_model.specs.Does.{Does}
use Rattle.event_model.proofs.Turns.{does_next, does_nothing, does_whole}
use Rattle.mux_tables.specs.Stands.{Stands}
use Rattle.mux_turns.specs.Initials.{IsNamed, refuse_id}
use Rattle.mux_turns.proofs.Failing.{named_at}
use Rattle.mux_turns.proofs.Refusing.{informs_none, informs_then}
use Rattle.mux_turns.proofs.held.refuse_ids.Goals as goal

pub loop-id-init : goal.loop-id-init
loop-id-init c = record {
  requests = refl;
  versions = refl;
  lasts = refl;
  editors = refl;
  same = refl;
  told = informs_none c.args.outs.now;
  does = λ settings base named. does_nothing;
  documents = λ settings owed base ds. ds;
}

pub loop-id-preserved : goal.loop-id-preserved
loop-id-preserved c = record {
  requests = c.refuse_id.ensures.requests ∙ c.loop-id.invariant.requests;
  versions = c.refuse_id.ensures.versions ∙ c.loop-id.invariant.versions;
  lasts = c.refuse_id.ensures.lasts ∙ c.loop-id.invariant.lasts;
  editors = c.refuse_id.ensures.editors ∙ c.loop-id.invariant.editors;
  same = c.refuse_id.ensures.same ∙ c.loop-id.invariant.same;
  told = informs_then c.args.outs.now c.loop-id.outs c.refuse_id.new.outs c.loop-id.invariant.told c.in_ok-refuse_id.ensures.told;
  does = λ settings base named.
      let e = c.args.e in
      let ids = c.args.ids.now in
      let i = c.loop-id.id-index in
      let id = c.id-item.result in
      let is : c.bytes.result.now ≡ get_or ids i id = c.bytes.ensures ∙ c.id-item.is in
      does_next (refuse_id e) ids i id c.loop-id-test.true (c.loop-id.invariant.does settings base named)
      (subst (λ w. Does (λ t events. Stands settings t events) (refuse_id e w) base c.loop-id.tables c.loop-id.outs c.refuse_id.new.tables c.refuse_id.new.outs) is
      (c.in_ok-refuse_id.ensures.does settings base (subst IsNamed (sym is) (named_at ids i id c.loop-id-test.true named))));
  documents = λ settings owed base ds. c.in_ok-refuse_id.ensures.documents settings owed base (c.loop-id.invariant.documents settings owed base ds);
}

pub returns-clause-does : goal.returns-clause-does
returns-clause-does c = λ settings base named. does_whole (refuse_id c.args.e) c.args.ids.now c.loop-id.id-index c.loop-id-test.false (c.loop-id.invariant.does settings base named)

pub returns-clause-documents : goal.returns-clause-documents
returns-clause-documents c = λ settings owed base ds. c.loop-id.invariant.documents settings owed base ds
