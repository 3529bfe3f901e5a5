-- What is open at editors fails.
use Rattle.std.proofs.Common.{get_or, ◌∙◌}
use Rattle.event_model.proofs.Turns.{does_knowing, does_next, does_whole}
use Rattle.group_rows.specs.StopRows.{refuse_open}
use Rattle.mux_editors.proofs.Halting.{refusing_next}
use Rattle.mux_editors.proofs.stops.refuse_each.Goals as goal

pub loop-e-preserved : goal.loop-e-preserved
loop-e-preserved c = record {
  requests = c.refuse_open.ensures.requests ∙ c.loop-e.invariant.requests;
  versions = c.refuse_open.ensures.versions ∙ c.loop-e.invariant.versions;
  lasts = c.refuse_open.ensures.lasts ∙ c.loop-e.invariant.lasts;
  editors_are = c.refuse_open.ensures.editors ∙ c.loop-e.invariant.editors_are;
  refusing = λ settings before base forwarded r st.
      let here = c.loop-e.invariant.refusing settings before base forwarded r st in
      let one = (c.loop-e.invariant.does settings before base forwarded r).done st in
      refusing_next settings c.loop-e.tables c.refuse_open.new.tables before base c.loop-e.outs c.refuse_open.new.outs (get_or c.args.editors.now c.loop-e.e-index 0) here one.stands (c.in_ok-refuse_open.ensures.does settings before base forwarded here);
  does = λ settings before base forwarded r. does_knowing (λ st.
      does_next (refuse_open settings before) c.args.editors.now c.loop-e.e-index 0 c.loop-e-test.true (c.loop-e.invariant.does settings before base forwarded r)
      (c.in_ok-refuse_open.ensures.does settings before base forwarded (c.loop-e.invariant.refusing settings before base forwarded r st)));
  documents = λ settings owed base ds. c.in_ok-refuse_open.ensures.documents settings owed base (c.loop-e.invariant.documents settings owed base ds);
}

pub returns-clause-does : goal.returns-clause-does
returns-clause-does c = λ settings before base forwarded r. does_whole (refuse_open settings before) c.args.editors.now c.loop-e.e-index c.loop-e-test.false (c.loop-e.invariant.does settings before base forwarded r)

pub returns-clause-documents : goal.returns-clause-documents
returns-clause-documents c = λ settings owed base ds. c.loop-e.invariant.documents settings owed base ds
