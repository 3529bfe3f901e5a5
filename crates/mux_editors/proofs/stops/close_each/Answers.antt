-- The links of editors are to be ended.
use Rattle.std.proofs.Common.{◌∙◌}
use Rattle.event_model.specs.Row.{send}
use Rattle.event_model.proofs.Turns.{does_next, does_whole}
use Rattle.mux_history.specs.declared.out.Out.TheVariants.{CloseEditor}
use Rattle.mux_editors.proofs.Halting.{halts_closed}
use Rattle.mux_editors.proofs.stops.close_each.Goals as goal

pub loop-e-preserved : goal.loop-e-preserved
loop-e-preserved c = record {
  count = c.in_ok-close.ensures.count ∙ c.loop-e.invariant.count;
  requests = c.in_ok-close.ensures.requests ∙ c.loop-e.invariant.requests;
  versions = c.in_ok-close.ensures.versions ∙ c.loop-e.invariant.versions;
  lasts = c.in_ok-close.ensures.lasts ∙ c.loop-e.invariant.lasts;
  does = λ settings base. does_next (λ n. send (CloseEditor n)) c.args.editors.now c.loop-e.e-index 0 c.loop-e-test.true (c.loop-e.invariant.does settings base)
      (halts_closed settings c.loop-e.tables c.close.new.self base c.loop-e.outs c.close.new.outs (c.in_ok-close.ensures.does settings base) (λ owing st ds. c.in_ok-close.ensures.owing settings owing base st ds));
}

pub returns-clause-does : goal.returns-clause-does
returns-clause-does c = λ settings base. does_whole (λ n. send (CloseEditor n)) c.args.editors.now c.loop-e.e-index c.loop-e-test.false (c.loop-e.invariant.does settings base)
