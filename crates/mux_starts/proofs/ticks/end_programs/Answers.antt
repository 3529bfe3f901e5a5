-- Those of a list are to end.
use Rattle.std.proofs.Common.{◌∙◌}
use Rattle.event_model.specs.Row.{send}
use Rattle.event_model.proofs.Turns.{does_knowing, does_next, does_whole}
use Rattle.mux_history.specs.declared.out.Out.TheVariants.{EndServer}
use Rattle.mux_starts.proofs.Ticking.{program_next}
use Rattle.mux_starts.proofs.ticks.end_programs.Goals as goal

pub loop-s-preserved : goal.loop-s-preserved
loop-s-preserved c = record {
  requests = c.end_program.ensures.requests ∙ c.loop-s.invariant.requests;
  versions = c.end_program.ensures.versions ∙ c.loop-s.invariant.versions;
  does = λ settings base stopping. does_knowing (λ k.
      let d = c.loop-s.invariant.does settings base stopping in
      does_next (λ s. send (EndServer s)) c.args.starts.now c.loop-s.s-index 0 c.loop-s-test.true d
      (c.in_ok-end_program.ensures.does settings base (program_next base c.args.outs.now c.loop-s.outs c.args.starts.now c.loop-s.s-index 0 stopping c.loop-s-test.true (d.done k).outs)));
}

pub returns-clause-does : goal.returns-clause-does
returns-clause-does c = λ settings base stopping. does_whole (λ s. send (EndServer s)) c.args.starts.now c.loop-s.s-index c.loop-s-test.false (c.loop-s.invariant.does settings base stopping)
