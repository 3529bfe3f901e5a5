-- Editors are turned out.
use Rattle.std.proofs.Common.{get_or, subst, sym, ◌∙◌}
use Rattle.event_model.proofs.Turns.{does_knowing, does_next, does_whole}
use Rattle.group_rows.specs.ExitRows.{turn_out}
use Rattle.mux_exits.proofs.Turning.{adds_row, asking_on, housed_on}
use Rattle.mux_starts.specs.Refusing.{IsUnready}
use Rattle.mux_starts.proofs.PutOut.{same_home}
use Rattle.mux_exits.proofs.turned.turn_out_all.Goals as goal

pub loop-e-preserved : goal.loop-e-preserved
loop-e-preserved c = record {
  count = c.in_ok-turn_out.ensures.count ∙ c.loop-e.invariant.count;
  requests = c.in_ok-turn_out.ensures.requests ∙ c.loop-e.invariant.requests;
  versions = c.in_ok-turn_out.ensures.versions ∙ c.loop-e.invariant.versions;
  lasts = c.in_ok-turn_out.ensures.lasts ∙ c.loop-e.invariant.lasts;
  does = λ settings base unready asking housed homes.
      let editors = c.args.editors.now in
      let i = c.loop-e.e-index in
      let xs = c.args.outs.now in
      let ys = c.loop-e.outs in
      let before = c.loop-e.invariant.does settings base unready asking housed homes in
      does_knowing (λ k.
      let said = adds_row before k in
      does_next (turn_out settings c.args.g) editors i 0 c.loop-e-test.true before
      (c.in_ok-turn_out.ensures.does settings base (subst (λ ls. IsUnready c.args.g ls.items) (sym c.loop-e.invariant.lasts) unready)
      (asking_on base xs ys said asking) (housed_on base xs ys said settings housed) (same_home base xs ys said settings (get_or editors i 0) ∙ homes i c.loop-e-test.true)));
}

pub returns-clause-does : goal.returns-clause-does
returns-clause-does c = λ settings base unready asking housed homes.
    does_whole (turn_out settings c.args.g) c.args.editors.now c.loop-e.e-index c.loop-e-test.false (c.loop-e.invariant.does settings base unready asking housed homes)
