-- Each of them leaves, if it is slow.
use Rattle.std.proofs.Common.{ap, subst, sym, take, ◌∙◌}
use Rattle.event_model.specs.Event.{behind}
use Rattle.event_model.specs.Row.{each, outs}
use Rattle.event_model.proofs.Turns.{behind_more, does_next, does_whole}
use Rattle.group_facts.specs.SlowRows.{close_slow}
use Rattle.mux_causes.specs.Backlogs.{BacklogsStand}
use Rattle.mux_slow.proofs.Closing.{each_count}
use Rattle.mux_slow.proofs.slow.close_each.Goals as goal

pub loop-e-preserved : goal.loop-e-preserved
loop-e-preserved c = record {
  requests = c.in_ok-close_slow.ensures.requests ∙ c.loop-e.invariant.requests;
  versions = c.in_ok-close_slow.ensures.versions ∙ c.loop-e.invariant.versions;
  does = λ settings base limit counts stands.
      let before = c.loop-e.invariant.does settings base limit counts stands in
      let es = take c.loop-e.e-index c.args.editors.now in
      let there = sym (ap (behind base) (before.done stands).outs ∙ behind_more base c.args.outs.now (outs (each (close_slow settings) es) (behind base c.args.outs.now))) in
      does_next (close_slow settings) c.args.editors.now c.loop-e.e-index 0 c.loop-e-test.true before
      (c.in_ok-close_slow.ensures.does settings base limit (subst (BacklogsStand c.args.backlogs.now) there (each_count settings c.args.backlogs.now es (behind base c.args.outs.now) counts)));
}

pub returns-clause-does : goal.returns-clause-does
returns-clause-does c = λ settings base limit counts stands. does_whole (close_slow settings) c.args.editors.now c.loop-e.e-index c.loop-e-test.false (c.loop-e.invariant.does settings base limit counts stands)
