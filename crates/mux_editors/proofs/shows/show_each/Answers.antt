-- Each of them is shown.
use Rattle.std.proofs.Common.{ap, ◌∙◌}
use Rattle.std.specs.Prelude.{slice_get}
use Rattle.event_model.proofs.Turns.{does_next, does_whole}
use Rattle.group_rows.specs.Lists.{lists_of}
use Rattle.mux_editors.specs.Shows.{show_at}
use Rattle.mux_editors.proofs.shows.show_each.Goals as goal

pub loop-n-preserved : goal.loop-n-preserved
loop-n-preserved c = record {
  count = c.in_ok-show_at.ensures.count ∙ c.loop-n.invariant.count;
  lasts = c.show_at.ensures.lasts ∙ c.loop-n.invariant.lasts;
  requests = c.show_at.ensures.requests ∙ c.loop-n.invariant.requests;
  versions = c.show_at.ensures.versions ∙ c.loop-n.invariant.versions;
  does = λ settings owed base x here ready meant.
      does_next (show_at c.args.e (lists_of x.life.start base)) c.args.numbers.now c.loop-n.n-index 0 c.loop-n-test.true (c.loop-n.invariant.does settings owed base x here ready meant)
      (c.in_ok-show_at.ensures.does settings owed base x (ap (λ ls. slice_get ls.items c.args.g) c.loop-n.invariant.lasts ∙ here) ready meant);
}

pub returns-clause-does : goal.returns-clause-does
returns-clause-does c = λ settings owed base x here ready meant.
    does_whole (show_at c.args.e (lists_of x.life.start base)) c.args.numbers.now c.loop-n.n-index c.loop-n-test.false (c.loop-n.invariant.does settings owed base x here ready meant)
