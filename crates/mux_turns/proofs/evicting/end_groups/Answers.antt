-- Those of a list end.
use Rattle.std.proofs.Common.{◌∙◌, get_or}
use Rattle.event_model.proofs.Turns.{does_knowing, does_next, does_whole}
use Rattle.group_words.specs.Rows.{end_group}
use Rattle.mux_turns.proofs.Numbering.{group_next}
use Rattle.mux_turns.proofs.evicting.end_groups.Goals as goal

pub loop-g-preserved : goal.loop-g-preserved
loop-g-preserved c = record {
  requests = c.evict.ensures.requests ∙ c.loop-g.invariant.requests;
  versions = c.evict.ensures.versions ∙ c.loop-g.invariant.versions;
  numbered = λ settings owed base numbered st.
      let here = c.loop-g.invariant.numbered settings owed base numbered st in
      group_next settings owed c.loop-g.tables c.evict.new.tables base c.loop-g.outs c.evict.new.outs (get_or c.args.groups.now c.loop-g.g-index 0) here (c.in_ok-evict.ensures.does settings owed base here)
      ((c.loop-g.invariant.does settings owed base numbered).done st).stands;
  does = λ settings owed base numbered. does_knowing (λ k.
      does_next end_group c.args.groups.now c.loop-g.g-index 0 c.loop-g-test.true (c.loop-g.invariant.does settings owed base numbered) (c.in_ok-evict.ensures.does settings owed base (c.loop-g.invariant.numbered settings owed base numbered k)));
}

pub returns-clause-does : goal.returns-clause-does
returns-clause-does c = λ settings owed base numbered. does_whole end_group c.args.groups.now c.loop-g.g-index c.loop-g-test.false (c.loop-g.invariant.does settings owed base numbered)
