-- Those of a list are asked.
use Rattle.std.proofs.Common.{ap, take, ◌∙◌, get_or}
use Rattle.event_model.specs.Event.{behind}
use Rattle.event_model.specs.Phases.{is_running}
use Rattle.event_model.proofs.Turns.{does_knowing, does_next, does_whole}
use Rattle.group_rows.specs.AskRows.{ask}
use Rattle.mux_tables.specs.Documents.{nothing_owed}
use Rattle.mux_tables.proofs.DocumentOwed.{all_does}
use Rattle.mux_starts.proofs.Refreshing.{each_keeps, kept_behind, runs_at}
use Rattle.mux_starts.proofs.refreshed.ask_all.Goals as goal

pub loop-e-preserved : goal.loop-e-preserved
loop-e-preserved c = record {
  count = c.in_ok-question.ensures.count ∙ c.loop-e.invariant.count;
  requests = c.question.ensures.requests ∙ c.loop-e.invariant.requests;
  versions = c.question.ensures.versions ∙ c.loop-e.invariant.versions;
  does = λ settings base body method id params read says uncreating impatient run idle.
      let numbers = c.args.numbers.now in
      let i = c.loop-e.e-index in
      let e = get_or numbers i 0 in
      let t = c.loop-e.tables in
      let u = c.question.new.self in
      let xs = c.args.outs.now in
      let ys = c.loop-e.outs in
      let before = c.loop-e.invariant.does settings base body method id params read says uncreating impatient run idle in
      does_knowing (λ k.
      let kept = kept_behind settings body (take i numbers) base xs ys (before.done k).outs (each_keeps settings body method id params says (take i numbers) (behind base xs)) in
      does_next (ask body) numbers i 0 c.loop-e-test.true before
      (all_does settings t u nothing_owed nothing_owed base ys c.question.new.outs
      (c.in_ok-question.ensures.does settings base body method id params read says uncreating impatient (ap is_running (kept.phases e) ∙ runs_at (behind base xs) numbers i run c.loop-e-test.true) (λ s. (kept.rests s (idle s)).asker))
      (λ _ d. c.in_ok-question.ensures.documents settings nothing_owed base d)));
}

pub returns-clause-does : goal.returns-clause-does
returns-clause-does c = λ settings base body method id params read says uncreating impatient run idle.
    does_whole (ask body) c.args.numbers.now c.loop-e.e-index c.loop-e-test.false (c.loop-e.invariant.does settings base body method id params read says uncreating impatient run idle)
