-- Those of a list are told.
use Rattle.std.proofs.Common.{get_or, take, ◌∙◌}
use Rattle.event_model.specs.Event.{behind}
use Rattle.event_model.specs.Row.{each}
use Rattle.event_model.proofs.Turns.{does_knowing, does_next, does_whole}
use Rattle.group_rows.specs.Live.{unregister_text}
use Rattle.group_rows.specs.LiveRows.{call}
use Rattle.mux_tables.specs.Documents.{nothing_owed}
use Rattle.mux_turns.proofs.Called.{call_quiet, each_quiet, quiet_behind, rests_on, runs_on}
use Rattle.mux_starts.proofs.Refreshing.{runs_at}
use Rattle.mux_starts.proofs.registered.unregister_all.Goals as goal

pub loop-e-preserved : goal.loop-e-preserved
loop-e-preserved c = record {
  count = c.in_ok-call_unregistered.ensures.count ∙ c.loop-e.invariant.count;
  requests = c.call_unregistered.ensures.requests ∙ c.loop-e.invariant.requests;
  versions = c.call_unregistered.ensures.versions ∙ c.loop-e.invariant.versions;
  does = λ settings base gone run none.
      let numbers = c.args.numbers.now in
      let row = call (unregister_text c.args.gone.now) in
      let i = c.loop-e.e-index in
      let e = get_or numbers i 0 in
      let now = behind base c.args.outs.now in
      let mid = behind base c.loop-e.outs in
      let before = c.loop-e.invariant.does settings base gone run none in
      does_knowing (λ k.
      let quiet = quiet_behind settings (each row (take i numbers)) base c.args.outs.now c.loop-e.outs (before.done k).outs (each_quiet settings row (call_quiet settings (unregister_text c.args.gone.now) gone) (take i numbers) now) in
      does_next row numbers i 0 c.loop-e-test.true before
      (c.in_ok-call_unregistered.ensures.does settings nothing_owed base gone (runs_on settings now mid quiet e (runs_at now numbers i run c.loop-e-test.true)) (rests_on settings now mid quiet none)));
}

pub returns-clause-does : goal.returns-clause-does
returns-clause-does c = λ settings base gone run none.
    does_whole (call (unregister_text c.args.gone.now)) c.args.numbers.now c.loop-e.e-index c.loop-e-test.false (c.loop-e.invariant.does settings base gone run none)
