-- Those of a list are told.
use Rattle.std.proofs.Common.{get_or, take, ◌∙◌}
use Rattle.event_model.specs.Event.{behind}
use Rattle.event_model.specs.Row.{each}
use Rattle.event_model.proofs.Turns.{does_knowing, does_next, does_whole}
use Rattle.group_rows.specs.LiveRows.{registering}
use Rattle.mux_turns.proofs.Called.{each_quiet, quiet_behind, rests_on, runs_on}
use Rattle.mux_starts.proofs.Registering.{registering_quiet}
use Rattle.mux_starts.proofs.Refreshing.{runs_at}
use Rattle.mux_starts.proofs.registered.register_all.Goals as goal

pub loop-e-preserved : goal.loop-e-preserved
loop-e-preserved c = record {
  count = c.in_ok-tell_registered.ensures.count ∙ c.loop-e.invariant.count;
  requests = c.tell_registered.ensures.requests ∙ c.loop-e.invariant.requests;
  versions = c.tell_registered.ensures.versions ∙ c.loop-e.invariant.versions;
  does = λ settings base gone items run none.
      let numbers = c.args.numbers.now in
      let row = registering c.args.gone.now c.args.items.now in
      let i = c.loop-e.e-index in
      let e = get_or numbers i 0 in
      let now = behind base c.args.outs.now in
      let mid = behind base c.loop-e.outs in
      let before = c.loop-e.invariant.does settings base gone items run none in
      does_knowing (λ k.
      let quiet = quiet_behind settings (each row (take i numbers)) base c.args.outs.now c.loop-e.outs (before.done k).outs (each_quiet settings row (registering_quiet settings c.args.gone.now c.args.items.now gone items) (take i numbers) now) in
      does_next row numbers i 0 c.loop-e-test.true before
      (c.in_ok-tell_registered.ensures.does settings base gone items (runs_on settings now mid quiet e (runs_at now numbers i run c.loop-e-test.true)) (rests_on settings now mid quiet none)));
}

pub returns-clause-does : goal.returns-clause-does
returns-clause-does c = λ settings base gone items run none.
    does_whole (registering c.args.gone.now c.args.items.now) c.args.numbers.now c.loop-e.e-index c.loop-e-test.false (c.loop-e.invariant.does settings base gone items run none)
