-- Those of a list are asked.
use Rattle.std.proofs.Common.{ℕ, ap, get_or, take, ◌∙◌}
use Rattle.std.specs.Prelude.{slice_get}
use Rattle.event_model.specs.Event.{behind}
use Rattle.event_model.specs.Row.{each}
use Rattle.event_model.proofs.Turns.{does_knowing, does_next, does_whole}
use Rattle.group_rows.specs.CreatedRows.{offer}
use Rattle.mux_tables.specs.Documents.{nothing_owed}
use Rattle.mux_turns.proofs.Called.{each_quiet, quiet_behind, rests_on, runs_on}
use Rattle.mux_turns.proofs.Offers.{offer_quiet}
use Rattle.mux_starts.proofs.Offered.{can_next}
use Rattle.mux_starts.proofs.Refreshing.{runs_at}
use Rattle.mux_starts.proofs.creates.offer_each.Goals as goal

pub loop-e-preserved : goal.loop-e-preserved
loop-e-preserved c = record {
  count = c.in_ok-offer.ensures.count ∙ c.loop-e.invariant.count;
  lasts = c.offer.ensures.lasts ∙ c.loop-e.invariant.lasts;
  requests = c.offer.ensures.requests ∙ c.loop-e.invariant.requests;
  versions = c.offer.ensures.versions ∙ c.loop-e.invariant.versions;
  does = λ settings base x token here apart run none live unasked small.
      let s = x.life.start in
      let numbers = c.args.numbers.now in
      let row = λ (e : ℕ). offer s e token in
      let i = c.loop-e.e-index in
      let e = get_or numbers i 0 in
      let xs = c.args.outs.now in
      let now = behind base xs in
      let mid = behind base c.loop-e.outs in
      let before = c.loop-e.invariant.does settings base x token here apart run none live unasked small in
      does_knowing (λ k.
      let sent = (before.done k).outs in
      let quiet = quiet_behind settings (each row (take i numbers)) base xs c.loop-e.outs sent (each_quiet settings row (offer_quiet settings s token) (take i numbers) now) in
      does_next row numbers i 0 c.loop-e-test.true before
      (c.in_ok-offer.ensures.does settings nothing_owed base x token (ap (λ ls. slice_get ls.items c.args.g) c.loop-e.invariant.lasts ∙ here) (runs_on settings now mid quiet e (runs_at now numbers i run c.loop-e-test.true)) (rests_on settings now mid quiet none)
      (can_next settings s token c.args.k numbers i base xs c.loop-e.outs c.loop-e-test.true apart (record { live = live; unasked = unasked; small = small }) sent)));
}

pub returns-clause-does : goal.returns-clause-does
returns-clause-does c = λ settings base x token here apart run none live unasked small.
    does_whole (λ e. offer x.life.start e token) c.args.numbers.now c.loop-e.e-index c.loop-e-test.false (c.loop-e.invariant.does settings base x token here apart run none live unasked small)
