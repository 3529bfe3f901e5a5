-- Each is offered, under the next number of the editor.
use Rattle.std.proofs.Common.{ℕ, Bool, List, ◌<◌, ◌≤◌, get_or, length, take, false, ap, subst, sym, ◌∙◌}
use Rattle.std.specs.Prelude.{slice_get}
use Rattle.event_model.specs.Event.{behind}
use Rattle.event_model.specs.Row.{each}
use Rattle.event_model.proofs.Turns.{does_knowing, does_next, does_whole}
use Rattle.group_rows.specs.Created.{created_of}
use Rattle.group_rows.specs.CreatedRows.{offer}
use Rattle.mux_turns.specs.Creates.{CanOffer}
use Rattle.mux_turns.proofs.Called.{quiet_behind, rests_on, runs_on}
use Rattle.mux_turns.proofs.Offers.{offers_quiet}
use Rattle.mux_editors.proofs.LiveOffers.{can_next, listed_at, listed_length, live_apart, no_token}
use Rattle.mux_editors.proofs.running.offer_each.Goals as goal

pub loop-token-preserved : goal.loop-token-preserved
loop-token-preserved c = record {
  count = c.in_ok-offer.ensures.count ∙ c.loop-token.invariant.count;
  lasts = c.offer.ensures.lasts ∙ c.loop-token.invariant.lasts;
  requests = c.offer.ensures.requests ∙ c.loop-token.invariant.requests;
  versions = c.offer.ensures.versions ∙ c.loop-token.invariant.versions;
  does = λ settings owed base x here run none shown unasked small.
      let s = x.life.start in
      let e = c.args.e in
      let xs = c.args.outs.now in
      let ys = c.loop-token.outs in
      let now = behind base xs in
      let mid = behind base ys in
      let ts = (created_of settings s now).tokens in
      let i = c.loop-token.token-index in
      let t = get_or ts i no_token in
      let less = subst (λ n. i < n) (ap length shown ∙ listed_length ts) c.loop-token-test.true in
      let k = ap (λ (ps : List (ℕ × Bool)). (get_or ps i (0, false)).0) shown ∙ listed_at ts i (0, false) less in
      let before = c.loop-token.invariant.does settings owed base x here run none shown unasked small in
      does_knowing (λ known.
      let sent = (before.done known).outs in
      let apart = live_apart settings c.args.tables.now now s known.0 in
      let quiet = quiet_behind settings (each (offer s e) (take i ts)) base xs ys sent (offers_quiet settings s e (take i ts) now) in
      let can = can_next settings s e base xs ys i apart less unasked small sent in
      does_next (offer s e) ts i no_token less before
      (c.in_ok-offer.ensures.does settings owed base x t (ap (λ ls. slice_get ls.items c.args.g) c.loop-token.invariant.lasts ∙ here) (runs_on settings now mid quiet e run) (rests_on settings now mid quiet none)
      (subst (λ n. CanOffer settings s e n t mid) (sym k) can)));
}

pub returns-clause-does : goal.returns-clause-does
returns-clause-does c = λ settings owed base x here run none shown unasked small.
    let ts = (created_of settings x.life.start (behind base c.args.outs.now)).tokens in
    does_whole (offer x.life.start c.args.e) ts c.loop-token.token-index (subst (λ n. n ≤ c.loop-token.token-index) (ap length shown ∙ listed_length ts) c.loop-token-test.false)
    (c.loop-token.invariant.does settings owed base x here run none shown unasked small)
