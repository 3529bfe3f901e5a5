-- Editors are told what they lose.
use Rattle.std.proofs.Common.{◌≡◌, [], ◌∷◌, ◌++◌, append-nil, append_assoc, length, ap, sym, subst, ◌∙◌, arith}
use Rattle.std.specs.List.{AllByRecursion}
use Rattle.std.specs.Vec.Iter.{into_iter_items}
use Rattle.event_model.specs.Does.{Does}
use Rattle.event_model.specs.Event.{behind}
use Rattle.event_model.specs.Row.{each}
use Rattle.event_model.proofs.Turns.{does_knowing, does_more}
use Rattle.mux_exits.specs.Losses.{CanLose, IsInside, loss_row}
use Rattle.mux_exits.proofs.Saying.{can_on, front, losses_quiet, middle, milds, nothing_left}
use Rattle.mux_tables.specs.Documents.{AllStand, nothing_owed}
use Rattle.mux_turns.proofs.Called.{quiet_behind, rests_on}
use Rattle.mux_exits.proofs.told.tell_losses.Goals as goal

pub tell_loss-requires : goal.tell_loss-requires
tell_loss-requires c =
    let at = c.loop-loss in
    let x = c.in-Some.loss in
    let rest = into_iter_items c.next.new.self in
    let whole : at.yielded ++ x ∷ rest ≡ c.args.losses.items = ap (λ ws. at.yielded ++ ws) (sym c.in-Some.ensures.steps.0) ∙ at.invariant.all in
    subst (λ n. IsInside n x) (sym at.invariant.count) (middle (IsInside (length c.args.tables.now.editors)) at.yielded x rest (subst (AllByRecursion (IsInside (length c.args.tables.now.editors))) (sym whole) c.requires))

pub loop-loss-preserved : goal.loop-loss-preserved
loop-loss-preserved c =
    let at = c.loop-loss in
    let x = c.in-Some.loss in
    let rest = into_iter_items c.next.new.self in
    let steps : into_iter_items at.loss-iterator ≡ x ∷ rest = c.in-Some.ensures.steps.0 in
    let whole : at.yielded ++ x ∷ rest ≡ c.args.losses.items = ap (λ ws. at.yielded ++ ws) (sym steps) ∙ at.invariant.all in
    record {
      all = append_assoc at.yielded (x ∷ []) rest ∙ whole;
      left =
          let was = at.invariant.left in
          let gone = c.in-Some.ensures.steps.1 in
          let short = ap length steps in
          omega arith;
      count = c.in_ok-tell_loss.ensures.count ∙ at.invariant.count;
      requests = c.in_ok-tell_loss.ensures.requests ∙ at.invariant.requests;
      versions = c.in_ok-tell_loss.ensures.versions ∙ at.invariant.versions;
      lasts = c.in_ok-tell_loss.ensures.lasts ∙ at.invariant.lasts;
      does = λ settings base call can idle.
          let live = c.args.live.now in
          let now = behind base c.args.outs.now in
          let mid = behind base at.outs in
          let before = at.invariant.does settings base call can idle in
          let cans = subst (AllByRecursion (CanLose now)) (sym whole) can in
          does_knowing (λ k.
          let quiet = quiet_behind settings (each (loss_row live) at.yielded) base c.args.outs.now at.outs (before.done k).outs
          (losses_quiet settings live call at.yielded now (milds settings now at.yielded (front (CanLose now) at.yielded (x ∷ rest) cans))) in
          does_more (loss_row live) at.yielded x before
          (c.in_ok-tell_loss.ensures.does settings base call (can_on settings now mid quiet x (middle (CanLose now) at.yielded x rest cans)) (rests_on settings now mid quiet idle)));
    }

pub returns-clause-does : goal.returns-clause-does
returns-clause-does c = λ settings base call can idle.
    let at = c.loop-loss in
    let none = c.in-None.ensures.steps in
    let empty : into_iter_items at.loss-iterator ≡ [] = nothing_left (into_iter_items at.loss-iterator) (sym at.invariant.left ∙ none.0) in
    let whole : at.yielded ≡ c.args.losses.items = sym (append-nil at.yielded) ∙ (ap (λ ws. at.yielded ++ ws) (sym empty) ∙ at.invariant.all) in
    subst (λ ls. Does (λ k events. AllStand settings k events) (each (loss_row c.args.live.now) ls) base (c.args.tables.now, nothing_owed) c.args.outs.now (at.tables, nothing_owed) at.outs) whole (at.invariant.does settings base call can idle)
