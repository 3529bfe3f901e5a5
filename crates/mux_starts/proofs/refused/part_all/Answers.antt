-- Those of a list are parted with.
use Rattle.std.proofs.Common.{◌≡◌, ap, sym, subst, ◌∙◌, get_or}
use Rattle.event_model.specs.Event.{behind}
use Rattle.event_model.specs.Row.{each}
use Rattle.event_model.proofs.Turns.{does_knowing, does_look, does_next, does_whole}
use Rattle.group_rows.specs.Asks.{members_in}
use Rattle.group_rows.specs.Waiting.{part}
use Rattle.mux_starts.specs.Refusing.{IsUnready}
use Rattle.mux_starts.proofs.PutOut.{adds_then, all_at_home, same_home}
use Rattle.mux_starts.proofs.refused.part_all.Goals as goal

pub loop-e-preserved : goal.loop-e-preserved
loop-e-preserved c = record {
  count = c.in_ok-part.ensures.count ∙ c.loop-e.invariant.count;
  requests = c.in_ok-part.ensures.requests ∙ c.loop-e.invariant.requests;
  versions = c.in_ok-part.ensures.versions ∙ c.loop-e.invariant.versions;
  lasts = c.in_ok-part.ensures.lasts ∙ c.loop-e.invariant.lasts;
  adds = adds_then c.args.outs.now c.loop-e.outs c.part.new.outs c.loop-e.invariant.adds c.in_ok-part.ensures.adds;
  does = λ settings base unready all.
      let items = c.deref-e-items.result.now in
      let e = get_or items c.loop-e.e-index 0 in
      does_next (part settings c.args.g) items c.loop-e.e-index 0 c.loop-e-test.true (c.loop-e.invariant.does settings base unready all)
      (c.in_ok-part.ensures.does settings base (subst (λ ls. IsUnready c.args.g ls.items) (sym c.loop-e.invariant.lasts) unready)
      (same_home base c.args.outs.now c.loop-e.outs c.loop-e.invariant.adds settings e ∙ all c.loop-e.e-index c.loop-e-test.true));
}

pub returns-clause-does : goal.returns-clause-does
returns-clause-does c = λ settings base unready.
    let items = c.deref-e-items.result.now in
    let now = behind base c.args.outs.now in
    does_knowing (λ k.
    let is : items ≡ members_in settings c.args.g now = c.deref-e-items.ensures.value ∙ c.in_ok-numbers.ensures.those settings now k.0 in
    does_look (λ _. ap (each (part settings c.args.g)) (sym is)) (does_whole (part settings c.args.g) items c.loop-e.e-index c.loop-e-test.false
    (c.loop-e.invariant.does settings base unready (all_at_home settings now c.args.g items is))))
