-- Those of a list get the error.
use Rattle.std.proofs.Common.{◌≡◌, ap, sym, subst, ◌∙◌, get_or}
use Rattle.std.specs.Prelude.{Some}
use Rattle.event_model.specs.Event.{behind}
use Rattle.event_model.specs.Row.{each}
use Rattle.event_model.proofs.Turns.{does_knowing, does_look, does_next, does_whole}
use Rattle.group_rows.specs.Rows.{refusal, waiting_in}
use Rattle.rpc_message.specs.Message.{id_bytes}
use Rattle.mux_starts.specs.Refusing.{IsUnready}
use Rattle.mux_starts.proofs.PutOut.{adds_then, all_wait, asking_later, same_home, same_initialize}
use Rattle.mux_starts.proofs.refused.refuse_all.Goals as goal

pub loop-e-preserved : goal.loop-e-preserved
loop-e-preserved c = record {
  count = c.in_ok-refuse_one.ensures.count ∙ c.loop-e.invariant.count;
  ids = λ n. c.in_ok-refuse_one.ensures.ids n ∙ c.loop-e.invariant.ids n;
  requests = c.in_ok-refuse_one.ensures.requests ∙ c.loop-e.invariant.requests;
  versions = c.in_ok-refuse_one.ensures.versions ∙ c.loop-e.invariant.versions;
  lasts = c.in_ok-refuse_one.ensures.lasts ∙ c.loop-e.invariant.lasts;
  adds = adds_then c.args.outs.now c.loop-e.outs c.refuse_one.new.outs c.loop-e.invariant.adds c.in_ok-refuse_one.ensures.adds;
  does = λ settings base body read first unready all.
      let items = c.deref-e-items.result.now in
      let e = get_or items c.loop-e.e-index 0 in
      let known = all c.loop-e.e-index c.loop-e-test.true in
      let said = c.loop-e.invariant.adds in
      does_next (refusal body) items c.loop-e.e-index 0 c.loop-e-test.true (c.loop-e.invariant.does settings base body read first unready all)
      (c.in_ok-refuse_one.ensures.does settings base body c.args.g read first (subst (λ ls. IsUnready c.args.g ls.items) (sym c.loop-e.invariant.lasts) unready)
      (same_home base c.args.outs.now c.loop-e.outs said settings e ∙ known.1) (asking_later base c.args.outs.now c.loop-e.outs said e known.0)
      (c.loop-e.invariant.ids e ∙ (known.2 ∙ ap (λ w. Some (id_bytes w)) (sym (same_initialize base c.args.outs.now c.loop-e.outs said e)))));
}

pub returns-clause-does : goal.returns-clause-does
returns-clause-does c = λ settings base body read first unready asking.
    let items = c.deref-e-items.result.now in
    let now = behind base c.args.outs.now in
    does_knowing (λ k.
    let is : items ≡ waiting_in settings c.args.g now = c.deref-e-items.ensures.value ∙ c.in_ok-numbers.ensures.those settings now k.0 in
    does_look (λ _. ap (each (refusal body)) (sym is)) (does_whole (refusal body) items c.loop-e.e-index c.loop-e-test.false
    (c.loop-e.invariant.does settings base body read first unready (all_wait settings c.args.tables.now.editors now c.args.g items is asking k.0.house.editors.names))))
