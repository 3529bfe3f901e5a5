-- Those of a list are answered.
use Rattle.std.proofs.Common.{◌≡◌, ap, sym, ◌∙◌, get_or}
use Rattle.std.specs.Prelude.{Some}
use Rattle.event_model.specs.Event.{behind}
use Rattle.event_model.specs.Row.{each}
use Rattle.event_model.proofs.Turns.{does_knowing, does_look, does_next, does_whole}
use Rattle.group_rows.specs.Rows.{waiting_in, welcome}
use Rattle.rpc_message.specs.Message.{id_bytes}
use Rattle.mux_turns.proofs.Welcoming.{all_greeted, greeted_behind, same_desk, tells_then}
use Rattle.mux_starts.proofs.results.greet_all.Goals as goal

pub loop-e-preserved : goal.loop-e-preserved
loop-e-preserved c = record {
  count = c.in_ok-greet.ensures.count ∙ c.loop-e.invariant.count;
  ids = λ n. c.in_ok-greet.ensures.ids n ∙ c.loop-e.invariant.ids n;
  requests = c.in_ok-greet.ensures.requests ∙ c.loop-e.invariant.requests;
  versions = c.in_ok-greet.ensures.versions ∙ c.loop-e.invariant.versions;
  lasts = c.in_ok-greet.ensures.lasts ∙ c.loop-e.invariant.lasts;
  told = tells_then c.args.outs.now c.loop-e.outs c.greet.new.outs c.loop-e.invariant.told c.in_ok-greet.ensures.told;
  does = λ settings base body are shown all.
      let items = c.deref-e-items.result.now in
      let e = get_or items c.loop-e.e-index 0 in
      let known = all c.loop-e.e-index c.loop-e-test.true in
      let told = c.loop-e.invariant.told in
      does_next (welcome body) items c.loop-e.e-index 0 c.loop-e-test.true (c.loop-e.invariant.does settings base body are shown all)
      (c.in_ok-greet.ensures.does settings base body are shown (greeted_behind base e c.args.outs.now c.loop-e.outs told.more told.is told.bodies known.0)
      (c.loop-e.invariant.ids e ∙ (known.1 ∙ ap (λ w. Some (id_bytes w)) (sym (same_desk base e c.args.outs.now c.loop-e.outs told.more told.is told.bodies)))));
}

pub returns-clause-does : goal.returns-clause-does
returns-clause-does c = λ settings base body are shown asking.
    let items = c.deref-e-items.result.now in
    let now = behind base c.args.outs.now in
    does_knowing (λ k.
    let is : items ≡ waiting_in settings c.args.g now = c.deref-e-items.ensures.value ∙ c.in_ok-numbers.ensures.those settings now k.0 in
    does_look (λ _. ap (each (welcome body)) (sym is)) (does_whole (welcome body) items c.loop-e.e-index c.loop-e-test.false
    (c.loop-e.invariant.does settings base body are shown (all_greeted settings c.args.tables.now.editors now c.args.g items is asking k.0.house.editors.names))))
