-- Those of a list have it.
use Rattle.std.proofs.Common.{ap, subst, ◌∙◌, get_or}
use Rattle.mux_history.specs.declared.out.Out.TheVariants.{ToEditor}
use Rattle.event_model.specs.Does.{Does}
use Rattle.event_model.specs.Event.{behind}
use Rattle.event_model.specs.Requests.{answered_id}
use Rattle.event_model.specs.Row.{send}
use Rattle.event_model.proofs.Turns.{does_next, does_whole}
use Rattle.group_rows.specs.AskRows.{broadcast}
use Rattle.rpc_message.specs.Message.{message_of}
use Rattle.mux_tables.specs.Stands.{Stands}
use Rattle.mux_turns.proofs.Keeping.{keeps_notice}
use Rattle.mux_starts.proofs.broadcasts.spread.Goals as goal

pub loop-e-preserved : goal.loop-e-preserved
loop-e-preserved c = record {
  does = λ settings base method params plain says.
      let t = c.args.tables.now in
      let e = get_or c.args.numbers.now c.loop-e.e-index 0 in
      let is = c.new-text.ensures ∙ c.in_ok-from_slice.ensures.items in
      does_next (broadcast c.args.body.now) c.args.numbers.now c.loop-e.e-index 0 c.loop-e-test.true (c.loop-e.invariant.does settings base method params plain says)
      (subst (λ w. Does (λ k events. Stands settings k events) (send (ToEditor e w)) base t c.loop-e.outs t c.tell.new.outs) is
      (c.in_ok-tell.ensures.does settings base (keeps_notice e c.new-text.result (behind base c.loop-e.outs) method params plain (ap message_of is ∙ says)) (ap answered_id (ap message_of is ∙ says))));
  documents = λ settings owed base ds. c.in_ok-tell.ensures.documents settings owed base (c.loop-e.invariant.documents settings owed base ds);
}

pub returns-clause-does : goal.returns-clause-does
returns-clause-does c = λ settings base method params plain says. does_whole (broadcast c.args.body.now) c.args.numbers.now c.loop-e.e-index c.loop-e-test.false (c.loop-e.invariant.does settings base method params plain says)
