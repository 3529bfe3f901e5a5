-- What was held goes to the editor.
use Rattle.std.proofs.Common.{ap, subst, sym, ◌∙◌}
use Rattle.mux_history.specs.declared.out.Out.TheVariants.{ToEditor}
use Rattle.event_model.specs.Does.{Does}
use Rattle.event_model.specs.Event.{behind}
use Rattle.event_model.specs.Row.{each, send}
use Rattle.event_model.specs.Requests.{answered_id}
use Rattle.event_model.proofs.Turns.{does_next, does_whole}
use Rattle.group_rows.specs.Created.{created_text}
use Rattle.group_rows.specs.CreatedRows.{tell}
use Rattle.group_rows.specs.Tokens.{marked_text}
use Rattle.group_rows.proofs.CreatedTexts.{created_token_text}
use Rattle.group_rows.proofs.TokenTexts.{marked_says}
use Rattle.rpc_message.specs.Message.{message_of}
use Rattle.mux_tables.specs.Stands.{Stands}
use Rattle.mux_tables.proofs.Lasts.{same_place}
use Rattle.mux_turns.proofs.Keeping.{keeps_notice}
use Rattle.mux_editors.specs.Handing.{AreHeld, IsHeld}
use Rattle.mux_editors.proofs.Taking.{held_at}
use Rattle.mux_editors.proofs.handed.hand_out.Goals as goal

pub loop-body-preserved : goal.loop-body-preserved
loop-body-preserved c = record {
  does = λ settings base held.
      let t = c.args.tables.now in
      let e = c.args.e in
      let s = c.start_number-s.result in
      let k = c.args.handed.token in
      let bodies = c.deref-body-items.result.now in
      let i = c.loop-body.body-index in
      let body = c.body-item.result in
      let one = subst IsHeld (sym c.body-item.is) (held_at bodies i body held c.loop-body-test.true) in
      let is = c.in_ok-text.ensures one.0 one.1 one.2 in
      let new = marked_says (created_text s k) body one.0 one.1 (created_token_text s k) one.2 in
      does_next (tell s k e) bodies i body c.loop-body-test.true (c.loop-body.invariant.does settings base held)
      (subst (λ w. Does (λ t events. Stands settings t events) (send (ToEditor e w)) base t c.loop-body.outs t c.tell.new.outs) (is ∙ ap (marked_text (created_text s k)) c.body-item.is)
      (c.in_ok-tell.ensures.does settings base (keeps_notice e c.in_ok-text.text (behind base c.loop-body.outs) one.0 new.0 one.3 (ap message_of is ∙ new.1)) (ap answered_id (ap message_of is ∙ new.1))));
  documents = λ settings owed base ds. c.in_ok-tell.ensures.documents settings owed base (c.loop-body.invariant.documents settings owed base ds);
}

pub returns-clause-does : goal.returns-clause-does
returns-clause-does c = λ settings base s at held.
    let bodies = c.deref-body-items.result.now in
    let is = c.deref-body-items.ensures.value in
    let own = same_place (sym c.start_number-s.ensures ∙ at) in
    let e = c.args.e in
    let t = c.args.tables.now in
    subst (λ n. Does (λ t events. Stands settings t events) (each (tell n c.args.handed.token e) c.args.handed.bodies.items) base t c.args.outs.now t c.loop-body.outs) own
    (subst (λ bs. Does (λ t events. Stands settings t events) (each (tell c.start_number-s.result c.args.handed.token e) bs) base t c.args.outs.now t c.loop-body.outs) is
    (does_whole (tell c.start_number-s.result c.args.handed.token e) bodies c.loop-body.body-index c.loop-body-test.false (c.loop-body.invariant.does settings base (subst AreHeld (sym is) held))))
