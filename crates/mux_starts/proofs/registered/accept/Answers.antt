-- A start's request is granted.
use Rattle.std.proofs.Common.{ap, codes, subst, ◌∙◌}
use Rattle.mux_history.specs.declared.out.Out.TheVariants.{ToServer}
use Rattle.event_model.specs.Does.{Does}
use Rattle.event_model.specs.Event.{behind}
use Rattle.event_model.specs.Row.{send}
use Rattle.rpc_message.specs.Texts.{ok_text}
use Rattle.group_rows.specs.Asks.{asking_of}
use Rattle.mux_tables.specs.Documents.{AllStand, nothing_owed}
use Rattle.mux_tables.proofs.DocumentOwed.{all_does}
use Rattle.mux_starts.proofs.Singles.{grants_one, none_under}
use Rattle.mux_starts.proofs.registered.accept.Goals as goal

pub returns : goal.returns
returns c = record {
  does = λ settings base body method id params s read says at fresh.
      let t = c.args.tables.now in
      let xs = c.args.outs.now in
      let ys = c.respond.new.outs in
      let text = c.in_ok-text.text in
      let is = c.in_ok-text.ensures ∙ ap (λ w. ok_text w (codes "null")) (c.id_bytes.ensures body read) in
      let k = grants_one text body method id params says is in
      let open_none = none_under text id (asking_of settings s (behind base xs)) k.answers fresh in
      subst (λ w. Does (λ k events. AllStand settings k events) (send (ToServer s w)) base (t, nothing_owed) xs (t, nothing_owed) ys) is
      (all_does settings t t nothing_owed nothing_owed base xs ys (c.in_ok-respond.ensures.does settings base s at k.runs k.counts open_none.asks open_none.parked)
      (λ _ d. c.in_ok-respond.ensures.documents settings nothing_owed base k.says k.aside d));
}
