-- An editor's answer is awaited no more.
use Rattle.std.proofs.Common.{◌≡◌, false, ap, codes, refl, subst, ◌∙◌}
use Rattle.std.specs.Prelude.{Some}
use Rattle.lsp_method.specs.Class.{server_notification}
use Rattle.mux_history.specs.declared.out.Out.TheVariants.{ToEditor}
use Rattle.event_model.specs.Does.{Does}
use Rattle.event_model.specs.Event.{behind}
use Rattle.event_model.specs.Requests.{answered_id}
use Rattle.event_model.specs.Row.{send}
use Rattle.group_rows.specs.Lists.{is_publishing}
use Rattle.group_rows.proofs.Cancels.{cancel_says, params_tree}
use Rattle.rpc_message.specs.Message.{message_of}
use Rattle.mux_tables.specs.Documents.{AllStand, nothing_owed}
use Rattle.mux_tables.proofs.DocumentOwed.{all_does}
use Rattle.mux_turns.proofs.Keeping.{keeps_notice}
use Rattle.mux_starts.proofs.recalled.recall.Goals as goal

-- it is told no list
unlisted : is_publishing (codes "$/cancelRequest") ≡ false
unfolding server_notification
unlisted = refl

pub returns : goal.returns
returns c = record {
  does = λ settings base low.
      let t = c.args.tables.now in
      let e = c.args.e in
      let xs = c.args.outs.now in
      let ys = c.tell.new.outs in
      let text = c.in_ok-text.text in
      let is = c.in_ok-text.ensures in
      let says = ap message_of is ∙ cancel_says c.args.n low in
      subst (λ w. Does (λ k events. AllStand settings k events) (send (ToEditor e w)) base (t, nothing_owed) xs (t, nothing_owed) ys) is
      (all_does settings t t nothing_owed nothing_owed base xs ys (c.in_ok-tell.ensures.does settings base (keeps_notice e text (behind base xs) (codes "$/cancelRequest") (Some (params_tree c.args.n)) unlisted says) (ap answered_id says))
      (λ _ d. c.in_ok-tell.ensures.documents settings nothing_owed base d));
}
