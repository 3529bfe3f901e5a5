-- Each of these editors is told of the token.
use Rattle.std.proofs.Common.{ap, subst, sym, ◌∙◌}
use Rattle.event_model.specs.Does.{Does}
use Rattle.event_model.specs.Row.{each}
use Rattle.group_rows.specs.AskRows.{broadcast}
use Rattle.group_rows.specs.Created.{created_text}
use Rattle.group_rows.specs.Tokens.{marked_text}
use Rattle.group_rows.proofs.CreatedTexts.{created_token_text}
use Rattle.group_rows.proofs.TokenTexts.{marked_says}
use Rattle.rpc_message.specs.Message.{message_of}
use Rattle.mux_tables.specs.Documents.{AllStand, nothing_owed}
use Rattle.mux_tables.proofs.DocumentOwed.{all_does}
use Rattle.mux_tables.proofs.Lasts.{same_place}
use Rattle.mux_starts.proofs.progress.tell_due.Goals as goal

pub returns : goal.returns
returns c = record {
  does = λ settings base body method params s read says plain at.
      let t = c.args.tables.now in
      let xs = c.args.outs.now in
      let ys = c.spread.new.outs in
      let is = c.bytes.ensures ∙ (c.in_ok-text.ensures body method params read says ∙ ap (λ n. marked_text (created_text n c.args.due.now.token) body) (same_place (sym c.start_number.ensures ∙ at))) in
      let new = marked_says (created_text s c.args.due.now.token) body method params (created_token_text s c.args.due.now.token) says in
      subst (λ w. Does (λ k events. AllStand settings k events) (each (broadcast w) c.args.due.now.editors.items) base (t, nothing_owed) xs (t, nothing_owed) ys) is
      (subst (λ ns. Does (λ k events. AllStand settings k events) (each (broadcast c.bytes.result.now) ns) base (t, nothing_owed) xs (t, nothing_owed) ys) c.deref.ensures.value
      (all_does settings t t nothing_owed nothing_owed base xs ys (c.in_ok-spread.ensures.does settings base method new.0 plain (ap message_of is ∙ new.1)) (λ _ d. c.in_ok-spread.ensures.documents settings nothing_owed base d)));
}
