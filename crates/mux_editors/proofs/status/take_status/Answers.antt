-- `lspmux/status` is answered.
use Rattle.std.proofs.Common.{ap, subst, sym, ◌∙◌}
use Rattle.event_model.specs.Requests.{answered_id}
use Rattle.event_model.specs.Event.{with_cause}
use Rattle.group_rows.specs.Rows.{status_row}
use Rattle.group_rows.specs.Status.{items_of, status_text}
use Rattle.group_rows.proofs.Statuses.{told_tree}
use Rattle.mux_turns.specs.group_facts.proofs.RequestRow.{status_said}
use Rattle.mux_history.specs.declared.cause.Cause.TheVariants.{FromEditor}
use Rattle.rpc_message.specs.Message.{id_bytes, message_of}
use Rattle.rpc_message.specs.Texts.{ok_text}
use Rattle.mux_tables.specs.Documents.{AllStand, nothing_owed}
use Rattle.mux_tables.specs.Stands.{Keeps}
use Rattle.mux_tables.proofs.DocumentOwed.{all_does}
use Rattle.mux_tables.specs.Stands.{is_answer}
use Rattle.mux_tables.proofs.Asking.{answers_none}
use Rattle.mux_tables.specs.mux_tokens.proofs.Stays.{takes_none}
use Rattle.mux_editors.proofs.Asides.{unnamed_unopened}
use Rattle.mux_turns.proofs.Departing.{behind_first}
use Rattle.mux_turns.proofs.Keeping.{answers_own, keeps_reply, told_as}
use Rattle.mux_editors.proofs.Lspmux.{lspmux_is, own_keeps, own_others, own_placed, own_shuts, own_stays, own_stops, status_asks, status_unnamed, status_unstopped}
use Rattle.mux_editors.proofs.Staying.{unheld_own}
use Rattle.mux_turns.proofs.Matched.{whole_entry}
use Rattle.mux_editors.proofs.status.take_status.Goals as goal

pub returns-clause-does : goal.returns-clause-does
returns-clause-does c = λ settings before body read asks single servers first known st ds.
    let e = c.args.e in
    let base = with_cause before (FromEditor e body) in
    let u = c.hear_editor.new.self in
    let xs = c.args.outs.now in
    let own = status_asks (message_of body) asks in
    let k = lspmux_is (message_of body) own in
    let heard = c.hear_editor.ensures.stands settings before body st (answers_none settings e (message_of body) before (ap is_answer k.is)) (takes_none settings e (message_of body) before (own_shuts (message_of body) own) (ap is_answer k.is)) (unheld_own settings e body (message_of body) before k.id k.method k.params k.is k.own) (own_placed before e body own) (own_stops before e body own (status_unstopped (message_of body) asks)) (unnamed_unopened settings.servers before e (message_of body) (status_unnamed (message_of body) asks))
    (own_stays before e body own ∙ sym (c.phase_of-phase.ensures.stands settings before st)) in
    let docs = c.hear_editor.ensures.documents settings nothing_owed before body (own_keeps before e body own) ds in
    let told = ok_text (id_bytes body) (status_text (items_of settings before)) in
    let is = c.in_ok-text.ensures ∙ (ap (λ w. ok_text w c.bytes.result.now) (c.id_bytes-id.ensures body read) ∙ ap (λ r. ok_text (id_bytes body) r) (c.bytes.ensures ∙ c.in_ok-told.ensures settings before servers known st)) in
    let says = ap message_of is ∙ status_said settings before body k.id _ k.params k.is in
    let keeps = keeps_reply e c.in_ok-text.text base k.id (told_tree (items_of settings before)) says (own_others before e body own settings single known) in
    let does = told_as settings base u c.answer.new.self xs c.answer.new.outs e c.in_ok-text.text told is (c.in_ok-answer.ensures.does settings base (subst (λ es. Keeps e c.in_ok-text.text es) (sym (behind_first base xs first)) keeps)
    (answers_own c.in_ok-text.text body c.id_bytes-id.result.now k.method k.id k.params (c.id_bytes-id.ensures body read) k.is (ap answered_id says))) in
    whole_entry (λ k events. AllStand settings k events) (status_row settings before e body) base (u, nothing_owed) (c.answer.new.self, nothing_owed) xs c.answer.new.outs first (heard, docs)
    (all_does settings u c.answer.new.self nothing_owed nothing_owed base xs c.answer.new.outs does (λ _ d. c.in_ok-answer.ensures.documents settings nothing_owed base d))
