-- An edit goes to an editor, or a refusal to the start.
use Rattle.std.proofs.Common.{subst, sym}
use Rattle.event_model.specs.Does.{Does}
use Rattle.event_model.specs.Event.{behind}
use Rattle.rpc_message.specs.Message.{id_bytes}
use Rattle.group_rows.specs.AskRows.{edited}
use Rattle.mux_tables.specs.Documents.{AllStand, nothing_owed}
use Rattle.mux_tables.specs.Puts.{IsAtWork}
use Rattle.mux_tables.proofs.DocumentOwed.{all_does}
use Rattle.mux_tables.proofs.Starts.{start_at_place}
use Rattle.mux_starts.proofs.applied.send_edit.Goals as goal

pub returns-in_ok-refuse_edit-in-None-clause-does : goal.returns-in_ok-refuse_edit-in-None-clause-does
returns-in_ok-refuse_edit-in-None-clause-does c = λ settings base body method id params s x read says uncreating here ready at runs work asks.
    let t = c.args.tables.now in
    subst (λ o. Does (λ k events. AllStand settings k events) (edited s body c.args.e o) base (t, nothing_owed) c.args.outs.now (t, nothing_owed) c.refuse_edit.new.outs) (sym c.in-None.is)
    (c.in_ok-refuse_edit-in-None.ensures.does settings base body method id params s read says at work.fresh)

pub returns-in_ok-put_text-in-Some-clause-does : goal.returns-in_ok-put_text-in-Some-clause-does
returns-in_ok-put_text-in-Some-clause-does c = λ settings base body method id params s x read says uncreating here ready at runs work asks.
    let t = c.args.tables.now in
    let u = c.put_text.new.self in
    let xs = c.args.outs.now in
    let ys = c.put_text.new.outs in
    let asked = asks c.in-Some.text c.in-Some.is in
    let own = start_at_place t.lasts.items c.args.g s x here at in
    subst (λ o. Does (λ k events. AllStand settings k events) (edited s body c.args.e o) base (t, nothing_owed) xs (u, nothing_owed) ys) (sym c.in-Some.is)
    (all_does settings t u nothing_owed nothing_owed base xs ys
    (c.in_ok-put_text-in-Some.ensures.does settings base body method id asked.0 x here ready read uncreating runs asked.1 (subst (λ n. IsAtWork settings n id (id_bytes body) (behind base xs)) (sym own) work))
    (λ _ d. c.in_ok-put_text-in-Some.ensures.documents settings nothing_owed base d))
