-- A request behind `shutdown`.
use Rattle.std.proofs.Common.{ap}
use Rattle.event_model.specs.declared.phase.Phase.TheVariants.{Down}
use Rattle.event_model.specs.Event.{with_cause}
use Rattle.event_model.specs.Phases.{desk_hears, desk_of, is_new, is_served}
use Rattle.group_rows.specs.Rows.{answer_error, wrong_code}
use Rattle.group_words.specs.Houses.{places}
use Rattle.mux_history.specs.declared.cause.Cause.TheVariants.{FromEditor}
use Rattle.rpc_message.specs.Message.{message_of}
use Rattle.rpc_message.specs.Texts.{invalid_request}
use Rattle.mux_tables.specs.Documents.{AllStand, nothing_owed}
use Rattle.mux_tables.proofs.DocumentOwed.{all_does}
use Rattle.mux_tables.specs.Stands.{is_answer}
use Rattle.mux_tables.proofs.Asking.{answers_none}
use Rattle.mux_editors.proofs.Asides.{desk_now, old_unopened, unserved_keeps}
use Rattle.mux_turns.proofs.Matched.{whole_entry}
use Rattle.mux_editors.proofs.Takings.{takes_unserved}
use Rattle.mux_editors.proofs.Staying.{unheld_unserved}
use Rattle.mux_editors.proofs.parting.take_down.Goals as goal

pub returns-clause-does : goal.returns-clause-does
returns-clause-does c = λ settings before body method id params read says down unstopped first settled st ds.
    let e = c.args.e in
    let base = with_cause before (FromEditor e body) in
    let u = c.hear_editor.new.self in
    let stays = desk_now before e body Down (ap (λ p. (desk_hears p (desk_of e before).initialize body (message_of body)).phase) down) in
    let heard = c.hear_editor.ensures.stands settings before body st (answers_none settings e (message_of body) before (ap is_answer says)) (takes_unserved settings before settled c.args.tables.now st e (message_of body) (ap is_served down)) (unheld_unserved settings e body (message_of body) before (ap is_served down)) (ap (λ p. places p (message_of body)) down) unstopped (old_unopened settings.servers before e (message_of body) (ap is_new down)) stays in
    let docs = c.hear_editor.ensures.documents settings nothing_owed before body (unserved_keeps before e (message_of body) (ap is_served down)) ds in
    whole_entry (λ k events. AllStand settings k events) (answer_error e body (wrong_code method invalid_request)) base (u, nothing_owed) (c.refuse_wrong.new.tables, nothing_owed) c.args.outs.now c.refuse_wrong.new.outs first (heard, docs)
    (all_does settings u c.refuse_wrong.new.tables nothing_owed nothing_owed base c.args.outs.now c.refuse_wrong.new.outs (c.in_ok-refuse_wrong.ensures.does settings base body method id params read says)
    (λ _ d. c.in_ok-refuse_wrong.ensures.documents settings nothing_owed base d))
