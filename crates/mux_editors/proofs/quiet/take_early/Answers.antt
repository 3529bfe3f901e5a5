-- A message comes before the answer to `initialize`.
use Rattle.std.proofs.Common.{ap, sym, ◌∙◌}
use Rattle.event_model.specs.Event.{with_cause}
use Rattle.event_model.specs.Phases.{desk_of}
use Rattle.group_rows.specs.Rows.{answer_error, early_code}
use Rattle.mux_history.specs.declared.cause.Cause.TheVariants.{FromEditor}
use Rattle.rpc_message.specs.Message.{message_of}
use Rattle.mux_tables.specs.Documents.{AllStand, nothing_owed}
use Rattle.mux_tables.proofs.DocumentOwed.{all_does}
use Rattle.mux_tables.specs.Stands.{is_answer}
use Rattle.mux_tables.proofs.Asking.{answers_none}
use Rattle.mux_editors.proofs.Asides.{desk_now, early_keeps, early_stays, early_unserved, unnamed_unopened}
use Rattle.mux_editors.proofs.Lspmux.{unasked_open}
use Rattle.mux_turns.proofs.Matched.{whole_entry}
use Rattle.mux_editors.proofs.Takings.{takes_unserved}
use Rattle.mux_editors.proofs.Staying.{unheld_unserved}
use Rattle.mux_editors.proofs.quiet.take_early.Goals as goal

pub returns-clause-does : goal.returns-clause-does
returns-clause-does c = λ settings before body method id params read says early unplaced unstopped unasked first settled st ds.
    let e = c.args.e in
    let base = with_cause before (FromEditor e body) in
    let u = c.hear_editor.new.self in
    let stays = desk_now before e body c.phase_of-phase.result (early_stays (desk_of e before).phase (desk_of e before).initialize body (message_of body) early unplaced ∙ sym (c.phase_of-phase.ensures.stands settings before st)) in
    let heard = c.hear_editor.ensures.stands settings before body st (answers_none settings e (message_of body) before (ap is_answer says)) (takes_unserved settings before settled c.args.tables.now st e (message_of body) (early_unserved (desk_of e before).phase early)) (unheld_unserved settings e body (message_of body) before (early_unserved (desk_of e before).phase early)) unplaced unstopped (unnamed_unopened settings.servers before e (message_of body) (unasked_open (message_of body) unasked)) stays in
    let docs = c.hear_editor.ensures.documents settings nothing_owed before body (early_keeps before e (message_of body) early) ds in
    whole_entry (λ k events. AllStand settings k events) (answer_error e body (early_code method)) base (u, nothing_owed) (c.refuse_early.new.tables, nothing_owed) c.args.outs.now c.refuse_early.new.outs first (heard, docs)
    (all_does settings u c.refuse_early.new.tables nothing_owed nothing_owed base c.args.outs.now c.refuse_early.new.outs (c.in_ok-refuse_early.ensures.does settings base body method id params read says) (λ _ d. c.in_ok-refuse_early.ensures.documents settings nothing_owed base d))
