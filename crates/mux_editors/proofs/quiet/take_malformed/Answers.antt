-- A body that is no message.
use Rattle.std.proofs.Common.{◌≡◌, sym, subst, ◌∙◌}
use Rattle.event_model.specs.Does.{Does}
use Rattle.event_model.specs.Event.{with_cause}
use Rattle.event_model.specs.Phases.{desk_of}
use Rattle.mux_history.specs.declared.cause.Cause.TheVariants.{FromEditor}
use Rattle.mux_model.specs.Rows.{malformed_row}
use Rattle.rpc_message.specs.declared.sort.Malformed.TheVariants.{Memory}
use Rattle.rpc_message.specs.Message.{message_of}
use Rattle.event_model.proofs.Frames.{never}
use Rattle.mux_tables.specs.Documents.{AllStand, nothing_owed}
use Rattle.mux_tables.proofs.DocumentOwed.{all_does}
use Rattle.mux_tables.proofs.Asking.{answers_none}
use Rattle.mux_tables.specs.mux_tokens.proofs.Stays.{takes_none}
use Rattle.mux_editors.proofs.Asides.{aside, desk_now, malformed_aside, malformed_keeps, malformed_shuts, malformed_silent, malformed_stays, refused}
use Rattle.mux_editors.proofs.Staying.{unheld_malformed}
use Rattle.mux_turns.proofs.Matched.{whole_entry}
use Rattle.mux_editors.proofs.quiet.take_malformed.Goals as goal
use Rattle.mux_editors.proofs.quiet.take_malformed.Goals.{in-Memory, in_default}

pub returns-clause-does : goal.returns-clause-does
returns-clause-does c = λ settings before body refuses first st ds.
    let e = c.args.e in
    let base = with_cause before (FromEditor e body) in
    let u = c.hear_editor.new.self in
    let m = message_of body in
    let other : c.args.fault ≡ Memory → ⊥ = λ is. elim c.match-matches.branch [ in-Memory w ↦ never (sym w.matches-is ∙ c.if-matches.false) | in_default w ↦ w.in_default.not-Memory is ] in
    let bad = refused c.args.fault m other refuses in
    let off = aside before e m (malformed_aside m bad) in
    let is = c.phase_of-phase.ensures.stands settings before st in
    let stays = desk_now before e body c.phase_of-phase.result (malformed_stays (desk_of e before).phase (desk_of e before).initialize body m bad ∙ sym is) in
    let heard = c.hear_editor.ensures.stands settings before body st (answers_none settings e m before (malformed_silent m bad)) (takes_none settings e m before (malformed_shuts m bad) (malformed_silent m bad)) (unheld_malformed settings e body m before bad) off.placed off.stopped (off.unopened settings.servers) stays in
    let docs = c.hear_editor.ensures.documents settings nothing_owed before body (malformed_keeps before e m bad) ds in
    whole_entry (λ k events. AllStand settings k events) (malformed_row e m (desk_of e before).phase) base (u, nothing_owed) (u, nothing_owed) c.args.outs.now c.reject.new.outs first (heard, docs)
    (subst (λ p. Does (λ k events. AllStand settings k events) (malformed_row e m p) base (u, nothing_owed) c.args.outs.now (u, nothing_owed) c.reject.new.outs) is
    (all_does settings u u nothing_owed nothing_owed base c.args.outs.now c.reject.new.outs (c.in_ok-reject.ensures.does settings base body refuses) (λ _ d. c.in_ok-reject.ensures.documents settings nothing_owed base d)))
