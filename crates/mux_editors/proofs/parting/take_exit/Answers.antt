-- It says `exit`.
use Rattle.std.proofs.Common.{codes, sym, ◌∙◌}
use Rattle.event_model.specs.Phases.{desk_of}
use Rattle.rpc_message.specs.Message.{message_of}
use Rattle.mux_tables.proofs.Asking.{answers_none}
use Rattle.mux_tables.specs.mux_tokens.proofs.Stays.{takes_none}
use Rattle.mux_editors.proofs.Asides.{aside, desk_now, exit_answers, exit_aside, exit_keeps, exit_shuts, exit_stays}
use Rattle.mux_editors.proofs.Staying.{unheld_notice}
use Rattle.mux_editors.proofs.parting.take_exit.Goals as goal

pub returns-clause-does : goal.returns-clause-does
returns-clause-does c = λ settings before body exits first st ds.
    let e = c.args.e in
    let m = message_of body in
    let off = aside before e m (exit_aside m exits) in
    let stays = desk_now before e body c.phase_of-phase.result (exit_stays (desk_of e before).phase (desk_of e before).initialize body m exits ∙ sym (c.phase_of-phase.ensures.stands settings before st)) in
    c.in_ok-end_link.ensures.does settings before body (answers_none settings e m before (exit_answers m exits)) (takes_none settings e m before (exit_shuts m exits) (exit_answers m exits)) (unheld_notice settings e body m before (codes "exit") exits) off.placed off.stopped (off.unopened settings.servers) (exit_keeps before e m exits) stays first st ds
