-- Whether a message of an editor goes on to the last start of its group.
use Rattle.std.proofs.Common.{◌≡◌, ap, subst, sym, ◌∙◌}
use Rattle.std.specs.Prelude.{IfOk}
use Rattle.event_model.specs.Phases.{desk_of, is_running}
use Rattle.event_model.specs.Stages.{is_ready}
use Rattle.group_rows.proofs.DebtsKept.{off_unrun}
use Rattle.rpc_message.specs.Message.{message_of}
use Rattle.mux_turns.proofs.Ready.{is_that_ready}
use Rattle.mux_turns.specs.group_facts.proofs.AskingRows.{running_is}
use Rattle.mux_debts.proofs.Going.{goes_as, unready}
use Rattle.mux_debts.proofs.Noting.{stage_now}
use Rattle.mux_debts.proofs.pays.goes_to.Goals as goal

pub returns-then-is_ready : goal.returns-then-is_ready
returns-then-is_ready c = λ settings before body x read known settled here start st.
    let e = c.args.e in
    let runs = ap is_running (sym (c.phase.ensures settings before st)) ∙ (sym c.is_running.ensures ∙ c.if-is_running.true) in
    let ready = ap is_ready (sym (c.stage_at.ensures x here)) ∙ (sym c.is_ready.ensures ∙ c.if-is_ready.true) in
    let up = ap is_ready (stage_now settings c.args.tables.now before c.args.g x here st) ∙ ready in
    subst (λ b. IfOk c.goes_forth.result (λ answer. answer ≡ b)) (sym (goes_as settings before e body (message_of body) x.life.start runs start up))
    (c.goes_forth.ensures settings before body x read known settled here (is_that_ready x.life.stage ready) (running_is settings before (desk_of e before).phase runs) st)

pub returns-else-is_ready : goal.returns-else-is_ready
returns-else-is_ready c = λ settings before body x read known settled here start st.
    let idle = ap is_ready (sym (c.stage_at.ensures x here)) ∙ (sym c.is_ready.ensures ∙ c.if-is_ready.false) in
    sym (unready settings before c.args.e body (message_of body) x.life.start (ap is_ready (stage_now settings c.args.tables.now before c.args.g x here st) ∙ idle))

pub returns-else-is_running : goal.returns-else-is_running
returns-else-is_running c = λ settings before body x read known settled here start st.
    sym (off_unrun settings before c.args.e body (message_of body) (ap is_running (sym (c.phase.ensures settings before st)) ∙ (sym c.is_running.ensures ∙ c.if-is_running.false)) x.life.start)
