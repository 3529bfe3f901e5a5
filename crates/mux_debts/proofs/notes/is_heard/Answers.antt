-- Whether the start is ready, and the id that of no open ask.
use Rattle.std.proofs.Common.{◌&&◌, ap, not, subst, sym, ◌∙◌}
use Rattle.std.specs.Prelude.{Some}
use Rattle.event_model.specs.Stages.{is_ready}
use Rattle.rpc_message.specs.ValueTexts.{IsIdText}
use Rattle.rpc_message.proofs.Ids.{request_id_bytes}
use Rattle.group_rows.specs.Asks.{asking_of, is_taken}
use Rattle.mux_turns.proofs.Ready.{is_that_ready}
use Rattle.mux_debts.proofs.Noting.{stage_now}
use Rattle.mux_debts.proofs.notes.is_heard.Goals as goal

pub returns-then-is_ready : goal.returns-then-is_ready
returns-then-is_ready c = λ settings before body method id params x read says here st.
    let stage = stage_now settings c.args.tables.now before c.args.g x here st in
    let ready = ap is_ready (sym (c.stage_at.ensures x here)) ∙ (sym c.is_ready.ensures ∙ c.if-is_ready.true) in
    let text = subst (λ w. IsIdText id w) (sym (c.id_bytes.ensures body read)) (request_id_bytes body id method params says) in
    ap not (c.is_asked.ensures settings before x id here (is_that_ready x.life.stage ready) text st)
    ∙ sym (ap (λ b. b && not (is_taken (Some id) (asking_of settings x.life.start before))) (ap is_ready stage ∙ ready))

pub returns-else-is_ready : goal.returns-else-is_ready
returns-else-is_ready c = λ settings before body method id params x read says here st.
    let stage = stage_now settings c.args.tables.now before c.args.g x here st in
    let idle = ap is_ready (sym (c.stage_at.ensures x here)) ∙ (sym c.is_ready.ensures ∙ c.if-is_ready.false) in
    sym (ap (λ b. b && not (is_taken (Some id) (asking_of settings x.life.start before))) (ap is_ready stage ∙ idle))
