-- One is asked.
use Rattle.std.proofs.Common.{ap, subst}
use Rattle.event_model.specs.Phases.{is_running}
use Rattle.rpc_message.specs.Parsed.{IsRead}
use Rattle.group_rows.proofs.DebtsKept.{refresh_uncreating, refresh_unhurried}
use Rattle.mux_tables.specs.Documents.{nothing_owed}
use Rattle.mux_tables.proofs.DocumentOwed.{all_does}
use Rattle.mux_debts.proofs.pays.pay_one.Goals as goal

pub returns-in_ok-question-in-Ok-clause-does : goal.returns-in_ok-question-in-Ok-clause-does
returns-in_ok-question-in-Ok-clause-does c = λ settings base debt can.
    let d = c.args.debt.now in
    let read = subst (λ b. IsRead c.in-Ok.message b) c.bytes-bytes.ensures c.in-Ok.ensures.ok in
    all_does settings c.args.tables.now c.question.new.self nothing_owed nothing_owed base c.args.outs.now c.question.new.outs
    (c.in_ok-question-in-Ok.ensures.does settings base d.body d.method debt.id debt.params read debt.says (refresh_uncreating d.method debt.wants) (refresh_unhurried d.method debt.wants) (ap is_running can.runs) can.idle)
    (λ _ ds. c.in_ok-question-in-Ok.ensures.documents settings nothing_owed base ds)
