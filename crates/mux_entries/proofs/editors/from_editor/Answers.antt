-- What an editor said.
use Rattle.std.proofs.Common.{◌<◌, ◌≤◌, length, subst, sym, arith}
use Rattle.std.specs.List.{AllByRecursion}
use Rattle.event_model.specs.Does.{Does}
use Rattle.event_model.specs.Event.{with_cause}
use Rattle.event_model.specs.Phases.{desk_of, editors_of}
use Rattle.event_model.specs.Row.{each}
use Rattle.group_rows.specs.Debts.{IsDebt}
use Rattle.mux_debts.proofs.Going.{malformed_stands, malformed_stops}
use Rattle.mux_debts.proofs.Paying.{due_debts, due_pays, whole_alone, whole_row}
use Rattle.mux_debts.specs.Going.{pays}
use Rattle.mux_history.specs.declared.cause.Cause.TheVariants.{FromEditor}
use Rattle.mux_starts.specs.mux_tables.specs.Documents.{AllStand, nothing_owed}
use Rattle.rpc_message.specs.Message.{message_of}
use Rattle.rpc_message.specs.Parsed.{IsRead}
use Rattle.rpc_message.specs.Sorts.{Refuses}
use Rattle.mux_entries.proofs.Carried.{malformed_carried}
use Rattle.mux_entries.proofs.EditorRows.{unlinked}
use Rattle.mux_entries.proofs.editors.from_editor.Goals as goal

pub returns-then-e-count-clause-does : goal.returns-then-e-count-clause-does
returns-then-e-count-clause-does c = λ settings before servers default first known settled fits owed st ds.
    let count = st.house.editors.count in
    let past : editors_of before ≤ c.args.e = omega arith in
    absurd (unlinked (desk_of c.args.e before).phase (known.editors c.args.e past) fits)

pub returns-in_ok-pay-in-Ok-clause-does : goal.returns-in_ok-pay-in-Ok-clause-does
returns-in_ok-pay-in-Ok-clause-does c = λ settings before servers default first known settled fits owed st ds.
    let body = c.args.body.now in
    let e = c.args.e in
    let base = with_cause before (FromEditor e body) in
    let read = subst (λ b. IsRead c.in-Ok.message b) c.bytes.ensures c.in-Ok.ensures.ok in
    let due = c.in_ok-due-in-Ok.due.items in
    let is = c.in_ok-due-in-Ok.ensures.due settings before body read known settled st owed in
    let told = c.in_ok-from_message-in-Ok.ensures.does settings before body read servers default first known settled fits st ds in
    let asked = subst (λ xs. Does (λ k events. AllStand settings k events) (each (pays e) xs) base (c.from_message.new.tables, nothing_owed) c.from_message.new.outs (c.pay.new.tables, nothing_owed) c.pay.new.outs) c.deref.ensures.value
    (c.in_ok-pay-in-Ok.ensures.does settings base (subst (AllByRecursion IsDebt) (sym c.deref.ensures.value) (due_debts settings before e body known.meant due is))
    (λ some. due_pays settings before e body due c.from_message.new.outs is told.outs (subst (λ xs. 0 < length xs) c.deref.ensures.value some))) in
    whole_row settings before e body (λ k events. AllStand settings k events) due (c.from_message.new.tables, nothing_owed) (c.pay.new.tables, nothing_owed) c.from_message.new.outs c.pay.new.outs is told asked

pub returns-in_ok-from_malformed-in-Err-clause-does : goal.returns-in_ok-from_malformed-in-Err-clause-does
returns-in_ok-from_malformed-in-Err-clause-does c = λ settings before servers default first known settled fits owed st ds.
    let body = c.args.body.now in
    let refuses = subst (λ b. Refuses c.in-Err.fault (message_of b)) c.bytes.ensures c.in-Err.ensures.refused in
    whole_alone settings before c.args.e body (λ k events. AllStand settings k events) (c.from_malformed.new.tables, nothing_owed) c.from_malformed.new.outs
    (malformed_stops settings before c.args.e body (message_of body) (c.in_ok-from_malformed-in-Err.ensures.malformed body refuses)) (c.in_ok-from_malformed-in-Err.ensures.does settings before body refuses first st ds)

-- What starts owe

pub returns-then-e-count-clause-owed : goal.returns-then-e-count-clause-owed
returns-then-e-count-clause-owed c = λ settings before known settled fits owed st.
    let count = st.house.editors.count in
    let past : editors_of before ≤ c.args.e = omega arith in
    absurd (unlinked (desk_of c.args.e before).phase (known.editors c.args.e past) fits)

pub returns-in_ok-pay-in-Ok-clause-owed : goal.returns-in_ok-pay-in-Ok-clause-owed
returns-in_ok-pay-in-Ok-clause-owed c = λ settings before known settled fits owed st.
    let read = subst (λ b. IsRead c.in-Ok.message b) c.bytes.ensures c.in-Ok.ensures.ok in
    c.in_ok-due-in-Ok.ensures.stands settings before c.args.body.now read known settled st owed

pub returns-in_ok-from_malformed-in-Err-clause-owed : goal.returns-in_ok-from_malformed-in-Err-clause-owed
returns-in_ok-from_malformed-in-Err-clause-owed c = λ settings before known settled fits owed st.
    let body = c.args.body.now in
    let refuses = subst (λ b. Refuses c.in-Err.fault (message_of b)) c.bytes.ensures c.in-Err.ensures.refused in
    malformed_stands settings c.args.debts.now before owed c.args.e body (c.in_ok-from_malformed-in-Err.ensures.malformed body refuses)

-- What groups carry

pub returns-then-e-count-clause-carried : goal.returns-then-e-count-clause-carried
returns-then-e-count-clause-carried c = λ settings before known settled fits kept st.
    let count = st.house.editors.count in
    let past : editors_of before ≤ c.args.e = omega arith in
    absurd (unlinked (desk_of c.args.e before).phase (known.editors c.args.e past) fits)

pub returns-in_ok-pay-in-Ok-clause-carried : goal.returns-in_ok-pay-in-Ok-clause-carried
returns-in_ok-pay-in-Ok-clause-carried c = λ settings before known settled fits kept st.
    let read = subst (λ b. IsRead c.in-Ok.message b) c.bytes.ensures c.in-Ok.ensures.ok in
    c.in_ok-keep_configuration-in-Ok.ensures.kept settings before c.args.body.now c.pay.new.outs read settled st kept

pub returns-in_ok-from_malformed-in-Err-clause-carried : goal.returns-in_ok-from_malformed-in-Err-clause-carried
returns-in_ok-from_malformed-in-Err-clause-carried c = λ settings before known settled fits kept st.
    let refuses = subst (λ b. Refuses c.in-Err.fault (message_of b)) c.bytes.ensures c.in-Err.ensures.refused in
    malformed_carried settings c.args.carries.now before c.args.e c.args.body.now c.from_malformed.new.outs (c.in_ok-from_malformed-in-Err.ensures.malformed c.args.body.now refuses) kept
