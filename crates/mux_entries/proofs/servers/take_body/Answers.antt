-- A body of a start.
use Rattle.std.proofs.Common.{[], subst, sym}
use Rattle.event_model.specs.Does.{Done}
use Rattle.event_model.specs.Event.{with_cause}
use Rattle.group_rows.specs.Rows.{row_of}
use Rattle.mux_history.specs.declared.cause.Cause.TheVariants.{FromServer}
use Rattle.rpc_message.specs.Message.{message_of}
use Rattle.rpc_message.specs.Parsed.{IsRead}
use Rattle.rpc_message.specs.Sorts.{Refuses}
use Rattle.mux_starts.specs.mux_tables.specs.Documents.{AllStand, nothing_owed}
use Rattle.mux_debts.proofs.Noting.{malformed_noted}
use Rattle.mux_entries.proofs.Carried.{malformed_said}
use Rattle.mux_entries.proofs.servers.take_body.Goals as goal

pub returns-in_ok-take_message-in-Ok-clause-does : goal.returns-in_ok-take_message-in-Ok-clause-does
returns-in_ok-take_message-in-Ok-clause-does c = λ settings before s first at known settled kept run st ds.
    c.in_ok-take_message-in-Ok.ensures.does settings before c.args.body.now s (subst (λ w. IsRead c.in-Ok.message w) c.bytes.ensures c.in-Ok.ensures.ok) first at known settled kept run st ds

pub returns-in_ok-ignore-in-Err-clause-does : goal.returns-in_ok-ignore-in-Err-clause-does
returns-in_ok-ignore-in-Err-clause-does c = λ settings before s first at known settled kept run st ds.
    let body = c.args.body.now in
    subst (λ ys. Done (λ k events. AllStand settings k events) (row_of settings before (FromServer s body)) (with_cause before (FromServer s body)) [] (c.ignore.new.tables, nothing_owed) ys) (sym first)
    (c.in_ok-ignore-in-Err.ensures.does settings before body s (subst (λ w. Refuses c.in-Err.fault (message_of w)) c.bytes.ensures c.in-Err.ensures.refused) at run st ds)

-- What starts owe

pub returns-in_ok-take_message-in-Ok-clause-owed : goal.returns-in_ok-take_message-in-Ok-clause-owed
returns-in_ok-take_message-in-Ok-clause-owed c = λ settings before known owed at st ds.
    c.in_ok-note_refresh-in-Ok.ensures settings before c.args.body.now (subst (λ w. IsRead c.in-Ok.message w) c.bytes.ensures c.in-Ok.ensures.ok) known st ds owed

pub returns-in_ok-ignore-in-Err-clause-owed : goal.returns-in_ok-ignore-in-Err-clause-owed
returns-in_ok-ignore-in-Err-clause-owed c = λ settings before known owed at st ds.
    let body = c.args.body.now in
    malformed_noted settings c.args.debts.now before owed c.args.s body (c.in_ok-ignore-in-Err.ensures.malformed body (subst (λ w. Refuses c.in-Err.fault (message_of w)) c.bytes.ensures c.in-Err.ensures.refused))

-- What groups carry

pub returns-in_ok-take_message-in-Ok-clause-carried : goal.returns-in_ok-take_message-in-Ok-clause-carried
returns-in_ok-take_message-in-Ok-clause-carried c = λ settings before s first at known settled kept st ds.
    c.in_ok-take_message-in-Ok.ensures.carried settings before c.args.body.now s (subst (λ w. IsRead c.in-Ok.message w) c.bytes.ensures c.in-Ok.ensures.ok) first at known settled kept st ds

pub returns-in_ok-ignore-in-Err-clause-carried : goal.returns-in_ok-ignore-in-Err-clause-carried
returns-in_ok-ignore-in-Err-clause-carried c = λ settings before s first at known settled kept st ds.
    let body = c.args.body.now in
    malformed_said settings c.args.carries.now before s body c.args.outs.now (c.in_ok-ignore-in-Err.ensures.malformed body (subst (λ w. Refuses c.in-Err.fault (message_of w)) c.bytes.ensures c.in-Err.ensures.refused)) kept
