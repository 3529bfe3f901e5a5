-- A request of the multiplexer's own.
use Rattle.std.proofs.Common.{sym, ◌∙◌}
use Rattle.rpc_message.specs.Message.{message_of}
use Rattle.mux_starts.specs.mux_tables.specs.Documents.{AllStand}
use Rattle.mux_editors.proofs.Lspmux.{other_status}
use Rattle.mux_entries.proofs.EditorRows.{done_alike, halts, opens, stops_all, tells}
use Rattle.mux_entries.proofs.editors.from_own.Goals as goal

pub returns-in_ok-take_open-clause-does : goal.returns-in_ok-take_open-clause-does
returns-in_ok-take_open-clause-does c = λ settings before body read asks servers first known settled there single st ds.
    let names = sym (c.is_open.ensures body read) ∙ c.if-is_open.true in
    done_alike (λ k events. AllStand settings k events) (opens settings before c.args.e body names)
    (c.in_ok-take_open.ensures.does settings before body read names servers first st ds)

pub returns-in_ok-take_stop-clause-does : goal.returns-in_ok-take_stop-clause-does
returns-in_ok-take_stop-clause-does c = λ settings before body read asks servers first known settled there single st ds.
    let other = sym (c.is_open.ensures body read) ∙ c.if-is_open.false in
    let names = sym (c.is_stop.ensures body read) ∙ c.if-is_stop.true in
    done_alike (λ k events. AllStand settings k events) (halts settings before c.args.e body other names)
    (c.in_ok-take_stop.ensures.does settings before body read (stops_all settings before c.args.e body names there single) first known settled st ds)

pub returns-in_ok-take_status-clause-does : goal.returns-in_ok-take_status-clause-does
returns-in_ok-take_status-clause-does c = λ settings before body read asks servers first known settled there single st ds.
    let other = sym (c.is_open.ensures body read) ∙ c.if-is_open.false in
    let goes = sym (c.is_stop.ensures body read) ∙ c.if-is_stop.false in
    done_alike (λ k events. AllStand settings k events) (tells settings before c.args.e body other goes)
    (c.in_ok-take_status.ensures.does settings before body read (other_status (message_of body) asks other goes) single servers first settled st ds)
