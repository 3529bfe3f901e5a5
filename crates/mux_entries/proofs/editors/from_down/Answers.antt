-- A message behind `shutdown`.
use Rattle.std.proofs.Common.{ap, ◌∙◌}
use Rattle.std.specs.Prelude.{Some}
use Rattle.event_model.specs.Phases.{is_served}
use Rattle.event_model.proofs.Turns.{alike}
use Rattle.group_rows.specs.Rows.{down_row}
use Rattle.rpc_message.specs.Message.{message_of}
use Rattle.mux_starts.specs.mux_tables.specs.Documents.{AllStand}
use Rattle.mux_entries.proofs.EditorRows.{aside_down, asks_by_sort, done_alike, not_request}
use Rattle.mux_entries.proofs.editors.from_down.Goals as goal

pub returns-in_ok-take_down-in-Request-clause-does : goal.returns-in_ok-take_down-in-Request-clause-does
returns-in_ok-take_down-in-Request-clause-does c = λ settings before body read down unstopped silent first settled st ds.
    let asks = asks_by_sort (message_of body) (c.sort.ensures body read ∙ ap (λ x. Some x) c.in-Request.is) in
    done_alike (λ k events. AllStand settings k events) (alike (ap (down_row settings before c.args.e body) asks.is))
    (c.in_ok-take_down-in-Request.ensures.does settings before body asks.method asks.id asks.params read asks.is down unstopped first settled st ds)

pub returns-in_ok-from_aside-in_default-clause-does : goal.returns-in_ok-from_aside-in_default-clause-does
returns-in_ok-from_aside-in_default-clause-does c = λ settings before body read down unstopped silent first settled st ds.
    let aside = not_request (message_of body) c.sort.result (c.sort.ensures body read) c.in_default.not-Request in
    done_alike (λ k events. AllStand settings k events) (alike (aside_down settings before c.args.e body (message_of body) aside))
    (c.in_ok-from_aside-in_default.ensures.does settings before body read aside (ap is_served down) silent first settled st ds)
