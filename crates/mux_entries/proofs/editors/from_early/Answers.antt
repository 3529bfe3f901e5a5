-- A message before the answer to `initialize`.
use Rattle.std.proofs.Common.{ap, ◌∙◌}
use Rattle.std.specs.Prelude.{Some}
use Rattle.event_model.specs.Phases.{desk_of}
use Rattle.event_model.proofs.Turns.{alike}
use Rattle.group_rows.specs.Rows.{early_row}
use Rattle.rpc_message.specs.Message.{message_of}
use Rattle.mux_starts.specs.mux_tables.specs.Documents.{AllStand}
use Rattle.mux_entries.proofs.EditorBuilt.{early_unserved}
use Rattle.mux_entries.proofs.EditorRows.{aside_early, asks_by_sort, done_alike, not_request}
use Rattle.mux_entries.proofs.editors.from_early.Goals as goal

pub returns-in_ok-take_early-in-Request-clause-does : goal.returns-in_ok-take_early-in-Request-clause-does
returns-in_ok-take_early-in-Request-clause-does c = λ settings before body read early unplaced unstopped unasked silent first settled st ds.
    let asks = asks_by_sort (message_of body) (c.sort.ensures body read ∙ ap (λ x. Some x) c.in-Request.is) in
    done_alike (λ k events. AllStand settings k events) (alike (ap (early_row settings before c.args.e body) asks.is))
    (c.in_ok-take_early-in-Request.ensures.does settings before body asks.method asks.id asks.params read asks.is early unplaced unstopped unasked first settled st ds)

pub returns-in_ok-from_aside-in_default-clause-does : goal.returns-in_ok-from_aside-in_default-clause-does
returns-in_ok-from_aside-in_default-clause-does c = λ settings before body read early unplaced unstopped unasked silent first settled st ds.
    let aside = not_request (message_of body) c.sort.result (c.sort.ensures body read) c.in_default.not-Request in
    done_alike (λ k events. AllStand settings k events) (alike (aside_early settings before c.args.e body (message_of body) aside))
    (c.in_ok-from_aside-in_default.ensures.does settings before body read aside (early_unserved (desk_of c.args.e before).phase early) silent first settled st ds)
