-- Those before are asked.
use Rattle.std.proofs.Common.{◌≡◌, ℕ, List, false, length, take, true}
use Rattle.std.specs.Prelude.{Option}
use Rattle.std.specs.List.{AllByRecursion}
use Rattle.json_text.specs.Json.{Json}
use Rattle.event_model.specs.Does.{Does}
use Rattle.event_model.specs.Event.{Event, behind}
use Rattle.event_model.specs.Phases.{desk_of, is_running}
use Rattle.event_model.specs.Row.{each}
use Rattle.event_model.specs.Settings.{Settings}
use Rattle.group_rows.specs.AskRows.{ask}
use Rattle.group_rows.specs.Asks.{is_patient}
use Rattle.group_rows.specs.Created.{is_creating}
use Rattle.rpc_message.specs.Message.{Id, message_of, request}
use Rattle.rpc_message.specs.Parsed.{IsRead}
use Rattle.mux_tables.specs.Documents.{AllStand, nothing_owed}
use Rattle.mux_tables.specs.Stands.{IsAtRest}
use Rattle.mux_starts.proofs.refreshed.ask_all.Given as goal

abbrev pub invariant-loop-e : goal.invariant-loop-e
invariant-loop-e l = record {
  count : length l.tables.editors ≡ length l.initial.tables.editors;
  requests : l.tables.requests ≡ l.initial.tables.requests;
  versions : l.tables.versions ≡ l.initial.tables.versions;
  does : (settings : Settings) (base : List Event) (body method : List ℕ) (id : Id) (params : Option Json) → IsRead l.message body → message_of body ≡ request id method params → is_creating method ≡ false → is_patient method ≡ false
      → AllByRecursion (λ e. is_running (desk_of e (behind base l.initial.outs)).phase ≡ true) l.numbers → ((s : ℕ) → IsAtRest settings s (behind base l.initial.outs))
      → Does (λ k events. AllStand settings k events) (each (ask body) (take l.e-index l.numbers)) base (l.initial.tables, nothing_owed) l.initial.outs (l.tables, nothing_owed) l.outs;
}
