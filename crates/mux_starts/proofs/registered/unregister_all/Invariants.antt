-- Those before are told.
use Rattle.std.proofs.Common.{◌≡◌, ℕ, List, length, take, true}
use Rattle.std.specs.Prelude.{None}
use Rattle.std.specs.List.{AllByRecursion}
use Rattle.event_model.specs.Does.{Does}
use Rattle.event_model.specs.Event.{Event, behind}
use Rattle.event_model.specs.Phases.{desk_of, is_running}
use Rattle.event_model.specs.Row.{each}
use Rattle.event_model.specs.Settings.{Settings}
use Rattle.group_rows.specs.Asks.{asking_of}
use Rattle.group_rows.specs.Live.{unregister_text}
use Rattle.group_rows.specs.LiveRows.{call}
use Rattle.mux_tables.specs.Documents.{AllStand, nothing_owed}
use Rattle.mux_turns.specs.Calls.{IsCall}
use Rattle.mux_starts.proofs.registered.unregister_all.Given as goal

abbrev pub invariant-loop-e : goal.invariant-loop-e
invariant-loop-e l = record {
  count : length l.tables.editors ≡ length l.initial.tables.editors;
  requests : l.tables.requests ≡ l.initial.tables.requests;
  versions : l.tables.versions ≡ l.initial.tables.versions;
  does : (settings : Settings) (base : List Event) → IsCall (unregister_text l.gone)
      → AllByRecursion (λ e. is_running (desk_of e (behind base l.initial.outs)).phase ≡ true) l.numbers → ((s : ℕ) → (asking_of settings s (behind base l.initial.outs)).asker ≡ None)
      → Does (λ k events. AllStand settings k events) (each (call (unregister_text l.gone)) (take l.e-index l.numbers)) base (l.initial.tables, nothing_owed) l.initial.outs (l.tables, nothing_owed) l.outs;
}
