-- Those before are offered.
use Rattle.std.proofs.Common.{◌≡◌, ℕ, List, length, map, take, true}
use Rattle.std.specs.Prelude.{None, Some, slice_get}
use Rattle.event_model.specs.Does.{Does}
use Rattle.event_model.specs.Event.{Event, behind}
use Rattle.event_model.specs.Phases.{desk_of, is_running}
use Rattle.event_model.specs.Row.{each}
use Rattle.event_model.specs.Settings.{Settings}
use Rattle.group_rows.specs.Asks.{asking_of}
use Rattle.group_rows.specs.Created.{created_of}
use Rattle.group_rows.specs.CreatedRows.{offer}
use Rattle.mux_tables.specs.declared.tables.Start.{Start}
use Rattle.mux_tables.specs.Documents.{AllStand, Owed}
use Rattle.mux_turns.specs.Creates.{AreSmall}
use Rattle.mux_editors.specs.Running.{AreUnasked}
use Rattle.mux_editors.proofs.LiveOffers.{listed}
use Rattle.mux_editors.proofs.running.offer_each.Given as goal

abbrev pub invariant-loop-token : goal.invariant-loop-token
invariant-loop-token l = record {
  count : length l.tables.editors ≡ length l.initial.tables.editors;
  lasts : l.tables.lasts ≡ l.initial.tables.lasts;
  requests : l.tables.requests ≡ l.initial.tables.requests;
  versions : l.tables.versions ≡ l.initial.tables.versions;
  does : (settings : Settings) (owed : Owed) (base : List Event) (x : Start) → slice_get l.initial.tables.lasts.items l.g ≡ Some x
      → is_running (desk_of l.e (behind base l.initial.outs)).phase ≡ true → ((s : ℕ) → (asking_of settings s (behind base l.initial.outs)).asker ≡ None)
      → l.live ≡ map listed (created_of settings x.life.start (behind base l.initial.outs)).tokens
      → AreUnasked l.e (created_of settings x.life.start (behind base l.initial.outs)).takings → AreSmall settings (behind base l.initial.outs)
      → Does (λ k events. AllStand settings k events) (each (offer x.life.start l.e) (take l.token-index (created_of settings x.life.start (behind base l.initial.outs)).tokens)) base (l.initial.tables, owed) l.initial.outs (l.tables, owed) l.outs;
}
