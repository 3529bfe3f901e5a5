-- Those before are asked.
use Rattle.std.proofs.Common.{◌≡◌, ℕ, List, find, length, take, true}
use Rattle.std.specs.Prelude.{None, Some, slice_get}
use Rattle.std.specs.List.{AllByRecursion}
use Rattle.event_model.specs.Does.{Does}
use Rattle.event_model.specs.Event.{Event, behind}
use Rattle.event_model.specs.Phases.{desk_of, is_running}
use Rattle.event_model.specs.Row.{each}
use Rattle.event_model.specs.Settings.{Settings}
use Rattle.group_rows.specs.Asks.{asking_of}
use Rattle.group_rows.specs.Created.{Token, created_of, is_numbered}
use Rattle.group_rows.specs.CreatedRows.{offer}
use Rattle.mux_tables.specs.declared.tables.Start.{Start}
use Rattle.mux_tables.specs.Documents.{AllStand, nothing_owed}
use Rattle.mux_turns.specs.Creates.{AreSmall, Unasked}
use Rattle.mux_starts.specs.Creates.{AreApart}
use Rattle.mux_starts.proofs.creates.offer_each.Given as goal

abbrev pub invariant-loop-e : goal.invariant-loop-e
invariant-loop-e l = record {
  count : length l.tables.editors ≡ length l.initial.tables.editors;
  lasts : l.tables.lasts ≡ l.initial.tables.lasts;
  requests : l.tables.requests ≡ l.initial.tables.requests;
  versions : l.tables.versions ≡ l.initial.tables.versions;
  does : (settings : Settings) (base : List Event) (x : Start) (token : Token) → slice_get l.initial.tables.lasts.items l.g ≡ Some x → AreApart l.numbers
      → AllByRecursion (λ e. is_running (desk_of e (behind base l.initial.outs)).phase ≡ true) l.numbers → ((s : ℕ) → (asking_of settings s (behind base l.initial.outs)).asker ≡ None)
      → find (is_numbered l.k) (created_of settings x.life.start (behind base l.initial.outs)).tokens ≡ Some token
      → AllByRecursion (λ e. Unasked e l.k (created_of settings x.life.start (behind base l.initial.outs)).takings) l.numbers → AreSmall settings (behind base l.initial.outs)
      → Does (λ k events. AllStand settings k events) (each (λ e. offer x.life.start e token) (take l.e-index l.numbers)) base (l.initial.tables, nothing_owed) l.initial.outs (l.tables, nothing_owed) l.outs;
}
