-- Those before are turned out.
use Rattle.std.proofs.Common.{◌≡◌, ℕ, List, length, take}
use Rattle.event_model.specs.Does.{Does}
use Rattle.event_model.specs.Event.{Event, behind}
use Rattle.event_model.specs.Row.{each}
use Rattle.event_model.specs.Settings.{Settings}
use Rattle.group_rows.specs.ExitRows.{turn_out}
use Rattle.mux_exits.specs.Partings.{AreHome}
use Rattle.mux_starts.specs.Refusing.{IsUnready}
use Rattle.mux_tables.specs.Documents.{AllStand, nothing_owed}
use Rattle.mux_turns.specs.Initials.{AllHoused}
use Rattle.mux_turns.specs.Welcomes.{AllAsking}
use Rattle.mux_exits.proofs.turned.turn_out_all.Given as goal

abbrev pub invariant-loop-e : goal.invariant-loop-e
invariant-loop-e l = record {
  count : length l.tables.editors ≡ length l.initial.tables.editors;
  requests : l.tables.requests ≡ l.initial.tables.requests;
  versions : l.tables.versions ≡ l.initial.tables.versions;
  lasts : l.tables.lasts ≡ l.initial.tables.lasts;
  does : (settings : Settings) (base : List Event) → IsUnready l.g l.initial.tables.lasts.items → AllAsking (behind base l.initial.outs) → AllHoused settings (behind base l.initial.outs)
      → AreHome settings (behind base l.initial.outs) l.g l.editors
      → Does (λ k events. AllStand settings k events) (each (turn_out settings l.g) (take l.e-index l.editors)) base (l.initial.tables, nothing_owed) l.initial.outs (l.tables, nothing_owed) l.outs;
}
