-- Those before are parted with.
use Rattle.std.proofs.Common.{◌≡◌, List, length, take}
use Rattle.event_model.specs.Does.{Does}
use Rattle.event_model.specs.Event.{Event, behind}
use Rattle.event_model.specs.Row.{each}
use Rattle.event_model.specs.Settings.{Settings}
use Rattle.group_rows.specs.Waiting.{part}
use Rattle.mux_tables.specs.Documents.{AllStand, nothing_owed}
use Rattle.mux_starts.specs.Refusing.{Adds, IsUnready}
use Rattle.mux_starts.proofs.PutOut.{AllAtHome}
use Rattle.mux_starts.proofs.refused.part_all.Given as goal

abbrev pub invariant-loop-e : goal.invariant-loop-e
invariant-loop-e l = record {
  count : length l.tables.editors ≡ length l.initial.tables.editors;
  requests : l.tables.requests ≡ l.initial.tables.requests;
  versions : l.tables.versions ≡ l.initial.tables.versions;
  lasts : l.tables.lasts ≡ l.initial.tables.lasts;
  adds : Adds l.initial.outs l.outs;
  does : (settings : Settings) (base : List Event) → IsUnready l.g l.initial.tables.lasts.items → AllAtHome settings (behind base l.initial.outs) l.g l.e-items
      → Does (λ k events. AllStand settings k events) (each (part settings l.g) (take l.e-index l.e-items)) base (l.initial.tables, nothing_owed) l.initial.outs (l.tables, nothing_owed) l.outs;
}
