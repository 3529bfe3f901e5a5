-- Those before were refused.
use Rattle.std.proofs.Common.{◌≡◌, List, take}
use Rattle.event_model.specs.Does.{Does}
use Rattle.event_model.specs.Event.{Event, behind}
use Rattle.event_model.specs.Row.{each}
use Rattle.event_model.specs.Settings.{Settings}
use Rattle.group_rows.specs.StopRows.{refuse_open}
use Rattle.mux_tables.specs.Documents.{DocumentsStand, Owed}
use Rattle.mux_tables.specs.Stands.{Stands}
use Rattle.mux_turns.specs.group_facts.specs.Facts.{AllForwarded}
use Rattle.mux_editors.specs.Halting.{Refusing}
use Rattle.mux_editors.proofs.stops.refuse_each.Given as goal

abbrev pub invariant-loop-e : goal.invariant-loop-e
invariant-loop-e l = record {
  requests : l.tables.requests ≡ l.initial.tables.requests;
  versions : l.tables.versions ≡ l.initial.tables.versions;
  lasts : l.tables.lasts ≡ l.initial.tables.lasts;
  editors_are : l.tables.editors ≡ l.initial.tables.editors;
  refusing : (settings : Settings) (before base : List Event) → AllForwarded settings before → Refusing settings before (behind base l.initial.outs) → Stands settings l.initial.tables (behind base l.initial.outs) → Refusing settings before (behind base l.outs);
  does : (settings : Settings) (before base : List Event) → AllForwarded settings before → Refusing settings before (behind base l.initial.outs)
      → Does (λ t events. Stands settings t events) (each (refuse_open settings before) (take l.e-index l.editors)) base l.initial.tables l.initial.outs l.tables l.outs;
  documents : (settings : Settings) (owed : Owed) (base : List Event) → DocumentsStand settings owed l.initial.tables (behind base l.initial.outs) → DocumentsStand settings owed l.tables (behind base l.outs);
}
