-- Those before went to the editor.
use Rattle.std.proofs.Common.{List, take}
use Rattle.event_model.specs.Does.{Does}
use Rattle.event_model.specs.Event.{Event, behind}
use Rattle.event_model.specs.Row.{each}
use Rattle.event_model.specs.Settings.{Settings}
use Rattle.group_rows.specs.CreatedRows.{tell}
use Rattle.mux_tables.specs.Documents.{DocumentsStand, Owed}
use Rattle.mux_tables.specs.Stands.{Stands}
use Rattle.mux_editors.specs.Handing.{AreHeld}
use Rattle.mux_editors.proofs.handed.hand_out.Given as goal

abbrev pub invariant-loop-body : goal.invariant-loop-body
invariant-loop-body l = record {
  does : (settings : Settings) (base : List Event) → AreHeld l.body-items
      → Does (λ t events. Stands settings t events) (each (tell l.s l.fn.handed.token l.e) (take l.body-index l.body-items)) base l.tables l.initial.outs l.tables l.outs;
  documents : (settings : Settings) (owed : Owed) (base : List Event) → DocumentsStand settings owed l.tables (behind base l.initial.outs) → DocumentsStand settings owed l.tables (behind base l.outs);
}
