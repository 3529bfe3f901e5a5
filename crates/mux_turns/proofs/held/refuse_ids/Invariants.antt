-- Those before failed.
use Rattle.std.proofs.Common.{◌≡◌, List, take}
use Rattle.std.specs.List.{AllByRecursion}
use Rattle.event_model.specs.Does.{Does}
use Rattle.event_model.specs.Event.{Event, behind}
use Rattle.event_model.specs.Row.{each}
use Rattle.event_model.specs.Settings.{Settings}
use Rattle.mux_tables.specs.Documents.{DocumentsStand, Owed}
use Rattle.mux_tables.specs.Stands.{Stands}
use Rattle.mux_turns.specs.Initials.{IsNamed, refuse_id}
use Rattle.mux_turns.specs.Welcomes.{Informs}
use Rattle.mux_turns.proofs.held.refuse_ids.Given as goal

abbrev pub invariant-loop-id : goal.invariant-loop-id
invariant-loop-id l = record {
  requests : l.tables.requests ≡ l.initial.tables.requests;
  versions : l.tables.versions ≡ l.initial.tables.versions;
  lasts : l.tables.lasts ≡ l.initial.tables.lasts;
  editors : l.tables.editors ≡ l.initial.tables.editors;
  same : l.tables.documents ≡ l.initial.tables.documents;
  told : Informs l.initial.outs l.outs;
  does : (settings : Settings) (base : List Event) → AllByRecursion IsNamed l.ids → Does (λ t events. Stands settings t events) (each (refuse_id l.e) (take l.id-index l.ids)) base l.initial.tables l.initial.outs l.tables l.outs;
  documents : (settings : Settings) (owed : Owed) (base : List Event) → DocumentsStand settings owed l.initial.tables (behind base l.initial.outs) → DocumentsStand settings owed l.tables (behind base l.outs);
}
