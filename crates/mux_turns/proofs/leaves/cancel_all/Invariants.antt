-- Those before are cancelled.
use Rattle.std.proofs.Common.{◌≡◌, ℕ, List, map, take}
use Rattle.std.specs.Prelude.{Some, slice_get}
use Rattle.event_model.specs.Does.{Does}
use Rattle.event_model.specs.Event.{Event, behind}
use Rattle.event_model.specs.Row.{each}
use Rattle.event_model.specs.Settings.{Settings}
use Rattle.group_facts.specs.group_rows.specs.Leaves.{cancel}
use Rattle.mux_tables.specs.Documents.{DocumentsStand, Owed}
use Rattle.mux_tables.specs.Refusals.{asks_in}
use Rattle.mux_tables.specs.Stands.{Stands, house_in, number_in, stage_in}
use Rattle.mux_turns.proofs.leaves.cancel_all.Given as goal

abbrev pub invariant-loop-n : goal.invariant-loop-n
invariant-loop-n l = record {
  requests : l.tables.requests ≡ l.initial.tables.requests;
  versions : l.tables.versions ≡ l.initial.tables.versions;
  starts : map number_in l.tables.lasts.items ≡ map number_in l.initial.tables.lasts.items;
  stages : map stage_in l.tables.lasts.items ≡ map stage_in l.initial.tables.lasts.items;
  asks : map asks_in l.tables.lasts.items ≡ map asks_in l.initial.tables.lasts.items;
  groups : map house_in l.tables.lasts.items ≡ map house_in l.initial.tables.lasts.items;
  does : (settings : Settings) (base : List Event) (s : ℕ) → slice_get (map number_in l.initial.tables.lasts.items) l.g ≡ Some s
      → Does (λ t events. Stands settings t events) (each (cancel s) (take l.n-index l.numbers)) base l.initial.tables l.initial.outs l.tables l.outs;
  documents : (settings : Settings) (owed : Owed) (base : List Event) → DocumentsStand settings owed l.initial.tables (behind base l.initial.outs) → DocumentsStand settings owed l.tables (behind base l.outs);
}
