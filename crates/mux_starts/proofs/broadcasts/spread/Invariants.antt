-- Those before have it.
use Rattle.std.proofs.Common.{◌≡◌, ℕ, false, List, take}
use Rattle.std.specs.Prelude.{Option}
use Rattle.json_text.specs.Json.{Json}
use Rattle.event_model.specs.Does.{Does}
use Rattle.event_model.specs.Event.{Event, behind}
use Rattle.event_model.specs.Row.{each}
use Rattle.event_model.specs.Settings.{Settings}
use Rattle.group_rows.specs.AskRows.{broadcast}
use Rattle.group_rows.specs.Lists.{is_publishing}
use Rattle.rpc_message.specs.Message.{message_of, notification}
use Rattle.mux_tables.specs.Documents.{DocumentsStand, Owed}
use Rattle.mux_tables.specs.Stands.{Stands}
use Rattle.mux_starts.proofs.broadcasts.spread.Given as goal

abbrev pub invariant-loop-e : goal.invariant-loop-e
invariant-loop-e l = record {
  does : (settings : Settings) (base : List Event) (method : List ℕ) (params : Option Json) → is_publishing method ≡ false → message_of l.body ≡ notification method params
      → Does (λ t events. Stands settings t events) (each (broadcast l.body) (take l.e-index l.numbers)) base l.tables l.initial.outs l.tables l.outs;
  documents : (settings : Settings) (owed : Owed) (base : List Event) → DocumentsStand settings owed l.tables (behind base l.initial.outs) → DocumentsStand settings owed l.tables (behind base l.outs);
}
