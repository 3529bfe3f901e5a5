-- Those before are to be ended.
use Rattle.std.proofs.Common.{◌≡◌, List, length, take}
use Rattle.event_model.specs.Does.{Does}
use Rattle.event_model.specs.Event.{Event}
use Rattle.event_model.specs.Settings.{Settings}
use Rattle.group_rows.specs.StopRows.{close_each}
use Rattle.mux_editors.specs.Halting.{Halts}
use Rattle.mux_editors.proofs.stops.close_each.Given as goal

abbrev pub invariant-loop-e : goal.invariant-loop-e
invariant-loop-e l = record {
  count : length l.tables.editors ≡ length l.initial.tables.editors;
  requests : l.tables.requests ≡ l.initial.tables.requests;
  versions : l.tables.versions ≡ l.initial.tables.versions;
  lasts : l.tables.lasts ≡ l.initial.tables.lasts;
  does : (settings : Settings) (base : List Event) → Does (λ t events. Halts settings t events) (close_each (take l.e-index l.editors)) base l.initial.tables l.initial.outs l.tables l.outs;
}
