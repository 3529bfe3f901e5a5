-- Those so far that were shown one.
use Rattle.std.proofs.Common.{◌≡◌, ◌<◌, List, filter, length, take}
use Rattle.std.specs.List.{All}
use Rattle.event_model.specs.Event.{Event}
use Rattle.event_model.specs.Phases.{desk_of}
use Rattle.event_model.specs.Settings.{Settings}
use Rattle.group_rows.specs.Earlier.{was_shown}
use Rattle.mux_tables.specs.Stands.{Stands}
use Rattle.mux_starts.proofs.results.shown_among.Given as goal

abbrev pub invariant-loop-e : goal.invariant-loop-e
invariant-loop-e l = record {
  inside : All (λ e. e < length l.tables.editors) l.all.items;
  those : (settings : Settings) (events : List Event) → Stands settings l.tables events → l.all.items ≡ filter (λ e. was_shown (desk_of e events).phase) (take l.e-index l.members);
}
