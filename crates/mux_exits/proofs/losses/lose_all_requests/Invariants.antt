-- Those before lose theirs.
use Rattle.std.proofs.Common.{◌≡◌, ◌++◌, ℕ, List, flat_map, map, take}
use Rattle.std.specs.Prelude.{Some, slice_get}
use Rattle.std.specs.List.{AllByRecursion}
use Rattle.event_model.specs.Event.{Event}
use Rattle.event_model.specs.Settings.{Settings}
use Rattle.mux_exits.specs.Losses.{IsInside, lost_sent}
use Rattle.mux_tables.specs.Stands.{Stands, number_in}
use Rattle.mux_exits.proofs.losses.lose_all_requests.Given as goal

abbrev pub invariant-loop-e : goal.invariant-loop-e
invariant-loop-e l = record {
  inside : (n : ℕ) → AllByRecursion (IsInside n) l.initial.losses.items → AllByRecursion (IsInside n) l.losses.items;
  lost : (settings : Settings) (before : List Event) (s : ℕ) → slice_get (map number_in l.tables.lasts.items) l.g ≡ Some s → Stands settings l.tables before
      → l.losses.items ≡ l.initial.losses.items ++ flat_map (lost_sent settings before s) (take l.e-index l.editors);
}
