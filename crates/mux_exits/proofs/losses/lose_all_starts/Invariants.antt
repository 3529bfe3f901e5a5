-- Those before lose it.
use Rattle.std.proofs.Common.{◌≡◌, ◌++◌, List, flat_map, length, take}
use Rattle.std.specs.Prelude.{Some, slice_get}
use Rattle.std.specs.List.{All, AllByRecursion}
use Rattle.event_model.specs.declared.stage.Stage.TheVariants.{Ready}
use Rattle.event_model.specs.Event.{Event}
use Rattle.event_model.specs.Settings.{Settings}
use Rattle.mux_exits.specs.Losses.{IsInside, Runs, lost_start}
use Rattle.mux_tables.specs.declared.tables.Start.{Start}
use Rattle.mux_tables.specs.Stands.{Stands}
use Rattle.mux_exits.proofs.losses.lose_all_starts.Given as goal

abbrev pub invariant-loop-e : goal.invariant-loop-e
invariant-loop-e l = record {
  inside : AllByRecursion (IsInside (length l.tables.editors)) l.initial.losses.items → AllByRecursion (IsInside (length l.tables.editors)) l.losses.items;
  lost : (settings : Settings) (before : List Event) (x : Start) → slice_get l.tables.lasts.items l.g ≡ Some x → x.life.stage ≡ Ready → All (Runs before) l.editors → Stands settings l.tables before
      → l.losses.items ≡ l.initial.losses.items ++ flat_map (lost_start settings before x.life.start) (take l.e-index l.editors);
}
