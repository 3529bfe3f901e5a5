-- Those before are to be empty.
use Rattle.std.proofs.Common.{◌≡◌, ◌<◌, ◌++◌, ℕ, List, take}
use Rattle.std.specs.Prelude.{Some, slice_get}
use Rattle.std.specs.List.{AllByRecursion}
use Rattle.event_model.specs.declared.stage.Stage.TheVariants.{Ready}
use Rattle.event_model.specs.Event.{Event}
use Rattle.event_model.specs.Settings.{Settings}
use Rattle.group_rows.specs.Lists.{lists_of}
use Rattle.mux_exits.specs.Losses.{IsInside, Runs, emptied}
use Rattle.mux_tables.specs.declared.tables.Start.{Start}
use Rattle.mux_tables.specs.Stands.{Stands}
use Rattle.mux_exits.proofs.losses.empty_each.Given as goal

abbrev pub invariant-loop-n : goal.invariant-loop-n
invariant-loop-n l = record {
  inside : (n : ℕ) → l.e < n → AllByRecursion (IsInside n) l.initial.losses.items → AllByRecursion (IsInside n) l.losses.items;
  lost : (settings : Settings) (before : List Event) (x : Start) → slice_get l.tables.lasts.items l.g ≡ Some x → x.life.stage ≡ Ready → Runs before l.e → Stands settings l.tables before
      → l.losses.items ≡ l.initial.losses.items ++ emptied before l.e (take l.n (lists_of x.life.start before));
}
