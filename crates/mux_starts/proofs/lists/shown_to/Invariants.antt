-- What those so far are shown.
use Rattle.std.proofs.Common.{◌≡◌, ℕ, ◌<◌, List, take}
use Rattle.std.specs.Prelude.{Some, slice_get}
use Rattle.std.specs.List.{All, AllByRecursion}
use Rattle.event_model.specs.declared.stage.Stage.TheVariants.{Ready}
use Rattle.event_model.specs.Event.{Event}
use Rattle.event_model.specs.Settings.{Settings}
use Rattle.rpc_message.specs.Parsed.{IsRead}
use Rattle.mux_starts.specs.Lists.{IsInside, all_shown}
use Rattle.mux_tables.specs.declared.tables.Start.{Start}
use Rattle.mux_tables.specs.Documents.{DocumentsStand, nothing_owed}
use Rattle.mux_tables.specs.Stands.{Stands}
use Rattle.mux_starts.proofs.lists.shown_to.Given as goal

abbrev pub invariant-loop-e : goal.invariant-loop-e
invariant-loop-e l = record {
  inside : (n : ℕ) → All (λ e. e < n) l.numbers → AllByRecursion (IsInside n) l.tellings.items;
  shown : (settings : Settings) (before : List Event) (x : Start) → IsRead l.message l.list.body → slice_get l.tables.lasts.items l.g ≡ Some x → x.life.stage ≡ Ready
      → Stands settings l.tables before → DocumentsStand settings nothing_owed l.tables before
      → l.tellings.items ≡ all_shown settings before x.life.start l.list (take l.e-index l.numbers);
}
