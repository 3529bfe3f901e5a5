-- Those so far that agree.
use Rattle.std.proofs.Common.{◌≡◌, ℕ, ◌<◌, List, filter, take}
use Rattle.std.specs.Prelude.{Some, slice_get}
use Rattle.std.specs.List.{All}
use Rattle.event_model.specs.declared.stage.Stage.TheVariants.{Ready}
use Rattle.event_model.specs.Event.{Event}
use Rattle.event_model.specs.Settings.{Settings}
use Rattle.group_rows.specs.Debts.{agrees_on_all}
use Rattle.mux_tables.specs.declared.tables.Start.{Start}
use Rattle.mux_tables.specs.Documents.{DocumentsStand, nothing_owed}
use Rattle.mux_tables.specs.Stands.{Stands}
use Rattle.mux_starts.proofs.refreshed.agreeing.Given as goal

abbrev pub invariant-loop-e : goal.invariant-loop-e
invariant-loop-e l = record {
  those : (settings : Settings) (events : List Event) (x : Start) → slice_get l.tables.lasts.items l.g ≡ Some x → x.life.stage ≡ Ready → Stands settings l.tables events → DocumentsStand settings nothing_owed l.tables events → l.those.items ≡ filter (agrees_on_all settings x.life.start events) (take l.e-index l.numbers);
  inside : (n : ℕ) → All (λ e. e < n) l.numbers → All (λ e. e < n) l.those.items;
}
