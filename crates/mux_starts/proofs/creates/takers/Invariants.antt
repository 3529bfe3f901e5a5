-- Those so far that accepted it.
use Rattle.std.proofs.Common.{◌≡◌, List, filter, take}
use Rattle.std.specs.Prelude.{Some, slice_get}
use Rattle.event_model.specs.Event.{Event}
use Rattle.event_model.specs.Settings.{Settings}
use Rattle.group_rows.specs.Created.{created_of, has_accepted}
use Rattle.mux_tables.specs.declared.tables.Start.{Start}
use Rattle.mux_tables.specs.Stands.{Stands}
use Rattle.mux_starts.proofs.creates.takers.Given as goal

abbrev pub invariant-loop-e : goal.invariant-loop-e
invariant-loop-e l = (settings : Settings) (before : List Event) (x : Start) → slice_get l.tables.lasts.items l.g ≡ Some x → Stands settings l.tables before
    → l.all.items ≡ filter (λ e. has_accepted e l.k (created_of settings x.life.start before)) (take l.e-index l.numbers)
