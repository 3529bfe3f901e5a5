-- What is told so far, and what is to come.
use Rattle.std.proofs.Common.{◌≡◌, List, ◌++◌, drop, flat_map, map}
use Rattle.event_model.specs.Event.{Event}
use Rattle.event_model.specs.Settings.{Settings}
use Rattle.group_rows.specs.Status.{item_in, item_text}
use Rattle.std.specs.List.{AllByRecursion}
use Rattle.mux_tables.specs.Stands.{Stands}
use Rattle.mux_editors.specs.Tellings.{Runs}
use Rattle.mux_editors.proofs.status.items.Given as goal

abbrev pub invariant-loop-g : goal.invariant-loop-g
invariant-loop-g l = (settings : Settings) (before : List Event) → settings.servers ≡ l.servers → AllByRecursion (λ g. Runs g before) l.groups → Stands settings l.tables before
    → map item_text (flat_map (item_in settings before) l.groups) ≡ l.items.items ++ map item_text (flat_map (item_in settings before) (drop l.g-index l.groups))
