use Rattle.std.proofs.Common.{◌≡◌, List, take}
use Rattle.event_model.specs.Event.{Event, behind}
use Rattle.event_model.specs.Settings.{Settings}
use Rattle.mux_causes.specs.mux_tables.specs.Stands.{Stands}
use Rattle.mux_hub.specs.Starts.{servers_of}
use Rattle.mux_hub.proofs.starts.note_spawns.Given as goal

abbrev pub invariant-loop-out : goal.invariant-loop-out
invariant-loop-out l = (settings : Settings) (base : List Event) → settings.default ≡ l.fn.default → Stands settings l.tables (behind base l.out-items) → l.initial.servers.items ≡ servers_of settings base
    → l.servers.items ≡ servers_of settings (behind base (take l.out-index l.out-items))
