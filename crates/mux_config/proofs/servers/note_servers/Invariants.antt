use Rattle.std.proofs.Common.{◌≡◌}
use Rattle.toml.specs.View.{members_view}
use Rattle.mux_config.specs.Faults.{first_in}
use Rattle.mux_config.specs.Settings.{servers_faults}
use Rattle.mux_config.proofs.servers.note_servers.Given as goal

abbrev pub invariant-loop-name : goal.invariant-loop-name
invariant-loop-name l = first_in l.first (servers_faults (members_view l.name-iterator)) ≡ first_in l.initial.first (servers_faults (members_view l.servers.entries))
