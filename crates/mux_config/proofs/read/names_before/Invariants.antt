use Rattle.std.proofs.Common.{◌≡◌, ◌+◌, ◌≤◌}
use Rattle.toml.specs.View.{members_view}
use Rattle.mux_config.specs.Chosen.{names_before}
use Rattle.mux_config.specs.Settings.{count}
use Rattle.mux_config.proofs.read.names_before.Given as goal

abbrev pub invariant-loop-name : goal.invariant-loop-name
invariant-loop-name l = (l.before + names_before l.wanted (members_view l.name-iterator) ≡ names_before l.wanted (members_view l.servers.entries)) × (l.before + count (members_view l.name-iterator) ≤ 1024)
