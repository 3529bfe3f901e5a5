use Rattle.std.proofs.Common.{◌≡◌, ◌++◌}
use Rattle.std.specs.Prelude.{IsUtf8}
use Rattle.std.specs.List.{AllByRecursion}
use Rattle.toml.specs.View.{members_view}
use Rattle.mux_config.specs.Chosen.{names_of, servers_of}
use Rattle.mux_config.proofs.servers.servers_of.Given as goal

abbrev pub invariant-loop-name : goal.invariant-loop-name
invariant-loop-name l = (l.servers.items ++ servers_of (members_view l.name-iterator) ≡ servers_of (members_view l.table.entries)) × AllByRecursion IsUtf8 (names_of l.servers.items)
