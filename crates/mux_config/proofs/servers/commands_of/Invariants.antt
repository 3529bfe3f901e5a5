use Rattle.std.proofs.Common.{◌≡◌, ◌++◌, map, string_bytes}
use Rattle.toml.specs.View.{members_view}
use Rattle.mux_config.specs.Chosen.{commands_of}
use Rattle.mux_config.proofs.servers.commands_of.Given as goal

abbrev pub invariant-loop-name : goal.invariant-loop-name
invariant-loop-name l = map (λ words. map string_bytes words.items) l.commands.items ++ commands_of (members_view l._name-iterator) ≡ commands_of (members_view l.table.entries)
