use Rattle.std.proofs.Common.{◌≡◌, ◌++◌, map, drop, string_bytes}
use Rattle.toml.specs.View.{items_view}
use Rattle.mux_config.specs.Chosen.{strings_of}
use Rattle.mux_config.proofs.servers.strings.Given as goal

abbrev pub invariant-loop-value : goal.invariant-loop-value
invariant-loop-value l = map string_bytes l.words.items ++ strings_of (items_view (drop l.value-index l.values)) ≡ strings_of (items_view l.values)
