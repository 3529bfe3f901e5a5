use Rattle.std.proofs.Common.{◌≡◌, drop}
use Rattle.toml.specs.View.{items_view}
use Rattle.mux_config.specs.Settings.{all_strings}
use Rattle.mux_config.proofs.values.are_strings.Given as goal

abbrev pub invariant-loop-value : goal.invariant-loop-value
invariant-loop-value l = all_strings (items_view (drop l.value-index l.values)) ≡ all_strings (items_view l.values)
