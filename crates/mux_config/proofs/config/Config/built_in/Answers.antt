use Rattle.std.proofs.Common.{rules}
use Rattle.mux_config.specs.Chosen.{built_in, chosen_of}
use Rattle.mux_config.proofs.KeptServers.{built_in_kept, in_range_by}
use Rattle.mux_config.proofs.config.Config.built_in.Goals as goal

pub invariant_of-result : goal.invariant_of-result
invariant_of-result c = record { in_range = in_range_by _ (chosen_of built_in) built_in_kept (search rules) }
