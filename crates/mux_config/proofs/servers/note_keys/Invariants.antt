use Rattle.std.proofs.Common.{◌≡◌}
use Rattle.toml.specs.View.{members_view}
use Rattle.mux_config.specs.Faults.{first_in}
use Rattle.mux_config.specs.Settings.{keys_faults}
use Rattle.mux_config.proofs.servers.note_keys.Given as goal

abbrev pub invariant-loop-key : goal.invariant-loop-key
invariant-loop-key l = first_in l.first (keys_faults l.name (members_view l.key-iterator)) ≡ first_in l.initial.first (keys_faults l.name (members_view l.keys.entries))
