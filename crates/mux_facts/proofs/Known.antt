-- Starts whose program never ran.
use Rattle.std.proofs.Common.{Bool, true, false}
use Rattle.event_model.specs.declared.stage.Stage.{Stage}
use Rattle.event_model.specs.declared.stage.Stage.TheVariants.{Unspawned, Spawning}

-- its program never ran
abbrev pub is_unbegun : Stage → Bool
is_unbegun Unspawned = true
is_unbegun Spawning = true
is_unbegun other = false
