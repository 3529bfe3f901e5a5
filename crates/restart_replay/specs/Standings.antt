-- Where a start of a server stands (LSP 3.17, Lifecycle Messages).
use Rattle.std.specs.Prelude.{◌≡◌, ◌≢◌, ℕ, Bool, true, false, Option, Some, None, is_some}
use Rattle.event_model.specs.declared.stage.Stage.{Stage}
use Rattle.event_model.specs.declared.stage.Stage.TheVariants.{Unspawned, Spawning, Stopping}

-- a start: its number and that of its group, its stage, and the number and the moment of its `shutdown`
pub record Standing : Type 0 where
  pub start : ℕ
  pub group : ℕ
  pub stage : Stage
  pub stopping : Option (ℕ × ℕ)

-- its answer to `shutdown` is awaited
abbrev pub is_stopping : Stage → Bool
is_stopping Stopping = true
is_stopping _ = false

-- as it is spawned
abbrev pub spawned : ℕ → ℕ → Standing
spawned start group = record { start = start; group = group; stage = Spawning; stopping = None }

-- the same start in a stage in which no answer to `shutdown` is awaited
abbrev pub moved : Stage → Standing → Standing
moved stage life = record life { stage = stage; stopping = None }

-- the same start from its `shutdown` on, which had this number and was sent at this moment
abbrev pub stopped : ℕ → ℕ → Standing → Standing
stopped number now life = record life { stage = Stopping; stopping = Some (number, now) }

-- it was spawned, and has the number and the moment of `shutdown` as long as the answer is awaited
pub record IsLife (stage : Stage) (stopping : Option (ℕ × ℕ)) : Type 0 where
  pub begun : stage ≢ Unspawned
  pub awaited : is_some stopping ≡ is_stopping stage
