-- What is known of the groups of which is told.
use Rattle.std.specs.Prelude.{◌≡◌, ℕ, List}
use Rattle.std.specs.Prelude.{Some}
use Rattle.event_model.specs.declared.stage.Stage.TheVariants.{Ended}
use Rattle.event_model.specs.Event.{Event}
use Rattle.event_model.specs.Spawns.{start_of}
use Rattle.event_model.specs.Stages.{life_of}

-- the last start of this group, where it has one, didn't end
abbrev pub Runs : ℕ → List Event → Type 0
Runs g events = (s : ℕ) → start_of g events ≡ Some s → (life_of s events).stage ≡ Ended → ⊥
