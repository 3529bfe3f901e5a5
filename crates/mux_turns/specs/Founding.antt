-- The group that is founded next, by the starts.
use Rattle.std.specs.Prelude.{ℕ, List}
use Rattle.event_model.specs.Event.{Event}
use Rattle.mux_tables.specs.Stands.{IsNew}

-- no group from it on has one
pub record IsNext (n : ℕ) (events : List Event) : Type 0 where
  pub none : IsNew n events
