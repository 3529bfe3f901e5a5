-- A fold over events whose step sees the events before it.
use Rattle.std.specs.Prelude.{List, [], ◌∷◌, ◌++◌}
use Rattle.event_model.specs.Event.{Event}

abbrev pub past : {A : Type 0} → (List Event → A → Event → A) → List Event → A → List Event → A
past step before x [] = x
past step before x (event ∷ events) = past step (before ++ event ∷ []) (step before x event) events
