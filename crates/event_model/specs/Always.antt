-- A rule that holds at every event of a list.
use Rattle.std.specs.Prelude.{List, [], ◌∷◌, ◌++◌}
use Rattle.event_model.specs.Event.{Event}

-- at each of these events, behind those before it
abbrev pub AlwaysFrom : (List Event → Event → Type 0) → List Event → List Event → Type 0
AlwaysFrom P before [] = Unit {0}
AlwaysFrom P before (event ∷ events) = P before event × AlwaysFrom P (before ++ event ∷ []) events

abbrev pub Always : (List Event → Event → Type 0) → List Event → Type 0
Always P events = AlwaysFrom P [] events
