-- Starts whose programs are to be ended, one after the other.
use Rattle.std.specs.Prelude.{◌≡◌, ℕ, List, [], ◌∷◌, ◌++◌}
use Rattle.mux_history.specs.declared.out.Out.TheVariants.{EndServer}
use Rattle.event_model.specs.declared.stage.Stage.TheVariants.{Stopping}
use Rattle.event_model.specs.Event.{Event, said}
use Rattle.event_model.specs.Stages.{life_of}

-- the answer to `shutdown` of each is awaited where its turn comes
abbrev pub AreStopping : List Event → List ℕ → Type 0
AreStopping events [] = Unit {0}
AreStopping events (s ∷ starts) = ((life_of s events).stage ≡ Stopping) × AreStopping (events ++ said (EndServer s) ∷ []) starts
