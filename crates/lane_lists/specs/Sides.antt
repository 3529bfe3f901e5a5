-- What the side items of an editors' lane answer: the bodies that it was ordered to write, one by one.
use Rattle.std.specs.Prelude.{◌≡◌, ℕ, ◌<◌, ◌==◌, not, List, [], ◌∷◌, ◌++◌, filter, length, slice_get, Some}
use Rattle.mux_history.specs.declared.entry.Entry.{Entry}
use Rattle.mux_history.specs.declared.cause.Cause.{Cause}
use Rattle.mux_history.specs.declared.cause.Cause.TheVariants as cause
use Rattle.mux_history.specs.declared.cause.Why.TheVariants as why
use Rattle.lane_lists.specs.declared.item.LaneName.TheVariants as lane
use Rattle.lane_lists.specs.declared.item.Order.{Order}
use Rattle.lane_lists.specs.declared.item.Order.TheVariants as order
use Rattle.lane_lists.specs.declared.item.Side.{Side}
use Rattle.lane_lists.specs.declared.item.Side.TheVariants as side
use Rattle.lane_lists.specs.Deeds.{Deed, Fair, entries, orders, sessions, sides}
use Rattle.lane_lists.specs.Origins.{AllIn}

-- the bodies of these orders, each with the editor of its session and its length; each Close or Done ends a session
abbrev pub tagged : List ℕ → List Order → List (ℕ × ℕ)
tagged [] os = []
tagged (e ∷ es) [] = []
tagged (e ∷ es) (order.Begin s ∷ os) = tagged (e ∷ es) os
tagged (e ∷ es) (order.Body body ∷ os) = (e, length body) ∷ tagged (e ∷ es) os
tagged (e ∷ es) (order.Close ∷ os) = tagged es os
tagged (e ∷ es) (order.Done ∷ os) = tagged es os

-- each side item answers the first body that is left; behind a write that failed none of the same session is left
abbrev pub answers : List Side → List (ℕ × ℕ) → List ((ℕ × ℕ) × Side)
answers [] owed = []
answers (s ∷ ss) [] = []
answers (side.Wrote ∷ ss) (o ∷ owed) = (o, side.Wrote) ∷ answers ss owed
answers (side.Broke ∷ ss) (o ∷ owed) = (o, side.Broke) ∷ answers ss (filter (λ (x : ℕ × ℕ). not (x.0 == o.0)) owed)

-- what a cause says of bodies to an editor: they were drained, or their write failed
abbrev pub drained_in : Cause → List (ℕ × ℕ)
drained_in (cause.Drained e k) = (e, k) ∷ []
drained_in other = []

abbrev pub failed_in : Cause → List ℕ
failed_in (cause.EditorGone e why.WriteFault) = e ∷ []
failed_in other = []

-- what all causes of a history say, in their order
abbrev pub told_of : {X : Type 0} → (Cause → List X) → List Entry → List X
told_of f [] = []
told_of f (entry ∷ history) = f entry.cause ++ told_of f history

-- by the queues of an editors' lane this was said of a body of so many bytes to an editor
pub record Answered (n m : ℕ) (deeds : List Deed) (editor bytes : ℕ) (said : Side) : Type 0 where
  pub number : ℕ
  pub within : number < n
  pub place : ℕ
  pub at : slice_get (answers (sides n m (lane.Editor number) deeds) (tagged (sessions n m (lane.Editor number) deeds) (orders n m (lane.Editor number) deeds))) place ≡ Some ((editor, bytes), said)

abbrev pub DrainedAnswered : Type 0
DrainedAnswered = (n m : ℕ) (deeds : List Deed) → Fair n m deeds → AllIn n m deeds → (k e bytes : ℕ) → slice_get (told_of drained_in (entries n m deeds)) k ≡ Some (e, bytes) → Answered n m deeds e bytes side.Wrote

abbrev pub FailedAnswered : Type 0
FailedAnswered = (n m : ℕ) (deeds : List Deed) → Fair n m deeds → AllIn n m deeds → (k e : ℕ) → slice_get (told_of failed_in (entries n m deeds)) k ≡ Some e → (bytes : ℕ) × Answered n m deeds e bytes side.Broke
