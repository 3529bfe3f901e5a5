-- What the side items of a servers' lane answer: the bodies that it was ordered to write, one by one.
use Rattle.std.specs.Prelude.{◌≡◌, ◌≢◌, ℕ, ◌≤◌, ◌<◌, List, [], ◌∷◌, ◌++◌, length, slice_get, Option, Some, None, ⊤}
use Rattle.mux_history.specs.Cores.{spawns}
use Rattle.lane_lists.specs.declared.item.LaneName.TheVariants as lane
use Rattle.lane_lists.specs.declared.item.Order.{Order}
use Rattle.lane_lists.specs.declared.item.Order.TheVariants as order
use Rattle.lane_lists.specs.declared.item.Side.{Side}
use Rattle.lane_lists.specs.declared.item.Side.TheVariants as side
use Rattle.lane_lists.specs.declared.item.Item.TheVariants as item
use Rattle.lane_lists.specs.Deeds.{Deed, Fair, entries, gather, orders, sides}
use Rattle.lane_lists.specs.Origins.{AllIn}
use Rattle.lane_lists.specs.Sides.{answers}
use Rattle.lane_lists.specs.StartHistory.{tried_by, went}

abbrev pub tag : Option ℕ → ℕ → List (ℕ × ℕ)
tag None bytes = []
tag (Some s) bytes = (s, bytes) ∷ []

-- the bodies of these orders, each with the start that began last and its length; each Close or Done ends a start's orders
abbrev pub start_tagged : Option ℕ → List Order → List (ℕ × ℕ)
start_tagged now [] = []
start_tagged now (order.Begin s ∷ os) = start_tagged (Some s) os
start_tagged now (order.Body body ∷ os) = tag now (length body) ++ start_tagged now os
start_tagged now (order.Close ∷ os) = start_tagged None os
start_tagged now (order.Done ∷ os) = start_tagged None os

-- none of these orders begins this start, and no two begin one
abbrev pub Unbegun : ℕ → List Order → Type 0
Unbegun s [] = ⊤
Unbegun s (order.Begin n ∷ os) = (n ≢ s) × Unbegun s os
Unbegun s (order.Body body ∷ os) = Unbegun s os
Unbegun s (order.Close ∷ os) = Unbegun s os
Unbegun s (order.Done ∷ os) = Unbegun s os

abbrev pub BeginOnce : List Order → Type 0
BeginOnce [] = ⊤
BeginOnce (order.Begin n ∷ os) = Unbegun n os × BeginOnce os
BeginOnce (order.Body body ∷ os) = BeginOnce os
BeginOnce (order.Close ∷ os) = BeginOnce os
BeginOnce (order.Done ∷ os) = BeginOnce os

-- by the queues of a servers' lane, in which no start begins twice and this one was tried, this was said of a body of so many bytes to it
pub record StartAnswered (n m : ℕ) (deeds : List Deed) (start bytes : ℕ) (said : Side) : Type 0 where
  pub number : ℕ
  pub within : number < m
  pub place : ℕ
  pub at : slice_get (answers (sides n m (lane.Server number) deeds) (start_tagged None (orders n m (lane.Server number) deeds))) place ≡ Some ((start, bytes), said)
  pub once : BeginOnce (orders n m (lane.Server number) deeds)
  pub tried : ℕ
  pub tried_at : slice_get (gather n m (tried_by (lane.Server number)) deeds) tried ≡ Some start

abbrev pub StartFailedAnswered : Type 0
StartFailedAnswered =
    (n m : ℕ) (deeds : List Deed) → Fair n m deeds → AllIn n m deeds → ((s : ℕ) → spawns s (entries n m deeds) ≤ 1) → (s k : ℕ) → slice_get (went n m deeds s) k ≡ Some (item.Side side.Broke) → (bytes : ℕ) × StartAnswered n m deeds s bytes side.Broke
