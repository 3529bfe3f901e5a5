-- What the ticker posts of the moments of its clock.
use Rattle.std.specs.Prelude.{◌≡◌, ℕ, ◌≤◌, List, [], ◌++◌, map, length, Option, IfSome}
use Rattle.outside_io.specs.Told.{append_to, prepend_to}
use Rattle.lane_lists.specs.declared.item.Posted.{Posted}
use Rattle.lane_lists.specs.declared.item.Posted.TheVariants as posted
use Rattle.mux_lanes.specs.declared.lane_end.LaneEnd.{LaneEnd}
use Rattle.mux_lanes.specs.declared.lane_end.LaneEnd.TheVariants as lane_end

-- each moment that the clock gave was posted, or all but a last one that was refused
pub record TickedAs (given given' left left' : Option (List ℕ)) (posts posts' : List Posted) (end : LaneEnd) : Type 0 where
  pub ticks : List ℕ
  pub refused : List ℕ
  pub given_are : given' ≡ append_to given (ticks ++ refused)
  pub left_are : left ≡ prepend_to (ticks ++ refused) left'
  pub posted : posts' ≡ posts ++ map posted.Tick ticks
  pub one : length refused ≤ 1
  pub whole : (end ≡ lane_end.Cut → ⊥) → refused ≡ []
  pub through : end ≡ lane_end.Through → IfSome left' (λ moments. moments ≡ [])

-- so far each moment was posted
pub record TickedSoFar (given given' left left' : Option (List ℕ)) (posts posts' : List Posted) : Type 0 where
  pub ticks : List ℕ
  pub given_are : given' ≡ append_to given ticks
  pub left_are : left ≡ prepend_to ticks left'
  pub posted : posts' ≡ posts ++ map posted.Tick ticks
