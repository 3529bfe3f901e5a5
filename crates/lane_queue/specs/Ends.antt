-- What contracts see of the ends of a lane.
use Rattle.std.specs.Prelude.{ℕ, List}
use Rattle.lane_queue.specs.Relay.{Queues}
use Rattle.lane_lists.specs.declared.item.Posted.{Posted}
use Rattle.lane_lists.specs.declared.item.Side.{Side}
use Rattle.lane_lists.specs.declared.item.Order.{Order}

-- an end that pushes: the queue, and what was pushed
pub record Pushing (T : Type 0) : Type 0 where
  pub queue : ℕ × ℕ
  pub pushed : List T

-- an end that takes: the queue, what was taken, and what was pushed when something was last taken
pub record Taking (T : Type 0) : Type 0 where
  pub queue : ℕ × ℕ
  pub taken : List T
  pub known : List T

pub record OutSide : Type 0 where
  pub orders : Taking Order
  pub sides : Pushing Side

pub record HubSide : Type 0 where
  pub posted : Taking Posted
  pub sides : Taking Side
  pub orders : Pushing Order

-- the three queues at the end
pub record AllQueues : Type 0 where
  pub posted : Queues Posted
  pub sides : Queues Side
  pub orders : Queues Order
