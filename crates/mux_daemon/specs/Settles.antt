-- Lanes whose queues were joined: of each queue, what was pushed is what was taken, and then what is left.
use Rattle.std.specs.Prelude.{◌≡◌, ℕ, ◌+◌, Bool, true, List, [], ◌++◌, Some, length, slice_get}
use Rattle.lane_lists.specs.declared.item.Order.{Order}
use Rattle.lane_lists.specs.declared.item.Posted.{Posted}
use Rattle.lane_lists.specs.declared.item.Side.{Side}
use Rattle.lane_queue.specs.Ends.{HubSide}
use Rattle.mux_lanes.specs.declared.session.Ends.{Ends}
use Rattle.mux_serve.specs.declared.job.LaneJob.{LaneJob}
use Rattle.mux_daemon.specs.declared.open.Lanes.{Lanes}
use Rattle.mux_daemon.specs.Opens.{IsPair}

pub record IsSettled (ends : Ends) (hub : HubSide) (none_left : Bool) : Type 0 where
  pub unread : List Posted
  pub posted : ends.inn.pushed ≡ hub.posted.taken ++ unread
  pub unsaid : List Side
  pub said : ends.out.sides.pushed ≡ hub.sides.taken ++ unsaid
  pub unheard : List Order
  pub ordered : hub.orders.pushed ≡ ends.out.orders.taken ++ unheard
  pub none : none_left ≡ true → unheard ≡ []

-- these lanes have the last ends
abbrev pub ArePairs : {P : Type 0} → List (LaneJob P) → List HubSide → Type 0
ArePairs {P} jobs hubs =
    (offset i : ℕ) (job : LaneJob P) (ends : Ends) (hub : HubSide) → offset + length jobs ≡ length hubs → slice_get jobs i ≡ Some job → job.ends ≡ Some ends → slice_get hubs (offset + i) ≡ Some hub → IsPair ends hub

abbrev pub AreSettled : {P : Type 0} → List (LaneJob P) → List HubSide → Bool → Type 0
AreSettled {P} jobs hubs none_left =
    (offset i : ℕ) (job : LaneJob P) (ends : Ends) (hub : HubSide) → offset + length jobs ≡ length hubs → slice_get jobs i ≡ Some job → job.ends ≡ Some ends → slice_get hubs (offset + i) ≡ Some hub → IsSettled ends hub none_left

-- the ends of all lanes, in their order
module _ {P B C : Type 0} (R : Ends → HubSide → Type 0) where
  pub record AllLanes (lanes : Lanes P B C) (hubs : List HubSide) : Type 0 where
    pub ports : (i : ℕ) (job : LaneJob P) (ends : Ends) (hub : HubSide) → slice_get lanes.ports.items i ≡ Some job → job.ends ≡ Some ends → slice_get hubs i ≡ Some hub → R ends hub
    pub own : (ends : Ends) (hub : HubSide) → lanes.own.ends ≡ Some ends → slice_get hubs (length lanes.ports.items) ≡ Some hub → R ends hub
    pub berths : (i : ℕ) (job : LaneJob B) (ends : Ends) (hub : HubSide) → slice_get lanes.berths.items i ≡ Some job → job.ends ≡ Some ends → slice_get hubs ((length lanes.ports.items + 1) + i) ≡ Some hub → R ends hub
    pub clock : (ends : Ends) (hub : HubSide) → lanes.clock.ends ≡ Some ends → slice_get hubs ((length lanes.ports.items + 1) + length lanes.berths.items) ≡ Some hub → R ends hub

module _ {P B C : Type 0} where
  pub record LanesPaired (lanes : Lanes P B C) (hubs : List HubSide) : Type 0 where
    pub count : length hubs ≡ ((length lanes.ports.items + 1) + length lanes.berths.items) + 1
    pub pairs : AllLanes IsPair lanes hubs

  abbrev pub LanesSettled : Lanes P B C → List HubSide → Bool → Type 0
  LanesSettled lanes hubs none_left = AllLanes (λ ends hub. IsSettled ends hub none_left) lanes hubs
