-- Lanes that were opened: each has ends of queues of its own, through which nothing went yet.
use Rattle.std.specs.Prelude.{◌≡◌, ℕ, ◌+◌, List, [], ◌∷◌, ◌++◌, Some, length, slice_get}
use Rattle.lane_queue.specs.Ends.{HubSide}
use Rattle.lane_desk.specs.Desks.{AllUnused, IsUnused}
use Rattle.mux_lanes.specs.declared.lane_end.LaneEnd.TheVariants as lane_end
use Rattle.mux_lanes.specs.declared.session.Ends.{Ends}
use Rattle.mux_serve.specs.declared.job.LaneJob.{LaneJob}
use Rattle.mux_daemon.specs.declared.open.Lanes.{Lanes}
use Rattle.mux_daemon.specs.declared.open.Hubs.{Hubs}

-- two lists of one length, place by place
pub record Pairs {X Y : Type 0} (R : X → Y → Type 0) (xs : List X) (ys : List Y) : Type 0 where
  pub len : length ys ≡ length xs
  pub each : (i : ℕ) (x : X) (y : Y) → slice_get xs i ≡ Some x → slice_get ys i ≡ Some y → R x y

abbrev pub SameOutsides : {P : Type 0} → List (LaneJob P) → List (LaneJob P) → Type 0
SameOutsides {P} old new = Pairs (λ (p q : LaneJob P). q.outside ≡ p.outside) old new

-- the ends of the same three queues
pub record IsPair (ends : Ends) (hub : HubSide) : Type 0 where
  pub posted : ends.inn.queue ≡ hub.posted.queue
  pub sides : ends.out.sides.queue ≡ hub.sides.queue
  pub orders : ends.out.orders.queue ≡ hub.orders.queue

-- nothing went through these ends yet
pub record IsFresh (ends : Ends) : Type 0 where
  pub posts : ends.inn.pushed ≡ []
  pub orders : ends.out.orders.taken ≡ []
  pub sides : ends.out.sides.pushed ≡ []

pub record IsOpened {P : Type 0} (job : LaneJob P) (hub : HubSide) : Type 0 where
  pub ends : Ends
  pub has : job.ends ≡ Some ends
  pub pair : IsPair ends hub
  pub fresh : IsFresh ends
  pub unused : IsUnused hub
  pub end : job.end ≡ lane_end.Over

-- one lane more
pub record Opened {P : Type 0} (before after : List HubSide) (job : LaneJob P) : Type 0 where
  pub hub : HubSide
  pub is : after ≡ before ++ hub ∷ []
  pub opened : IsOpened job hub

-- so many of these lanes more
pub record AreOpened {P : Type 0} (count : ℕ) (before after : List HubSide) (jobs : List (LaneJob P)) : Type 0 where
  pub more : List HubSide
  pub len : length more ≡ count
  pub is : after ≡ before ++ more
  pub unused : AllUnused more
  pub each : (i : ℕ) (job : LaneJob P) (hub : HubSide) → slice_get jobs i ≡ Some job → slice_get more i ≡ Some hub → IsOpened job hub

module _ {P B C : Type 0} where
  -- what the lanes serve is the same
  pub record SameLanes (old new : Lanes P B C) : Type 0 where
    pub ports : SameOutsides old.ports.items new.ports.items
    pub own : new.own.outside ≡ old.own.outside
    pub berths : SameOutsides old.berths.items new.berths.items
    pub clock : new.clock.outside ≡ old.clock.outside

  -- the lanes of the ports, the own one, those of the berths and the clock's have their ends one behind the other
  pub record OpenedLanes (lanes : Lanes P B C) (hubs : Hubs) : Type 0 where
    pub editors : hubs.editors ≡ length lanes.ports.items + 1
    pub servers : hubs.servers ≡ length lanes.berths.items
    pub count : length hubs.ends.items ≡ hubs.editors + hubs.servers + 1
    pub unused : AllUnused hubs.ends.items
    pub ports : (i : ℕ) (job : LaneJob P) (hub : HubSide) → slice_get lanes.ports.items i ≡ Some job → slice_get hubs.ends.items i ≡ Some hub → IsOpened job hub
    pub own : (hub : HubSide) → slice_get hubs.ends.items (length lanes.ports.items) ≡ Some hub → IsOpened lanes.own hub
    pub berths : (i : ℕ) (job : LaneJob B) (hub : HubSide) → slice_get lanes.berths.items i ≡ Some job → slice_get hubs.ends.items (hubs.editors + i) ≡ Some hub → IsOpened job hub
    pub clock : (hub : HubSide) → slice_get hubs.ends.items (hubs.editors + hubs.servers) ≡ Some hub → IsOpened lanes.clock hub
