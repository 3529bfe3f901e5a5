-- What a daemon did: one list of deeds, of which the history and all lists of all lanes follow, and what each lane did with its own.
use Rattle.std.specs.Prelude.{◌≡◌, ◌≢◌, ◌⊎◌, ℕ, ◌+◌, ◌≤◌, Bool, true, false, List, [], ◌++◌, IfSome, Option, Some, None, length, not, slice_get}
use Rattle.outside_io.specs.Faults.{Rose}
use Rattle.outside_io.specs.Sessions.{Session}
use Rattle.outside_io.specs.contracts.memory.port.MemPortPort.TheImpl as port
use Rattle.mux_history.specs.declared.entry.Entry.{Entry}
use Rattle.mux_history.specs.Cores.{spawns}
use Rattle.mux_steps.specs.declared.fault.StepFault.{StepFault}
use Rattle.lane_lists.specs.declared.item.Item.{Item}
use Rattle.lane_lists.specs.declared.item.LaneName.{LaneName}
use Rattle.lane_lists.specs.declared.item.LaneName.TheVariants as lane
use Rattle.lane_lists.specs.declared.item.Order.{Order}
use Rattle.lane_lists.specs.declared.item.Posted.{Posted}
use Rattle.lane_lists.specs.declared.item.Posted.TheVariants as posted
use Rattle.lane_lists.specs.declared.item.Side.{Side}
use Rattle.lane_lists.specs.Deeds.{Deed, Fair, entries, orders, posts, seats_of, sides}
use Rattle.lane_queue.specs.Ends.{HubSide}
use Rattle.lane_lists.specs.Seats.{Seats}
use Rattle.lane_lists.specs.Origins.{AllIn, JoinedLast}
use Rattle.lane_desk.specs.Desks.{Kept, posted_at, side_at}
use Rattle.lane_desk.specs.Stops.{Tells, has_no_editor, is_done}
use Rattle.mux_lanes.specs.declared.lane_end.LaneEnd.{LaneEnd}
use Rattle.mux_lanes.specs.declared.lane_end.LaneEnd.TheVariants as lane_end
use Rattle.mux_lanes.specs.Lanes.{CutLink, RanAs, Standing, Turn, WholeLink}
use Rattle.mux_lanes.specs.Starts.{Begun, CutBegun, WholeStart}
use Rattle.mux_lanes.specs.Ticks.{TickedAs}
use Rattle.mux_serve.specs.declared.job.LaneJob.{LaneJob}
use Rattle.mux_daemon.specs.declared.open.Lanes.{Lanes}
use Rattle.mux_daemon.specs.declared.serve.Answer.{Answer}
use Rattle.mux_daemon.specs.declared.serve.Answer.TheVariants as answer
use Rattle.mux_daemon.specs.Rans.{HasSession, LanesWhole}
use Rattle.mux_daemon.specs.Settles.{LanesSettled}

-- what the deck did over so many lanes of editors and of servers, and an item that was taken and gave no deed
pub record Story : Type 0 where
  pub editors : ℕ
  pub servers : ℕ
  pub deeds : List Deed
  pub more : Option (LaneName × Item)

abbrev pub history : Story → List Entry
history s = entries s.editors s.servers s.deeds

-- the queues of a lane: what it posted and said is what was taken by the deeds, perhaps an item more, and what was never taken; what was ordered by the deeds is what it took, what it never took, and what was lost. Where the work was done no order is left or lost
pub record QueuesAre (s : Story) (went : Bool) (l : LaneName) (posted : List Posted) (ordered : List Order) (said : List Side) : Type 0 where
  pub unread : List Posted
  pub posts_are : posted ≡ (posts s.editors s.servers l s.deeds ++ posted_at l s.more) ++ unread
  pub unsaid : List Side
  pub sides_are : said ≡ (sides s.editors s.servers l s.deeds ++ side_at l s.more) ++ unsaid
  pub unheard : List Order
  pub orders_are : orders s.editors s.servers l s.deeds ≡ ordered ++ unheard
  pub all : went ≡ true → unheard ≡ []

-- how a lane stands through which nothing went yet, and how it stands where this went through its queues
abbrev pub begun_at : {P : Type 0} → (P → Option (List Session)) → (P → Option (List Session)) → (P → ℕ) → P → Standing
begun_at back left faults port = record { back = back port; left = left port; faults = faults port; posts = []; orders = []; sides = [] }

-- a lane of a port or a berth: its turns, by which its queues are filled. Where the work was done none of them is cut off
pub record LaneServed {P : Type 0} (s : Story) (went : Bool) (l : LaneName) (Whole Cut : Turn → Type 0) (back left : P → Option (List Session)) (faults : P → ℕ) (old new : P) : Type 0 where
  pub posted : List Posted
  pub ordered : List Order
  pub said : List Side
  pub end : LaneEnd
  pub ran : RanAs Whole Cut (begun_at back left faults old) (record { back = back new; left = left new; faults = faults new; posts = posted; orders = ordered; sides = said }) end
  pub queues : QueuesAre s went l posted ordered said
  pub whole : went ≡ true → end ≢ lane_end.Cut

pub record ClockServed {C : Type 0} (s : Story) (went : Bool) (given left : C → Option (List ℕ)) (old new : C) : Type 0 where
  pub posted : List Posted
  pub end : LaneEnd
  pub ticked : TickedAs (given old) (given new) (left old) (left new) [] posted end
  pub queues : QueuesAre s went lane.Ticker posted [] []
  pub whole : went ≡ true → end ≢ lane_end.Cut

-- the answer says that the work was done
abbrev pub is_end : Answer → Bool
is_end answer.Stopped = true
is_end answer.PortsClosed = true
is_end answer.Memory = false
is_end answer.Journal = false
is_end answer.Numbers = false

-- what a deck left
abbrev pub LeftAs : {K : Type 0} → (K → List Entry → Type 0) → (List Entry → Type 0) → (List Entry → Bool) → ℕ → ℕ → K → List HubSide → Bool → Bool → Bool → Bool → Option StepFault → Type 0
LeftAs {K} stands too_many stops n m core ends spent done no_editor own_last why = (seats : Seats) × Kept stands too_many n m (not spent) own_last why core ends seats × Tells stands stops core seats done no_editor

-- behind the joined queues: the work was done only where a stop was done, no editor's lane has a session, no order is left and no lane was cut off; the ports were closed only where the own link was the last to join and was handed back, and not where it wasn't handed back
module _ {P B C : Type 0} where
  pub record FinishedAs (lanes : Lanes P B C) (hubs : List HubSide) (done no_editor ports_closed own_last : Bool) (new : Lanes P B C) (x : Answer) : Type 0 where
    pub none_left : Bool
    pub settled : LanesSettled lanes hubs none_left
    pub over : is_end x ≡ true → (done ≡ true) × (no_editor ≡ true) × (none_left ≡ true) × LanesWhole lanes
    pub closed : x ≡ answer.PortsClosed → (ports_closed ≡ true) × (own_last ≡ true) × HasSession new.own.outside
    pub stopped : x ≡ answer.Stopped → port.ghosts.sessions new.own.outside ≡ Some []

-- `too_many`: what the answer Numbers says of the history
module _ {K P B C : Type 0} (stands : K → List Entry → Type 0) (too_many : List Entry → Type 0) (stops : List Entry → Bool) (sessions links : P → Option (List Session)) (faults : P → ℕ) (runs left : B → Option (List Session)) (misses : B → ℕ) (given moments : C → Option (List ℕ)) (limit : ℕ) where
  pub record ServedAs (core : K) (old new : Lanes P B C) (x : Answer) : Type 0 where
    pub story : Story
    pub editors : story.editors ≡ length old.ports.items + 1
    pub servers : story.servers ≡ length old.berths.items
    pub fair : Fair story.editors story.servers story.deeds
    pub lanes : AllIn story.editors story.servers story.deeds
    pub stands_for : stands core (history story)
    pub once : (s : ℕ) → spawns s (history story) ≤ 1
    pub ports_len : length new.ports.items ≡ length old.ports.items
    pub ports : (i : ℕ) (p q : LaneJob P) → slice_get old.ports.items i ≡ Some p → slice_get new.ports.items i ≡ Some q
        → LaneServed story (is_end x) (lane.Editor i) (WholeLink posted.Link limit) (CutLink posted.Link limit) sessions links faults p.outside q.outside
    pub own : LaneServed story (is_end x) (lane.Editor (length old.ports.items)) (WholeLink posted.Link limit) (CutLink posted.Link limit) port.ghosts.sessions port.ghosts.links port.ghosts.faults old.own.outside new.own.outside
    pub berths_len : length new.berths.items ≡ length old.berths.items
    pub berths : (i : ℕ) (p q : LaneJob B) → slice_get old.berths.items i ≡ Some p → slice_get new.berths.items i ≡ Some q
        → LaneServed story (is_end x) (lane.Server i) (Begun (WholeStart limit)) (CutBegun limit) runs left misses p.outside q.outside
    pub clock : ClockServed story (is_end x) given moments old.clock.outside new.clock.outside
    pub over : is_end x ≡ true → (story.more ≡ None) × (is_done stops (history story) (seats_of story.editors story.servers story.deeds) ≡ true) × (has_no_editor (seats_of story.editors story.servers story.deeds) ≡ true)
    pub closed : x ≡ answer.PortsClosed → ((i : ℕ) (p q : LaneJob P) → slice_get old.ports.items i ≡ Some p → slice_get new.ports.items i ≡ Some q → IfSome (links q.outside) (λ none. none ≡ []) ⊎ Rose (faults p.outside) (faults q.outside)) × HasSession new.own.outside
        × JoinedLast story.editors story.servers (length old.ports.items) story.deeds
    pub stopped : x ≡ answer.Stopped → port.ghosts.sessions new.own.outside ≡ Some []
    pub numbers : x ≡ answer.Numbers → too_many (history story)
