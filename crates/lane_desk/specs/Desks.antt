-- What the deck keeps: that it did some deeds, and that the core, the ends and the lanes are what they left.
use Rattle.std.specs.Prelude.{◌≡◌, ℕ, ◌+◌, ◌≤◌, Bool, true, false, List, [], ◌++◌, ◌∷◌, if◌then◌else◌, length, slice_get, slice_set, Option, Some, None}
use Rattle.outside_io.specs.Faults.{Rose}
use Rattle.mux_history.specs.declared.entry.Entry.{Entry}
use Rattle.mux_steps.specs.declared.fault.StepFault.{StepFault}
use Rattle.mux_steps.specs.declared.fault.StepFault.TheVariants as fault
use Rattle.mux_history.specs.Cores.{spawns}
use Rattle.lane_lists.specs.declared.item.LaneName.{LaneName}
use Rattle.lane_lists.specs.declared.item.Order.{Order}
use Rattle.lane_lists.specs.declared.item.Posted.{Posted}
use Rattle.lane_lists.specs.declared.item.Side.{Side}
use Rattle.lane_lists.specs.declared.item.Item.{Item}
use Rattle.lane_lists.specs.Seats.{Seats}
use Rattle.lane_lists.specs.Origins.{AllIn, JoinedLast}
use Rattle.lane_lists.specs.Deeds.{Deed, Fair, entries, only, orders, posted_in, posts, same_lane, seats_of, side_in, sides}
use Rattle.lane_queue.specs.Ends.{HubSide}
use Rattle.lane_queue.specs.Relay.{Begins}
use Rattle.mux_history.specs.declared.cause.Cause.{Cause}
use Rattle.mux_history.specs.declared.out.Out.{Out}
use Rattle.lane_lists.specs.Seats.{on_seat}
use Rattle.lane_desk.specs.declared.kinds.Mark.{Mark}
use Rattle.lane_desk.specs.Kinds.{is_side, kind_of, marked}
use Rattle.lane_desk.specs.Givens.{given_by}
use Rattle.lane_desk.specs.Places.{name}

-- which queues the ends are of
abbrev pub Ids : Type 0
Ids = (ℕ × ℕ) × ((ℕ × ℕ) × (ℕ × ℕ))

abbrev pub ids : HubSide → Ids
ids ends = (ends.posted.queue, (ends.sides.queue, ends.orders.queue))

abbrev pub Each : {X : Type 0} → (ℕ → X → Type 0) → List X → Type 0
Each {X} F xs = (i : ℕ) (x : X) → slice_get xs i ≡ Some x → F i x

-- an item that was taken of a lane and gave no deed
abbrev pub posted_at : LaneName → Option (LaneName × Item) → List Posted
posted_at l None = []
posted_at l (Some x) = if same_lane l x.0 then posted_in x.1 else []

abbrev pub side_at : LaneName → Option (LaneName × Item) → List Side
side_at l None = []
side_at l (Some x) = if same_lane l x.0 then side_in x.1 else []

-- the ends of a lane: what the deeds took of it and this item more; and the deeds' orders, all of them or the first ones
pub record EndsAre (n m : ℕ) (deeds : List Deed) (more : Option (LaneName × Item)) (all : Bool) (l : LaneName) (ends : HubSide) : Type 0 where
  pub posted : ends.posted.taken ≡ posts n m l deeds ++ posted_at l more
  pub sides : ends.sides.taken ≡ sides n m l deeds ++ side_at l more
  pub rest : List Order
  pub pushed : orders n m l deeds ≡ ends.orders.pushed ++ rest
  pub whole : all ≡ true → rest ≡ []

-- the last editor that joined is of the last lane of editors, and each other one went before it joined
pub record OwnLast (n m : ℕ) (deeds : List Deed) : Type 0 where
  pub number : ℕ
  pub is_last : number + 1 ≡ n
  pub joined : JoinedLast n m number deeds

-- a cause that can come behind this history, but some core that stands for the history can't number it and its outs
pub record TooMany {K : Type 0} (stands : K → List Entry → Type 0) (allows : List Entry → Cause → Bool) (passes : K → List Entry → Cause → Bool) (history : List Entry) : Type 0 where
  pub core : K
  pub stands_for : stands core history
  pub cause : Cause
  pub can_come : allows history cause ≡ true
  pub too_many : passes core history cause ≡ true

-- no start was spawned twice. Of a deck that isn't spent: no item more, all orders, and the lanes as the deeds left them; `last`: that the last editor that joined is of the last lane; `too_many`: what the fault Numbers of the last step says of the history
pub record Kept {K : Type 0} (stands : K → List Entry → Type 0) (too_many : List Entry → Type 0) (n m : ℕ) (all last : Bool) (why : Option StepFault) (core : K) (ends : List HubSide) (seats : Seats) : Type 0 where
  pub deeds : List Deed
  pub fair : Fair n m deeds
  pub lanes : AllIn n m deeds
  pub own_last : last ≡ true → OwnLast n m deeds
  pub stands_for : stands core (entries n m deeds)
  pub once : (s : ℕ) → spawns s (entries n m deeds) ≤ 1
  pub numbers : why ≡ Some fault.Numbers → too_many (entries n m deeds)
  pub more : Option (LaneName × Item)
  pub none_more : all ≡ true → more ≡ None
  pub ends_are : Each (λ i x. EndsAre n m deeds more all (name n m i) x) ends
  pub seats_are : all ≡ true → seats ≡ seats_of n m deeds

-- the journal's count didn't fall, and rose where a step had its fault; where a step had a fault the core is spent
pub record Faulted (before now : ℕ) (spent : Bool) (why : Option StepFault) : Type 0 where
  pub later : before ≤ now
  pub journal : why ≡ Some fault.Journal → Rose before now
  pub over : (f : StepFault) → why ≡ Some f → spent ≡ true

-- what one place became
pub record Became (i : ℕ) (R : HubSide → HubSide → Type 0) (old new : List HubSide) : Type 0 where
  pub before : HubSide
  pub after : HubSide
  pub was : slice_get old i ≡ Some before
  pub is : new ≡ slice_set old i after
  pub how : R before after

pub record Took (x : Item) (p q : HubSide) : Type 0 where
  pub ids : ids q ≡ ids p
  pub posted : q.posted.taken ≡ p.posted.taken ++ posted_in x
  pub sides : q.sides.taken ≡ p.sides.taken ++ side_in x
  pub pushed : q.orders.pushed ≡ p.orders.pushed

pub record Pushed (x : Order) (p q : HubSide) : Type 0 where
  pub ids : ids q ≡ ids p
  pub posted : q.posted.taken ≡ p.posted.taken
  pub sides : q.sides.taken ≡ p.sides.taken
  pub pushed : q.orders.pushed ≡ p.orders.pushed ++ x ∷ []

-- nothing that the deck speaks of changed
pub record Same (p q : HubSide) : Type 0 where
  pub ids : ids q ≡ ids p
  pub posted : q.posted.taken ≡ p.posted.taken
  pub sides : q.sides.taken ≡ p.sides.taken
  pub pushed : q.orders.pushed ≡ p.orders.pushed

-- both of its queues held nothing behind what was taken, as far as was seen when something was last taken
pub record IsEmptied (ends : HubSide) : Type 0 where
  pub posted : Begins ends.posted.taken ends.posted.known
  pub sides : Begins ends.sides.taken ends.sides.known

pub record FoundNothing (p q : HubSide) : Type 0 where
  pub same : Same p q
  pub was : IsEmptied p

-- the places one by one
pub record Pairwise (R : ℕ → HubSide → HubSide → Type 0) (old new : List HubSide) : Type 0 where
  pub len : length new ≡ length old
  pub each : (i : ℕ) (p q : HubSide) → slice_get old i ≡ Some p → slice_get new i ≡ Some q → R i p q

-- a lane got the orders that are its, but those that are still to be given and are not lost
pub record Dealt (l : LaneName) (given left : List (LaneName × Order)) (all : Bool) (p q : HubSide) : Type 0 where
  pub ids : ids q ≡ ids p
  pub posted : q.posted.taken ≡ p.posted.taken
  pub sides : q.sides.taken ≡ p.sides.taken
  pub rest : List Order
  pub pushed : (q.orders.pushed ++ rest) ++ only l left ≡ p.orders.pushed ++ only l given
  pub whole : all ≡ true → rest ≡ []

pub record DeskView (K : Type 0) : Type 0 where
  pub core : K
  pub spent : Bool
  pub why : Option StepFault
  pub ends : List HubSide
  pub seats : Seats
  pub last : Bool

-- what the core did with a cause that was taken of this lane with this mark, and what came of it
pub data Acted {K : Type 0} (stands : K → List Entry → Type 0) (too_many : List Entry → Type 0) (n m : ℕ) (l : LaneName) (x : Mark) (c : Cause) (all : Bool) (why : Option StepFault) (core core' : K) (old new : List HubSide) (seats seats' : Seats) : Type 0 where
  -- an entry, behind which no start is spawned twice, and whose orders were given, all of them or the first ones
  Did : why ≡ None → (outs : List Out) → ((history : List Entry) → stands core history → stands core' (history ++ record { cause = c; outs = outs } ∷ []))
      → ((history : List Entry) (s : ℕ) → stands core history → spawns s (history ++ record { cause = c; outs = outs } ∷ []) ≤ 1)
      → Pairwise (λ i. Dealt (name n m i) (given_by (on_seat l (marked x) seats) l (is_side x) (kind_of c) outs).orders [] all) old new
      → (all ≡ true → seats' ≡ (given_by (on_seat l (marked x) seats) l (is_side x) (kind_of c) outs).seats)
      → Acted stands too_many n m l x c all why core core' old new seats seats'
  -- nothing
  Failed : all ≡ false → (why ≡ Some fault.Numbers → (history : List Entry) → stands core history → too_many history) → ((history : List Entry) → stands core history → stands core' history) → new ≡ old → Acted stands too_many n m l x c all why core core' old new seats seats'

-- nothing went through these ends yet
pub record IsUnused (ends : HubSide) : Type 0 where
  pub posted : ends.posted.taken ≡ []
  pub sides : ends.sides.taken ≡ []
  pub pushed : ends.orders.pushed ≡ []

abbrev pub AllUnused : List HubSide → Type 0
AllUnused ends = Each (λ i x. IsUnused x) ends
