-- A stop that is done: it was answered, no server's lane has a start, and no start waits for one.
use Rattle.std.specs.Prelude.{◌≡◌, ◌==◌, ℕ, ◌+◌, Bool, true, false, ◌&&◌, List, length, not, position, Option}
use Rattle.mux_history.specs.declared.entry.Entry.{Entry}
use Rattle.lane_lists.specs.declared.item.LaneName.{LaneName}
use Rattle.lane_lists.specs.declared.item.LaneName.TheVariants as lane
use Rattle.lane_lists.specs.Seats.{Seat, Seats, is_none}
use Rattle.lane_lists.specs.Deeds.{Deed, Fair, entries, seats_of}
use Rattle.lane_desk.specs.declared.kinds.Kind.{Kind}
use Rattle.lane_desk.specs.declared.kinds.Kind.TheVariants as kind

-- the place of the first lane with a session
abbrev pub taken_place : List Seat → Option ℕ
taken_place seats = position (λ (seat : Seat). not (is_none seat.now)) seats

abbrev pub is_idle : Seats → Bool
is_idle seats = is_none (taken_place seats.servers) && (length seats.waiting == 0)

-- no editor's lane has a session
abbrev pub has_no_editor : Seats → Bool
has_no_editor seats = is_none (taken_place seats.editors)

-- whether it is the last lane of editors
abbrev pub is_last : ℕ → LaneName → Bool
is_last n (lane.Editor i) = (i + 1) == n
is_last n (lane.Server i) = false
is_last n lane.Ticker = false

-- whether, behind a cause of this kind from this lane, the last editor that joined is of the last lane, and found no other there; `last`: whether it was so before
abbrev pub last_behind : ℕ → Seats → LaneName → Kind → Bool → Bool
last_behind n seats l (kind.Joins e) last = is_last n l && has_no_editor seats
last_behind n seats l kind.Starts last = last
last_behind n seats l kind.Goes last = last
last_behind n seats l kind.Stays last = last

-- the servers' lanes stand so, and the history has a stop that was answered
abbrev pub is_done : (List Entry → Bool) → List Entry → Seats → Bool
is_done stops history seats = stops history && is_idle seats

-- by some deeds, for whose history a core stood, it was so
pub record WasDone {K : Type 0} (stands : K → List Entry → Type 0) (stops : List Entry → Bool) (n m : ℕ) : Type 0 where
  pub core : K
  pub deeds : List Deed
  pub fair : Fair n m deeds
  pub stands_for : stands core (entries n m deeds)
  pub done : is_done stops (entries n m deeds) (seats_of n m deeds) ≡ true

-- what is told of lanes and a core that were given up: whether a stop is done, and whether no editor's lane has a session
pub record Tells {K : Type 0} (stands : K → List Entry → Type 0) (stops : List Entry → Bool) (core : K) (seats : Seats) (done no_editor : Bool) : Type 0 where
  pub stopped : (history : List Entry) → stands core history → done ≡ true → is_done stops history seats ≡ true
  pub left : no_editor ≡ has_no_editor seats
