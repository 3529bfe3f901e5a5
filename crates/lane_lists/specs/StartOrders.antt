-- What a history says to one start, and the orders of a servers' lane.
use Rattle.std.specs.Prelude.{◌≡◌, ℕ, ◌==◌, ◌≤◌, ◌<◌, List, [], ◌∷◌, ◌++◌, Bool, true, false, if◌then◌else◌, map, length, Option, Some, None}
use Rattle.mux_history.specs.declared.entry.Entry.{Entry}
use Rattle.mux_history.specs.declared.cause.Cause.{Cause}
use Rattle.mux_history.specs.declared.cause.Cause.TheVariants as cause
use Rattle.mux_history.specs.declared.out.Out.{Out}
use Rattle.mux_history.specs.declared.out.Out.TheVariants as out
use Rattle.mux_history.specs.Cores.{spawns}
use Rattle.lane_lists.specs.declared.item.LaneName.TheVariants as lane
use Rattle.lane_lists.specs.declared.item.Order.{Order}
use Rattle.lane_lists.specs.declared.item.Order.TheVariants as order
use Rattle.lane_lists.specs.Seats.{Seats, seat_at, is_now, is_none, place_of}
use Rattle.lane_lists.specs.Sessions.{chain, parts}
use Rattle.lane_lists.specs.Deeds.{Deed, start, entries, orders, gather, Fair}
use Rattle.lane_lists.specs.History.{AllZip, Mark, Enters, Told, Closed, Leaves, entered, bodies_until, end_until}
use Rattle.lane_lists.specs.Starts.{next_seats}
use Rattle.lane_lists.specs.StartHistory.{tried_by}

-- a start that fails or goes leaves
abbrev pub start_mark_in : ℕ → Cause → List Mark
start_mark_in s (cause.StartFailed n) = if n == s then Leaves ∷ [] else []
start_mark_in s (cause.ServerGone n) = if n == s then Leaves ∷ [] else []
start_mark_in s (cause.Started n) = []
start_mark_in s (cause.FromServer n body) = []
start_mark_in s (cause.Joined e) = []
start_mark_in s (cause.FromEditor e body) = []
start_mark_in s (cause.EditorGone e w) = []
start_mark_in s (cause.Drained e k) = []
start_mark_in s (cause.Tick t) = []

abbrev pub start_out_mark : ℕ → Out → List Mark
start_out_mark s (out.ToServer n body) = if n == s then Told body ∷ [] else []
start_out_mark s (out.EndServer n) = if n == s then Closed ∷ [] else []
start_out_mark s (out.ToEditor e body) = []
start_out_mark s (out.CloseEditor e) = []
start_out_mark s (out.Spawn n group) = []

abbrev pub start_out_marks : ℕ → List Out → List Mark
start_out_marks s [] = []
start_out_marks s (o ∷ outs) = start_out_mark s o ++ start_out_marks s outs

-- a start that has a lane has entered
abbrev pub lane_mark : ℕ → Seats → List Mark
lane_mark s seats = if is_none (place_of s seats.servers) then [] else Enters ∷ []

-- the marks to a start behind these lanes: of an entry what its cause says, then what its outs say, and then whether the start has a lane behind it
abbrev pub start_marks : ℕ → Seats → List Entry → List Mark
start_marks s seats [] = []
start_marks s seats (entry ∷ history) = start_mark_in s entry.cause ++ (start_out_marks s entry.outs ++ (lane_mark s (next_seats seats entry) ++ start_marks s (next_seats seats entry) history))

module _ (servers : ℕ) where
  -- the bodies to a start from behind the entry that gave it a lane until it is ended, fails or goes, and the order that ended it
  abbrev pub bodies_to_start : ℕ → List Entry → List (List ℕ)
  bodies_to_start s history = bodies_until (entered (start_marks s (start 0 servers) history))

  abbrev pub end_to_start : ℕ → List Entry → List Order
  end_to_start s history = end_until (entered (start_marks s (start 0 servers) history))

-- the start that a lane has behind an entry, and hadn't before
abbrev pub began_in : Option ℕ → Option ℕ → List ℕ
began_in before None = []
began_in before (Some s) = if is_now before s then [] else s ∷ []

abbrev pub began_from : ℕ → Seats → List Entry → List ℕ
began_from i seats [] = []
began_from i seats (entry ∷ history) = began_in (seat_at i seats.servers).now (seat_at i (next_seats seats entry).servers).now ++ began_from i (next_seats seats entry) history

-- the starts that began in a lane, in their order
abbrev pub began : ℕ → ℕ → List Entry → List ℕ
began servers i history = began_from i (start 0 servers) history

-- the orders of a start: its Begin, the bodies to it, and the order that ended it, if one did
abbrev pub OrdersOf : ℕ → List Entry → ℕ → List Order → Type 0
OrdersOf servers history s part = part ≡ order.Begin s ∷ (map order.Body (bodies_to_start servers s history) ++ end_to_start servers s history)

pub record ByStartOrders (n m i : ℕ) (deeds : List Deed) : Type 0 where
  pub made : List (List Order)
  pub orders : orders n m (lane.Server i) deeds ≡ chain made
  pub each : AllZip (OrdersOf m (entries n m deeds)) (began m i (entries n m deeds)) made

abbrev pub StartOrders : Type 0
StartOrders = (n m i : ℕ) (deeds : List Deed) → i < m → Fair n m deeds → ((s : ℕ) → spawns s (entries n m deeds) ≤ 1) → ByStartOrders n m i deeds

-- where a start's orders begin, for `parts`
abbrev pub is_begin : Order → Bool
is_begin (order.Begin s) = true
is_begin (order.Body body) = false
is_begin order.Close = false
is_begin order.Done = false

pub record ByStartOrderParts (n m i : ℕ) (deeds : List Deed) : Type 0 where
  pub made : List (List Order)
  pub cut : parts is_begin (orders n m (lane.Server i) deeds) ≡ [] ∷ made
  pub each : AllZip (OrdersOf m (entries n m deeds)) (began m i (entries n m deeds)) made

abbrev pub StartOrderParts : Type 0
StartOrderParts = (n m i : ℕ) (deeds : List Deed) → i < m → Fair n m deeds → ((s : ℕ) → spawns s (entries n m deeds) ≤ 1) → ByStartOrderParts n m i deeds

-- the starts that began in a lane are those that were tried in it, and at most one that neither came up nor failed yet
pub record ByTried (n m i : ℕ) (deeds : List Deed) : Type 0 where
  pub rest : List ℕ
  pub is : began m i (entries n m deeds) ≡ gather n m (tried_by (lane.Server i)) deeds ++ rest
  pub one : length rest ≤ 1

abbrev pub StartsTried : Type 0
StartsTried = (n m i : ℕ) (deeds : List Deed) → i < m → Fair n m deeds → ((s : ℕ) → spawns s (entries n m deeds) ≤ 1) → ByTried n m i deeds
