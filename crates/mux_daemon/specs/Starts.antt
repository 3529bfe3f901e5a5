-- What the program of each start of a berth carried, by the history.
use Rattle.std.specs.Prelude.{◌≡◌, ◌≢◌, ◌⊎◌, ℕ, ◌≤◌, ◌<◌, Bool, true, List, [], ◌∷◌, ◌++◌, All, Option, Some, None, length, map, slice_get}
use Rattle.std.specs.Io.KnownBytes.{append_known}
use Rattle.base_frame.specs.Frames.{Splits}
use Rattle.outside_io.specs.Faults.{Rose}
use Rattle.outside_io.specs.Sessions.{Session}
use Rattle.outside_io.specs.Told.{append_to, prepend_to}
use Rattle.mux_history.specs.declared.entry.Entry.{Entry}
use Rattle.mux_history.specs.declared.cause.Why.{Why}
use Rattle.mux_history.specs.declared.cause.Why.TheVariants as why
use Rattle.mux_history.specs.declared.cause.Cause.{Cause}
use Rattle.mux_history.specs.declared.cause.Cause.TheVariants as cause
use Rattle.mux_history.specs.Cores.{spawns}
use Rattle.lane_lists.specs.declared.item.LaneName.TheVariants as lane
use Rattle.lane_lists.specs.declared.item.Order.{Order}
use Rattle.lane_lists.specs.declared.item.Order.TheVariants as order
use Rattle.lane_lists.specs.declared.item.Posted.TheVariants as posted
use Rattle.lane_lists.specs.declared.item.Side.TheVariants as side
use Rattle.lane_lists.specs.declared.item.Item.{Item}
use Rattle.lane_lists.specs.declared.item.Item.TheVariants as item
use Rattle.lane_lists.specs.Sessions.{chain}
use Rattle.lane_lists.specs.Deeds.{Fair, gather, orders, sides}
use Rattle.lane_lists.specs.Sides.{answers}
use Rattle.lane_lists.specs.StartHistory.{causes_from, tried_by, went}
use Rattle.lane_lists.specs.StartSides.{BeginOnce, start_tagged}
use Rattle.lane_lists.specs.StartOrders.{began, bodies_to_start, end_to_start}
use Rattle.session_io.specs.declared.part.End.{End}
use Rattle.session_io.specs.declared.read.Stop.TheVariants as stop
use Rattle.session_io.specs.Reads.{StoppedBy}
use Rattle.mux_lanes.specs.Runs.{IsRun, IsWholeRun, Run, order_of}
use Rattle.mux_lanes.specs.Lanes.{RoseBy, Turn, all_rises, linked}
use Rattle.mux_lanes.specs.Starts.{Begun, CutBegun, WholeStart, idle}
use Rattle.mux_daemon.specs.Served.{LaneServed, Story, history}
use Rattle.mux_daemon.specs.Sessions.{WrittenAs}

-- the turn of a start whose program was run, and of one whose program couldn't be started
abbrev pub up_turn : ℕ → Run → Turn
up_turn start run = record (linked posted.Up run) { orders = order.Begin start ∷ run.orders }

abbrev pub failed_turn : ℕ → List Order → Turn
failed_turn start orders = idle 1 (posted.NoStart ∷ []) (order.Begin start ∷ orders)

-- by which items a start went, as the deeds tell
abbrev pub how : Story → ℕ → List Item
how s x = went s.editors s.servers s.deeds x

-- it went by the end that its reading part posted of its source, or since a write failed
abbrev pub WentBy : List Item → Type 0
WentBy by = ((w : Why) × (w ≢ why.WriteFault) × (by ≡ item.Posted (posted.Ended w) ∷ [])) ⊎ (by ≡ item.Side side.Broke ∷ [])

-- the history has of a start that it came up, then its bodies, which are the contents of the first frames of the bytes read, and perhaps that it went; and the bodies are all of them where it went since a read failed or a fault stands in the bytes, or, of a whole session that wasn't ordered to be closed, since the source ended
pub record StartRead (limit : ℕ) (history : List Entry) (by : List Item) (start : ℕ) (run : Run) : Type 0 where
  pub bodies : List (List ℕ)
  pub gone : List Cause
  pub says : causes_from start history ≡ cause.Started start ∷ (map (λ body. cause.FromServer start body) bodies ++ gone)
  pub ends : ((gone ≡ []) × (by ≡ [])) ⊎ ((gone ≡ cause.ServerGone start ∷ []) × WentBy by)
  pub fed : List ℕ
  pub others : List (List ℕ)
  pub rest : List ℕ
  pub read : run.ended.read ≡ append_known run.began.read fed
  pub splits : Splits limit fed (bodies ++ others) rest
  pub ended : (w : Why) → by ≡ item.Posted (posted.Ended w) ∷ []
      → StoppedBy limit fed bodies run.ended.left run.began.source_faults run.ended.source_faults (stop.Ended w) ⊎ ((w ≡ why.End) × (IsWholeRun run → run.wrote.end ≡ Some order.Close))

-- a start that failed: the history has nothing else of it, and no body to it where its turn is whole
pub record StartFailedAs (Whole : Type 0) (servers : ℕ) (history : List Entry) (start : ℕ) (turn : Turn) : Type 0 where
  pub orders : List Order
  pub is : turn ≡ failed_turn start orders
  pub says : causes_from start history ≡ cause.StartFailed start ∷ []
  pub ends : Whole → (o : End) × (orders ≡ order_of o ∷ []) × (bodies_to_start servers start history ≡ []) × (end_to_start servers start history ≡ order_of o ∷ [])

-- a start that came up: its run, and what was read and written, by the history
pub record StartRan (Whole : Type 0) (limit servers : ℕ) (history : List Entry) (by : List Item) (start : ℕ) (turn : Turn) : Type 0 where
  pub run : Run
  pub is : turn ≡ up_turn start run
  pub is_run : IsRun limit run
  pub whole : Whole → IsWholeRun run
  pub read : StartRead limit history by start run
  pub written : WrittenAs (bodies_to_start servers start history) (end_to_start servers start history) run

-- a write to a start failed in that start's turn, and there its sink's count rose; no other turn begins this start
pub record StartBroke (turns : List Turn) (start : ℕ) : Type 0 where
  pub place : ℕ
  pub turn : Turn
  pub at : slice_get turns place ≡ Some turn
  pub run : Run
  pub is : turn ≡ up_turn start run
  pub rose : Rose run.began.sink_faults run.ended.sink_faults
  pub only : (k : ℕ) (other : Turn) (rest : List Order) → slice_get turns k ≡ Some other → other.orders ≡ order.Begin start ∷ rest → other ≡ turn

-- the turns of a berth's lane, of which a last one may be cut off, and none is where the work was done: the starts that began there by the history have the whole ones, in their order, and those that were tried there have the first turns
pub record BerthStarts {B : Type 0} (limit : ℕ) (s : Story) (went : Bool) (i : ℕ) (runs left : B → Option (List Session)) (misses : B → ℕ) (old new : B) : Type 0 where
  pub turns : List Turn
  pub last : List Turn
  pub each : All (Begun (WholeStart limit)) turns
  pub cut : All (CutBegun limit) last
  pub one : length last ≤ 1
  pub whole : went ≡ true → last ≡ []
  pub back_are : runs new ≡ append_to (runs old) (chain (map (λ (t : Turn). t.back) (turns ++ last)))
  pub left_are : left old ≡ prepend_to (chain (map (λ (t : Turn). t.came) (turns ++ last))) (left new)
  -- the count rose once for each start that failed
  pub rose : RoseBy (all_rises (turns ++ last)) (misses old) (misses new)
  pub start : (k : ℕ) (turn : Turn) → slice_get turns k ≡ Some turn → (x : ℕ) × (slice_get (began s.servers i (history s)) k ≡ Some x) × ((rest : List Order) × (turn.orders ≡ order.Begin x ∷ rest))
  pub all : went ≡ true → length (began s.servers i (history s)) ≡ length turns
  pub served : (k x : ℕ) → slice_get (gather s.editors s.servers (tried_by (lane.Server i)) s.deeds) k ≡ Some x → (turn : Turn) × (slice_get (turns ++ last) k ≡ Some turn)
      × (StartFailedAs (k < length turns) s.servers (history s) x turn ⊎ StartRan (k < length turns) limit s.servers (history s) (how s x) x turn)
  -- whatever the answer is, where no start begins twice, each write that failed by what the lane said did so in the turn of its start
  pub broke : BeginOnce (orders s.editors s.servers (lane.Server i) s.deeds) → (k x bytes : ℕ)
      → slice_get (answers (sides s.editors s.servers (lane.Server i) s.deeds) (start_tagged None (orders s.editors s.servers (lane.Server i) s.deeds))) k ≡ Some ((x, bytes), side.Broke) → StartBroke (turns ++ last) x

-- what follows of a berth's lane, served by a fair story that spawns no start twice; ServedAs says this of its story (`once`)
abbrev pub BerthLaw : {B : Type 0} → (B → Option (List Session)) → (B → Option (List Session)) → (B → ℕ) → Type 0
BerthLaw {B} runs left misses =
    (limit : ℕ) (s : Story) (went : Bool) (i : ℕ) (old new : B) → i < s.servers → Fair s.editors s.servers s.deeds → ((x : ℕ) → spawns x (history s) ≤ 1)
    → LaneServed s went (lane.Server i) (Begun (WholeStart limit)) (CutBegun limit) runs left misses old new → BerthStarts limit s went i runs left misses old new
