-- What each event of the history came of: of which link or program, and how that stood then.
use Rattle.std.specs.Prelude.{◌≡◌, ◌≢◌, ◌⊎◌, ℕ, ◌<◌, Bool, true, List, [], ◌∷◌, ◌++◌, IfSome, Option, Some, slice_get}
use Rattle.std.specs.Io.KnownBytes.{append_known}
use Rattle.base_frame.specs.Frames.{Splits}
use Rattle.base_frame.specs.Reader.{IsFaulty}
use Rattle.outside_io.specs.Faults.{Rose}
use Rattle.outside_io.specs.Sessions.{Session}
use Rattle.outside_io.specs.Told.{append_to, prepend_to}
use Rattle.outside_io.specs.contracts.memory.port.MemPortPort.TheImpl as port
use Rattle.mux_history.specs.declared.entry.Entry.{Entry}
use Rattle.mux_history.specs.declared.cause.Why.{Why}
use Rattle.mux_history.specs.declared.cause.Why.TheVariants as why
use Rattle.mux_history.specs.Cores.{joined}
use Rattle.lane_lists.specs.declared.item.Order.TheVariants as order
use Rattle.lane_lists.specs.declared.item.Posted.TheVariants as posted
use Rattle.lane_lists.specs.declared.item.Item.{Item}
use Rattle.lane_lists.specs.declared.item.Item.TheVariants as item
use Rattle.lane_lists.specs.declared.item.Side.{Side}
use Rattle.lane_lists.specs.declared.item.Side.TheVariants as side
use Rattle.lane_lists.specs.History.{bodies_from, end_to, gone_of}
use Rattle.lane_lists.specs.Sides.{drained_in, failed_in, told_of}
use Rattle.lane_lists.specs.StartHistory.{causes_from}
use Rattle.lane_lists.specs.StartOrders.{end_to_start}
use Rattle.session_io.specs.declared.part.End.TheVariants as end
use Rattle.session_io.specs.declared.read.Stop.TheVariants as stop
use Rattle.session_io.specs.Reads.{StoppedBy}
use Rattle.mux_lanes.specs.Lanes.{Turn}
use Rattle.mux_lanes.specs.Runs.{IsRun, IsWholeRun, Run}
use Rattle.mux_serve.specs.declared.job.LaneJob.{LaneJob}
use Rattle.mux_daemon.specs.declared.open.Lanes.{Lanes}
use Rattle.mux_daemon.specs.declared.serve.Answer.{Answer}
use Rattle.mux_daemon.specs.declared.serve.Answer.TheVariants as answer
use Rattle.mux_daemon.specs.Served.{ServedAs, Story, history, is_end}
use Rattle.mux_daemon.specs.Sessions.{ReadOf, SaidIn, WrittenOf}
use Rattle.mux_daemon.specs.Starts.{StartFailedAs, StartRan, how}

-- the link or the program of a run came from here, and was handed back here as the run left it
pub record CameFrom {P : Type 0} (back left : P → Option (List Session)) (old new : P) (run : Run) : Type 0 where
  pub came_before : List Session
  pub came_behind : List Session
  pub came : left old ≡ prepend_to (came_before ++ run.began ∷ came_behind) (left new)
  pub back_before : List Session
  pub back_behind : List Session
  pub handed_back : back new ≡ append_to (back old) (back_before ++ run.ended ∷ back_behind)

-- a fault of frames stands in the bytes that were read, behind the bodies that the history has from an editor
pub record ReadsFault (limit : ℕ) (bodies : List (List ℕ)) (run : Run) : Type 0 where
  pub fed : List ℕ
  pub rest : List ℕ
  pub read : run.ended.read ≡ append_known run.began.read fed
  pub splits : Splits limit fed bodies rest
  pub fault : IsFaulty limit rest

-- an editor's link came from a port: what was read and written there, and of what its going came. Of a whole session from which it went by the end of its source, the source has no bytes left, or the history has before that it was closed
pub record EditorCame {P : Type 0} (limit : ℕ) (history : List Entry) (went : Bool) (back left : P → Option (List Session)) (old new : P) (e : ℕ) : Type 0 where
  pub run : Run
  pub is_run : IsRun limit run
  pub whole : went ≡ true → IsWholeRun run
  pub link : CameFrom back left old new run
  pub read : ReadOf limit history e run
  pub written : WrittenOf history e run
  pub ended : gone_of e history ≡ why.End ∷ [] → IsWholeRun run → IfSome run.ended.left (λ bytes. bytes ≡ []) ⊎ (end_to e history ≡ order.Close ∷ [])
  pub read_fault : gone_of e history ≡ why.ReadFault ∷ [] → Rose run.began.source_faults run.ended.source_faults
  pub bad_frame : gone_of e history ≡ why.BadFrame ∷ [] → ReadsFault limit (bodies_from e history) run

-- how a program's source stopped: it ended, a read failed, or a fault stands in the bytes that were read
pub record SourceOver (limit : ℕ) (run : Run) : Type 0 where
  pub by : Why
  pub told : run.stop ≡ stop.Ended by
  pub fed : List ℕ
  pub given : List (List ℕ)
  pub read : run.ended.read ≡ append_known run.began.read fed
  pub stopped : StoppedBy limit fed given run.ended.left run.began.source_faults run.ended.source_faults (stop.Ended by)

-- a start whose program ran in a berth. Its whole session is over since its source stopped, since the history has before that it was ended, or since it went otherwise before its source stopped. Where it went by the end that was posted of its source, the history has all frames that were read, or it has before that the start was ended
pub record ProgramCame {B : Type 0} (limit servers : ℕ) (history : List Entry) (by : List Item) (went : Bool) (runs left : B → Option (List Session)) (old new : B) (start : ℕ) : Type 0 where
  pub turn : Turn
  pub did : StartRan (went ≡ true) limit servers history by start turn
  pub program : CameFrom runs left old new did.run
  pub over : IsWholeRun did.run → SourceOver limit did.run ⊎ (end_to_start servers start history ≡ order.Close ∷ []) ⊎ (did.run.stop ≡ stop.Told end.Done)
  pub ended : (w : Why) → by ≡ item.Posted (posted.Ended w) ∷ [] → IsWholeRun did.run
      → StoppedBy limit did.read.fed did.read.bodies did.run.ended.left did.run.began.source_faults did.run.ended.source_faults (stop.Ended w) ⊎ (end_to_start servers start history ≡ order.Close ∷ [])

-- a start that failed: the berth's count rose
pub record FailureCame {B : Type 0} (servers : ℕ) (history : List Entry) (went : Bool) (misses : B → ℕ) (old new : B) (start : ℕ) : Type 0 where
  pub turn : Turn
  pub did : StartFailedAs (went ≡ true) servers history start turn
  pub rose : Rose (misses old) (misses new)

module _ {P B C : Type 0} (links_back links : P → Option (List Session)) (runs left : B → Option (List Session)) (misses : B → ℕ) (limit : ℕ) where
  -- an editor is of a link of a port, or of the own one, but not where the answer is Stopped
  pub data JoinedBy (s : Story) (x : Answer) (old new : Lanes P B C) (e : ℕ) : Type 0 where
    of_port : (i : ℕ) (p q : LaneJob P) → slice_get old.ports.items i ≡ Some p → slice_get new.ports.items i ≡ Some q → EditorCame limit (history s) (is_end x) links_back links p.outside q.outside e → JoinedBy s x old new e
    of_own : x ≢ answer.Stopped → EditorCame limit (history s) (is_end x) port.ghosts.sessions port.ghosts.links old.own.outside new.own.outside e → JoinedBy s x old new e

  -- a start of which the history has a cause came up in a berth, or failed there
  pub data StartedBy (s : Story) (x : Answer) (old new : Lanes P B C) (n : ℕ) : Type 0 where
    came_up : (i : ℕ) (p q : LaneJob B) → slice_get old.berths.items i ≡ Some p → slice_get new.berths.items i ≡ Some q → ProgramCame limit s.servers (history s) (how s n) (is_end x) runs left p.outside q.outside n → StartedBy s x old new n
    failed : (i : ℕ) (p q : LaneJob B) → slice_get old.berths.items i ≡ Some p → slice_get new.berths.items i ≡ Some q → FailureCame s.servers (history s) (is_end x) misses p.outside q.outside n → StartedBy s x old new n

  -- what the history has of a body to an editor was so in that editor's session, of a link of a port or of the own one
  pub data BodySaid (s : Story) (x : Answer) (old new : Lanes P B C) (e bytes : ℕ) (what : Side) : Type 0 where
    by_port : (i : ℕ) (p q : LaneJob P) → slice_get old.ports.items i ≡ Some p → slice_get new.ports.items i ≡ Some q
        → (came : EditorCame limit (history s) (is_end x) links_back links p.outside q.outside e) → SaidIn came.run bytes what → BodySaid s x old new e bytes what
    by_own : x ≢ answer.Stopped → (came : EditorCame limit (history s) (is_end x) port.ghosts.sessions port.ghosts.links old.own.outside new.own.outside e) → SaidIn came.run bytes what → BodySaid s x old new e bytes what

  -- a start went since a write failed, and the count of the sink of its program rose in its session
  pub data SinkRose (s : Story) (x : Answer) (old new : Lanes P B C) (n : ℕ) : Type 0 where
    in_berth : (i : ℕ) (p q : LaneJob B) → slice_get old.berths.items i ≡ Some p → slice_get new.berths.items i ≡ Some q
        → (came : ProgramCame limit s.servers (history s) (how s n) (is_end x) runs left p.outside q.outside n) → Rose came.did.run.began.sink_faults came.did.run.ended.sink_faults → SinkRose s x old new n

  pub record EventsOf (s : Story) (x : Answer) (old new : Lanes P B C) : Type 0 where
    pub editors : (e : ℕ) → e < joined (history s) → JoinedBy s x old new e
    pub starts : (n : ℕ) → causes_from n (history s) ≢ [] → StartedBy s x old new n
    -- whatever the answer is, each body of which the history has that it was drained was written whole, and each editor that went by a failed write had one in its session
    pub drained : (k e bytes : ℕ) → slice_get (told_of drained_in (history s)) k ≡ Some (e, bytes) → BodySaid s x old new e bytes side.Wrote
    pub broke : (k e : ℕ) → slice_get (told_of failed_in (history s)) k ≡ Some e → (bytes : ℕ) × BodySaid s x old new e bytes side.Broke
    -- and a start went since a write failed only where its sink's count rose
    pub sinks : (k n : ℕ) → slice_get (how s n) k ≡ Some (item.Side side.Broke) → SinkRose s x old new n

module _ {K P B C : Type 0} (stands : K → List Entry → Type 0) (too_many : List Entry → Type 0) (stops : List Entry → Bool) (links_back links : P → Option (List Session)) (faults : P → ℕ) (runs left : B → Option (List Session)) (misses : B → ℕ) (given moments : C → Option (List ℕ)) where
  abbrev pub EventsLaw : Type 0
  EventsLaw = (limit : ℕ) (core : K) (old new : Lanes P B C) (x : Answer) (f : ServedAs stands too_many stops links_back links faults runs left misses given moments limit core old new x)
      → EventsOf links_back links runs left misses limit f.story x old new
