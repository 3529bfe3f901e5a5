-- What the link of each editor of a port carried, by the history.
use Rattle.std.specs.Prelude.{◌≡◌, ◌≢◌, ◌⊎◌, ℕ, ◌≤◌, ◌+◌, ◌<◌, Bool, true, false, List, [], ◌∷◌, ◌++◌, Option, Some, map, length, slice_get}
use Rattle.std.specs.Io.KnownBytes.{append_known}
use Rattle.base_frame.specs.Frames.{Splits, all_framed, framed}
use Rattle.outside_io.specs.Faults.{Rose}
use Rattle.outside_io.specs.Sessions.{Session}
use Rattle.outside_io.specs.Told.{append_to, prepend_to}
use Rattle.mux_history.specs.declared.entry.Entry.{Entry}
use Rattle.mux_history.specs.declared.cause.Why.{Why}
use Rattle.mux_history.specs.declared.cause.Why.TheVariants as why
use Rattle.lane_lists.specs.declared.item.LaneName.TheVariants as lane
use Rattle.lane_lists.specs.declared.item.Order.{Order}
use Rattle.lane_lists.specs.declared.item.Order.TheVariants as order
use Rattle.lane_lists.specs.declared.item.Posted.TheVariants as posted
use Rattle.lane_lists.specs.declared.item.Side.{Side}
use Rattle.lane_lists.specs.declared.item.Side.TheVariants as side
use Rattle.lane_lists.specs.Deeds.{Fair, orders, sessions, sides}
use Rattle.lane_lists.specs.History.{bodies_from, bodies_to, end_to, gone_of}
use Rattle.lane_lists.specs.Sides.{answers, tagged}
use Rattle.session_io.specs.declared.read.Stop.TheVariants as stop
use Rattle.session_io.specs.Reads.{StoppedBy}
use Rattle.mux_lanes.specs.Runs.{IsRun, IsWholeRun, Run, order_of}
use Rattle.session_io.specs.declared.part.End.{End}
use Rattle.mux_lanes.specs.Lanes.{CutLink, WholeLink}
use Rattle.mux_daemon.specs.Served.{LaneServed, Story, history}

-- the bodies from an editor in the history are the first of the frames of the bytes that its session read; and they are all of them where the history says that the source ended, that a read failed or that a fault stands in the bytes, unless the session was ordered to be closed
pub record ReadOf (limit : ℕ) (history : List Entry) (e : ℕ) (run : Run) : Type 0 where
  pub fed : List ℕ
  pub others : List (List ℕ)
  pub rest : List ℕ
  pub read : run.ended.read ≡ append_known run.began.read fed
  pub splits : Splits limit fed (bodies_from e history ++ others) rest
  pub ended : (w : Why) → gone_of e history ≡ w ∷ [] → w ≢ why.WriteFault
      → StoppedBy limit fed (bodies_from e history) run.ended.left run.began.source_faults run.ended.source_faults (stop.Ended w) ⊎ ((w ≡ why.End) × (IsWholeRun run → run.wrote.end ≡ Some order.Close))

-- the bytes written are the frames of these bodies, or the first of these bytes: all of them where the session is whole and no write failed, which happens only where the sink's count rose; a whole session ends by the one order that is given behind them
pub record WrittenAs (bodies : List (List ℕ)) (given : List Order) (run : Run) : Type 0 where
  pub sent : List ℕ
  pub unsent : List ℕ
  pub written : run.ended.written ≡ append_known run.began.written sent
  pub front : all_framed bodies ≡ sent ++ unsent
  pub all : IsWholeRun run → run.wrote.broke ≡ false → unsent ≡ []
  pub fault : run.wrote.broke ≡ true → Rose run.began.sink_faults run.ended.sink_faults
  pub ends : IsWholeRun run → (o : End) × (run.wrote.end ≡ Some (order_of o)) × (given ≡ order_of o ∷ [])

-- what was written to an editor, by the bodies to it and its end in the history
abbrev pub WrittenOf : List Entry → ℕ → Run → Type 0
WrittenOf history e run = WrittenAs (bodies_to e history) (end_to e history) run

-- a body of so many bytes was written whole: its frame stands behind other frames in what the session wrote
pub record BodyWritten (run : Run) (bytes : ℕ) : Type 0 where
  pub before : List (List ℕ)
  pub body : List ℕ
  pub behind : List ℕ
  pub is : length body ≡ bytes
  pub written : run.ended.written ≡ append_known run.began.written (all_framed before ++ (framed body ++ behind))

-- what a session said of a body of so many bytes, and so it was: it was written whole, or its write failed
abbrev pub SaidIn : Run → ℕ → Side → Type 0
SaidIn run bytes side.Wrote = BodyWritten run bytes
SaidIn run bytes side.Broke = (run.wrote.broke ≡ true) × Rose run.began.sink_faults run.ended.sink_faults

-- what was said of a body to an editor was said in that editor's session
pub record SaidBy (ids : List ℕ) (runs : List Run) (editor bytes : ℕ) (what : Side) : Type 0 where
  pub place : ℕ
  pub of : slice_get ids place ≡ Some editor
  pub run : Run
  pub at : slice_get runs place ≡ Some run
  pub said : SaidIn run bytes what

-- the sessions of a port's lane: each link that came, but a last one that was refused, has a run, and the editors of the lane have the first ones, in their order
pub record PortSessions {P : Type 0} (limit : ℕ) (s : Story) (went : Bool) (i : ℕ) (back left : P → Option (List Session)) (old new : P) : Type 0 where
  pub runs : List Run
  pub refused : List Session
  pub one : length refused ≤ 1
  pub back_are : back new ≡ append_to (back old) (map (λ (r : Run). r.ended) runs ++ refused)
  pub left_are : left old ≡ prepend_to (map (λ (r : Run). r.began) runs ++ refused) (left new)
  pub each : (k : ℕ) (run : Run) → slice_get runs k ≡ Some run → IsRun limit run
  pub front : (k : ℕ) (run : Run) → k + 1 < length runs → slice_get runs k ≡ Some run → IsWholeRun run
  pub whole : went ≡ true → (refused ≡ []) × ((k : ℕ) (run : Run) → slice_get runs k ≡ Some run → IsWholeRun run)
  pub editor : (k : ℕ) (run : Run) → slice_get runs k ≡ Some run → IsWholeRun run → (e : ℕ) × (slice_get (sessions s.editors s.servers (lane.Editor i) s.deeds) k ≡ Some e)
  pub served : (k e : ℕ) → slice_get (sessions s.editors s.servers (lane.Editor i) s.deeds) k ≡ Some e → (run : Run) × (slice_get runs k ≡ Some run) × ReadOf limit (history s) e run × WrittenOf (history s) e run
  -- whatever the answer is, what the lane said of a body it said in the session of its editor
  pub said : (k e bytes : ℕ) (what : Side) → slice_get (answers (sides s.editors s.servers (lane.Editor i) s.deeds) (tagged (sessions s.editors s.servers (lane.Editor i) s.deeds) (orders s.editors s.servers (lane.Editor i) s.deeds))) k ≡ Some ((e, bytes), what)
      → SaidBy (sessions s.editors s.servers (lane.Editor i) s.deeds) runs e bytes what

abbrev pub PortLaw : {P : Type 0} → (P → Option (List Session)) → (P → Option (List Session)) → (P → ℕ) → Type 0
PortLaw {P} back left faults =
    (limit : ℕ) (s : Story) (went : Bool) (i : ℕ) (old new : P) → i < s.editors → Fair s.editors s.servers s.deeds
    → LaneServed s went (lane.Editor i) (WholeLink posted.Link limit) (CutLink posted.Link limit) back left faults old new → PortSessions limit s went i back left old new
