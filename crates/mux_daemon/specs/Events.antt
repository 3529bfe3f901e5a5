-- What follows of what a daemon served: what each port, the own link and each berth carried by the history, and what each event of the history came of.
use Rattle.std.specs.Prelude.{◌≡◌, ◌≢◌, ℕ, ◌+◌, ◌<◌, Bool, List, [], ◌++◌, Option, Some, length, slice_get}
use Rattle.outside_io.specs.Sessions.{Session}
use Rattle.outside_io.specs.Told.{append_to, prepend_to}
use Rattle.outside_io.specs.contracts.memory.port.MemPortPort.TheImpl as port
use Rattle.mux_history.specs.declared.entry.Entry.{Entry}
use Rattle.mux_history.specs.Cores.{joined}
use Rattle.lane_lists.specs.declared.item.LaneName.TheVariants as lane
use Rattle.lane_lists.specs.Deeds.{sessions}
use Rattle.lane_lists.specs.StartHistory.{causes_from}
use Rattle.lane_lists.specs.Origins.{JoinedLast, SitsIn, TriedIn, ticks_of}
use Rattle.mux_serve.specs.declared.job.LaneJob.{LaneJob}
use Rattle.mux_daemon.specs.declared.open.Lanes.{Lanes}
use Rattle.mux_daemon.specs.declared.serve.Answer.{Answer}
use Rattle.mux_daemon.specs.declared.serve.Answer.TheVariants as answer
use Rattle.mux_daemon.specs.Served.{ServedAs, Story, history, is_end}
use Rattle.mux_daemon.specs.Sessions.{PortSessions}
use Rattle.mux_daemon.specs.Starts.{BerthStarts}

-- the ticks of the history are the first of the moments that the clock gave, in their order
pub record TicksAre {C : Type 0} (given left : C → Option (List ℕ)) (history : List Entry) (old new : C) : Type 0 where
  pub rest : List ℕ
  pub given_are : given new ≡ append_to (given old) (ticks_of history ++ rest)
  pub left_are : left old ≡ prepend_to (ticks_of history ++ rest) (left new)

module _ {P B C : Type 0} (links_back links : P → Option (List Session)) (runs left : B → Option (List Session)) (misses : B → ℕ) (given moments : C → Option (List ℕ)) (limit : ℕ) where
  -- each editor of the history is one of a port's lane or of the own one, and each start of which it has a cause was tried in a berth's lane; `ports`, `own` and `berths` say what these came of
  pub record CameOf (s : Story) (x : Answer) (old new : Lanes P B C) : Type 0 where
    pub ports : (i : ℕ) (p q : LaneJob P) → slice_get old.ports.items i ≡ Some p → slice_get new.ports.items i ≡ Some q → PortSessions limit s (is_end x) i links_back links p.outside q.outside
    pub own : PortSessions limit s (is_end x) (length old.ports.items) port.ghosts.sessions port.ghosts.links old.own.outside new.own.outside
    pub berths : (i : ℕ) (p q : LaneJob B) → slice_get old.berths.items i ≡ Some p → slice_get new.berths.items i ≡ Some q → BerthStarts limit s (is_end x) i runs left misses p.outside q.outside
    pub editors : (e : ℕ) → e < joined (history s) → SitsIn (length old.ports.items + 1) (length old.berths.items) s.deeds e
    pub starts : (n : ℕ) → causes_from n (history s) ≢ [] → TriedIn (length old.ports.items + 1) (length old.berths.items) s.deeds n
    pub ticks : TicksAre given moments (history s) old.clock.outside new.clock.outside
    -- with PortsClosed the own link joined, behind all others, each of which had gone
    pub closed : x ≡ answer.PortsClosed → JoinedLast s.editors s.servers (length old.ports.items) s.deeds
    -- with Stopped it didn't, so each editor is of a port
    pub stopped : x ≡ answer.Stopped → sessions s.editors s.servers (lane.Editor (length old.ports.items)) s.deeds ≡ []

module _ {K P B C : Type 0} (stands : K → List Entry → Type 0) (too_many : List Entry → Type 0) (stops : List Entry → Bool) (links_back links : P → Option (List Session)) (faults : P → ℕ) (runs left : B → Option (List Session)) (misses : B → ℕ) (given moments : C → Option (List ℕ)) where
  abbrev pub ServedLaw : Type 0
  ServedLaw = (limit : ℕ) (core : K) (old new : Lanes P B C) (x : Answer) (f : ServedAs stands too_many stops links_back links faults runs left misses given moments limit core old new x)
      → CameOf links_back links runs left misses given moments limit f.story x old new
