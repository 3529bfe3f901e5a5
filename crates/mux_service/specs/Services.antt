-- What a daemon did over a hub: a legal history of conforming sessions, and what each link and each program carried by it.
use Rattle.std.specs.Prelude.{◌≡◌, ℕ, ◌+◌, ◌≤◌, true, List, [], ◌∷◌, Option, Some, codes, length}
use Rattle.base_frame.specs.Frames.{framed}
use Rattle.outside_io.specs.Sessions.{Session}
use Rattle.outside_io.specs.declared.memory.port.MemPort.{MemPort}
use Rattle.outside_io.specs.contracts.memory.port.MemPortPort.TheImpl as port
use Rattle.mux_history.specs.declared.entry.Entry.{Entry}
use Rattle.event_model.specs.Event.{events_of}
use Rattle.event_model.specs.Settings.{Settings}
use Rattle.mux_hub.specs.group_facts.specs.Legal.{Legal}
use Rattle.mux_hub.specs.Entries.{most_events, was_stopped}
use Rattle.mux_hub.specs.Hubs.{Tells}
use Rattle.mux_hub.specs.Sessions.{Sessions}
use Rattle.mux_daemon.specs.declared.open.Lanes.{Lanes}
use Rattle.mux_daemon.specs.declared.serve.Answer.{Answer}
use Rattle.mux_daemon.specs.declared.serve.Answer.TheVariants as answer
use Rattle.mux_daemon.specs.Causes.{EventsOf, JoinedBy}
use Rattle.mux_daemon.specs.Events.{CameOf}
use Rattle.mux_daemon.specs.Served.{Story, history, is_end}
use Rattle.mux_service.specs.Ends.{AskedToStop, PassesMost}

-- the request of the daemon's own link
abbrev pub stop_request : List ℕ
stop_request = codes "{\"jsonrpc\":\"2.0\",\"id\":1,\"method\":\"lspmux/stop\"}"

-- a port that has one link, whose source gives this request in its frame and then its end
abbrev pub AsksStop : MemPort → Type 0
AsksStop own = (port.ghosts.sessions own ≡ Some [])
    × (port.ghosts.links own ≡ Some (record { read = Some []; left = Some (framed stop_request); written = Some []; source_faults = 0; sink_faults = 0 } ∷ []))

-- a history that a hub with these settings had: it is legal, each part of it is a conforming session, its causes and outs are at most 2^63 - 1, and the journal tells it where it tells
pub record HubHistory {J : Type 0} (told : J → Option (List Entry)) (settings : Settings) (journal : J) (entries : List Entry) : Type 0 where
  pub legal : Legal settings entries
  pub sessions : Sessions settings entries
  pub few : length (events_of entries) ≤ most_events
  pub told_by : Tells (told journal) entries

module _ {J P B C : Type 0} (told : J → Option (List Entry)) (links_back links : P → Option (List Session)) (runs left : B → Option (List Session)) (misses : B → ℕ) (given moments : C → Option (List ℕ)) (limit : ℕ) (settings : Settings) where
  -- an editor asked for a stop and was answered; it is of a link of a port, or, where the answer isn't Stopped, of the own link
  pub record StopCame (story : Story) (old new : Lanes P B C) (x : Answer) : Type 0 where
    pub editor : ℕ
    pub asked : AskedToStop (history story) editor
    pub came : JoinedBy links_back links runs left misses limit story x old new editor

  -- what the lanes of a daemon did: its history, and of it what each link and each program carried, and what each event came of. It ended by a stop only where one was asked for and answered, and by Numbers only where a cause could come that was one too many
  pub record LanesServed (journal : J) (old new : Lanes P B C) (x : Answer) : Type 0 where
    pub story : Story
    pub editors : story.editors ≡ length old.ports.items + 1
    pub servers : story.servers ≡ length old.berths.items
    pub had : HubHistory told settings journal (history story)
    pub came : CameOf links_back links runs left misses given moments limit story x old new
    pub events : EventsOf links_back links runs left misses limit story x old new
    pub ports_len : length new.ports.items ≡ length old.ports.items
    pub berths_len : length new.berths.items ≡ length old.berths.items
    pub stopped : is_end x ≡ true → was_stopped (history story) ≡ true
    pub asked : was_stopped (history story) ≡ true → StopCame story old new x
    pub numbers : x ≡ answer.Numbers → PassesMost settings (history story)
