-- What a daemon by some settings did.
use Rattle.std.specs.Prelude.{◌≡◌, ℕ, List, [], ◌∷◌, map, ◌⊎◌, ⊤}
use Rattle.std.specs.Prelude.{Option, Some, None, Result, Ok, Err}
use Rattle.outside_io.specs.Doors.{Call, Gave, PortTold, address_of, opened, told_of}
use Rattle.outside_io.specs.Faults.{Rose}
use Rattle.outside_io.specs.Sessions.{Session}
use Rattle.outside_io.specs.Told.{append_to}
use Rattle.mux_history.specs.declared.entry.Entry.{Entry}
use Rattle.mux_config.specs.declared.config.Config.{Config}
use Rattle.mux_serve.specs.declared.job.LaneJob.{LaneJob}
use Rattle.mux_daemon.specs.declared.open.Lanes.{Lanes}
use Rattle.mux_daemon.specs.declared.serve.Answer.{Answer}
use Rattle.mux_daemon.specs.Served.{history}
use Rattle.mux_service.specs.Ends.{HasNumbers}
use Rattle.mux_service.specs.Services.{AsksStop, LanesServed}
use Rattle.settled_hub.specs.Settings.{hub_settings}
use Rattle.serve_program.specs.declared.fault.ServeFault.{ServeFault}
use Rattle.serve_program.specs.declared.fault.ServeFault.TheVariants as fault
use Rattle.serve_program.specs.Faults.{result_of}

-- what lanes serve, in their order
abbrev pub outsides : {P : Type 0} → List (LaneJob P) → List P
outsides jobs = map (λ job. job.outside) jobs

-- lanes of these ports, berths and clock that no work went through yet, beside an own link that asks for a stop
pub record LanesOf {P B C : Type 0} (ports : List P) (berths : List B) (clock : C) (lanes : Lanes P B C) : Type 0 where
  pub of_ports : outsides lanes.ports.items ≡ ports
  pub own : AsksStop lanes.own.outside
  pub of_berths : outsides lanes.berths.items ≡ berths
  pub of_clock : lanes.clock.outside ≡ clock

module _ {J P B C : Type 0} (told : J → Option (List Entry)) (faults_of : J → ℕ) (links_back links : P → Option (List Session)) (runs left : B → Option (List Session)) (misses : B → ℕ) (given moments : C → Option (List ℕ)) where
  -- these ports were served in these berths and by this clock
  pub record PortsServed (config : Config) (journal now : J) (ports : List P) (berths : List B) (clock : C) (new : Lanes P B C) (result : Result (Unit {0}) ServeFault) : Type 0 where
    pub old : Lanes P B C
    pub of : LanesOf ports berths clock old
    pub answer : Answer
    pub served : LanesServed told links_back links runs left misses given moments config.content (hub_settings config) now old new answer
    pub is : result ≡ result_of answer
    pub journal_rose : result ≡ Err fault.Journal → Rose (faults_of journal) (faults_of now)
    -- where the journal's count didn't rise and no cause that can come is one too many, they were served to their end, or memory was wanted
    pub complete : (Rose (faults_of journal) (faults_of now) → ⊥) → HasNumbers (hub_settings config) (history served.story) → (result ≡ Ok tt) ⊎ (result ≡ Err fault.Memory)

  -- the ports were served, or memory was wanted before and the journal is as it was
  abbrev pub CameOfPorts : Config → J → J → List P → List B → C → Option (Lanes P B C) → Result (Unit {0}) ServeFault → Type 0
  CameOfPorts config journal now ports berths clock (Some new) result = PortsServed config journal now ports berths clock new result
  CameOfPorts config journal now ports berths clock None result = (result ≡ Err fault.Memory) × (now ≡ journal)

  -- the history that was served, where any was, has numbers left for each cause that can come
  abbrev pub PortsHaveNumbers : (config : Config) (journal now : J) (ports : List P) (berths : List B) (clock : C) (lanes : Option (Lanes P B C)) (result : Result (Unit {0}) ServeFault) → CameOfPorts config journal now ports berths clock lanes result → Type 0
  PortsHaveNumbers config journal now ports berths clock (Some new) result came = HasNumbers (hub_settings config) (history came.served.story)
  PortsHaveNumbers config journal now ports berths clock None result came = ⊤

module _ {D J P B C : Type 0} (calls : D → Option (List Call)) (ports_left : D → Option (List PortTold)) (refusals : D → ℕ) (told : J → Option (List Entry)) (faults_of : J → ℕ) (links_back links : P → Option (List Session)) (faults : P → ℕ) (runs left : B → Option (List Session)) (misses : B → ℕ) (given moments : C → Option (List ℕ)) where
  -- the door's one call opened the settings' place for their number of links, and what came of all ports that it gave
  pub record Opened (config : Config) (door door' : D) (journal now : J) (berths : List B) (clock : C) (lanes : Option (Lanes P B C)) (result : Result (Unit {0}) ServeFault) : Type 0 where
    pub called : calls door' ≡ append_to (calls door) (opened (address_of config.place) config.links ∷ [])
    pub ports : List P
    pub gave : Gave (told_of links_back links) faults config.links [] ports (ports_left door) (ports_left door')
    pub came : CameOfPorts told faults_of links_back links runs left misses given moments config journal now ports berths clock lanes result

  -- no link can come at the settings' place, or memory was wanted for its ports; nothing was served
  pub record Unopened (door door' : D) (journal now : J) (lanes : Option (Lanes P B C)) (why : ServeFault) : Type 0 where
    pub none : lanes ≡ None
    pub same : now ≡ journal
    pub cause : (why ≡ fault.Memory) ⊎ ((why ≡ fault.Door) × Rose (refusals door) (refusals door'))

  -- what came of settings
  pub data CameOfSettings (config : Config) (door door' : D) (journal now : J) (berths : List B) (clock : C) (lanes : Option (Lanes P B C)) (result : Result (Unit {0}) ServeFault) : Type 0 where
    ran : Opened config door door' journal now berths clock lanes result → CameOfSettings config door door' journal now berths clock lanes result
    never : (why : ServeFault) → result ≡ Err why → Unopened door door' journal now lanes why → CameOfSettings config door door' journal now berths clock lanes result

  -- the history that was served, where any was, has numbers left for each cause that can come
  abbrev pub HaveNumbers : (config : Config) (door door' : D) (journal now : J) (berths : List B) (clock : C) (lanes : Option (Lanes P B C)) (result : Result (Unit {0}) ServeFault) → CameOfSettings config door door' journal now berths clock lanes result → Type 0
  HaveNumbers config door door' journal now berths clock lanes result (ran o) = PortsHaveNumbers told faults_of links_back links runs left misses given moments config journal now o.ports berths clock lanes result o.came
  HaveNumbers config door door' journal now berths clock lanes result (never why is u) = ⊤

  -- neither the door's count rose nor the journal's, and no cause that can come is one too many
  pub record Undisturbed (config : Config) (door door' : D) (journal now : J) (berths : List B) (clock : C) (lanes : Option (Lanes P B C)) (result : Result (Unit {0}) ServeFault) (came : CameOfSettings config door door' journal now berths clock lanes result) : Type 0 where
    pub door_calm : Rose (refusals door) (refusals door') → ⊥
    pub journal_calm : Rose (faults_of journal) (faults_of now) → ⊥
    pub few : HaveNumbers config door door' journal now berths clock lanes result came
