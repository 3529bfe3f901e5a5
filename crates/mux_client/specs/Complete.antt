-- When a client and a question end well.
use Rattle.std.specs.Prelude.{◌≡◌, ℕ, List, ◌∷◌, ◌++◌, []}
use Rattle.std.specs.Prelude.{Option, Some, None, Result, Ok, Err}
use Rattle.outside_io.specs.Doors.{PortTold}
use Rattle.outside_io.specs.Faults.{Rose}
use Rattle.outside_io.specs.Sessions.{Session}
use Rattle.mux_client.specs.Answers.{Begins}
use Rattle.mux_client.specs.Dials.{DoorState, PortState}
use Rattle.mux_client.specs.Requests.{IsResult, open_id}
use Rattle.mux_client.specs.Sessions.{ReadFailed, WriteFailed}
use Rattle.mux_client.specs.declared.fault.ClientFault.{ClientFault}
use Rattle.mux_client.specs.declared.fault.ClientFault.TheVariants as fault

-- the next port that a door gives has this link, which says these bytes
pub record OffersLink (door : DoorState) (link : Session) (bytes : List ℕ) : Type 0 where
  pub port : PortTold
  pub ports : List PortTold
  pub links : List Session
  pub had : List Session
  pub is_next : door.left ≡ Some (port ∷ ports)
  pub has_link : port.links ≡ Some (link ∷ links)
  pub tells : port.sessions ≡ Some had
  pub says : link.left ≡ Some bytes

-- no count of the port or of its link rose
pub record Stays (port : Option PortState) (link : Session) : Type 0 where
  pub accepts : (now : PortState) → port ≡ Some now → Rose 0 now.faults → ⊥
  pub works : (now : PortState) (had : List Session) (link' : Session) → port ≡ Some now → now.told.sessions ≡ Some (had ++ link' ∷ []) → (ReadFailed link link' → ⊥) × (WriteFailed link link' → ⊥)

-- done, or memory was wanted
abbrev pub IsDone : Result (Unit {0}) ClientFault → Type 0
IsDone (Ok done) = Unit {0}
IsDone (Err why) = why ≡ fault.Memory

-- the link says first what is asked for
abbrev pub SaysFirst : ℕ → (List ℕ → Type 0) → List ℕ → Type 0
SaysFirst limit Wanted bytes = (answer : List ℕ) × Begins limit bytes answer × Wanted answer

-- where a server is named, its request's result
abbrev pub SaysOpened : ℕ → Option (List ℕ) → List ℕ → Type 0
SaysOpened limit None bytes = Unit {0}
SaysOpened limit (Some name) bytes = SaysFirst limit (IsResult open_id) bytes
