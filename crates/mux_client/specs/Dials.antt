-- The dial of a place, and the one link of the port that it gives.
use Rattle.std.specs.Prelude.{◌≡◌, ℕ, ◌+◌, ◌⊎◌, List, [], ◌∷◌}
use Rattle.std.specs.Prelude.{Option, Some, None, IfSome, Result, Err}
use Rattle.outside_io.specs.Doors.{Address, Call, dialled, PortTold, told_of}
use Rattle.outside_io.specs.Faults.{Rose}
use Rattle.outside_io.specs.Sessions.{Session}
use Rattle.outside_io.specs.Told.{append_to, prepend_to}
use Rattle.mux_client.specs.declared.fault.ClientFault.{ClientFault}
use Rattle.mux_client.specs.declared.fault.ClientFault.TheVariants as fault

-- what a port tells, how many of its links are out, and its count of faults
pub record PortState : Type 0 where
  pub told : PortTold
  pub held : ℕ
  pub faults : ℕ

abbrev pub port_state : {P : Type 0} → (P → Option (List Session)) → (P → Option (List Session)) → (P → ℕ) → (P → ℕ) → P → PortState
port_state sessions links held faults port = record { told = told_of sessions links port; held = held port; faults = faults port }

-- what a door tells of the ports that are left, and its count of faults
pub record DoorState : Type 0 where
  pub left : Option (List PortTold)
  pub faults : ℕ

abbrev pub door_state : {D : Type 0} → (D → Option (List PortTold)) → (D → ℕ) → D → DoorState
door_state left faults door = record { left = left door; faults = faults door }

-- the door got one call, a dial of this place; only where memory was wanted it may have got none
abbrev pub Called : {T : Type 0} → Address → Option (List Call) → Option (List Call) → Result T ClientFault → Type 0
Called place before after result = (after ≡ append_to before (dialled place ∷ [])) ⊎ ((result ≡ Err fault.Memory) × (after ≡ before))

-- the door gave this port, which is the first of those that were left; no accept at it has failed
pub record Gave (before after : DoorState) (port : PortState) : Type 0 where
  pub left : before.left ≡ prepend_to (port.told ∷ []) after.left
  pub fresh : port.faults ≡ 0

-- the port gave this link, the first of those that it had
pub record GaveLink (before after : PortState) (link : Session) : Type 0 where
  pub links : before.told.links ≡ prepend_to (link ∷ []) after.told.links
  pub sessions : after.told.sessions ≡ before.told.sessions
  pub held : after.held ≡ before.held + 1

-- the port gave no link: it has none, or an accept failed
pub record GaveNone (before after : PortState) : Type 0 where
  pub told : after.told ≡ before.told
  pub held : after.held ≡ before.held
  pub cause : IfSome before.told.links (λ links. links ≡ []) ⊎ Rose before.faults after.faults

-- the port took a link back, which is told as it was then
pub record TookBack (before after : PortState) (link : Session) : Type 0 where
  pub sessions : after.told.sessions ≡ append_to before.told.sessions (link ∷ [])
  pub links : after.told.links ≡ before.told.links
  pub held : before.held ≡ after.held + 1

-- the door gave no port: its count rose, or memory was wanted
abbrev pub WhyNoPort : ℕ → ℕ → ClientFault → Type 0
WhyNoPort before now fault.Door = Rose before now
WhyNoPort before now fault.Memory = Unit {0}
WhyNoPort before now fault.Input = ⊥
WhyNoPort before now fault.Output = ⊥
WhyNoPort before now fault.Refused = ⊥
WhyNoPort before now fault.Answer = ⊥
WhyNoPort before now fault.Link = ⊥

-- what was done at a port: it gave no link, and nothing else was done (`Nothing`), or it gave one, which it has back, and of the link as it came and as it
-- was handed back this is known (`Did`)
pub data AtPort (before after : PortState) (Nothing : Type 0) (Did : Session → Session → Result (Unit {0}) ClientFault → Type 0) (result : Result (Unit {0}) ClientFault) : Type 0 where
  no_link : result ≡ Err fault.Answer → GaveNone before after → Nothing → AtPort before after Nothing Did result
  linked : (out : PortState) (link link' : Session) → GaveLink before out link → TookBack out after link' → Did link link' result → AtPort before after Nothing Did result

-- what was done behind a dial: the door gave no port, none is there, and nothing else was done, or it gave one, which is there
pub data Dialled (before after : DoorState) (port : Option PortState) (Nothing : Type 0) (Did : Session → Session → Result (Unit {0}) ClientFault → Type 0) (result : Result (Unit {0}) ClientFault) : Type 0 where
  no_port : (why : ClientFault) → result ≡ Err why → WhyNoPort before.faults after.faults why → after.left ≡ before.left → port ≡ None → Nothing → Dialled before after port Nothing Did result
  given : (first now : PortState) → Gave before after first → port ≡ Some now → AtPort first now Nothing Did result → Dialled before after port Nothing Did result
