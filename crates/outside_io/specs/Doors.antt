-- The calls and the ports of a door.
use Rattle.std.specs.Prelude.{◌≡◌, ℕ, ◌≤◌, ◌⊎◌, List, ◌++◌, [], length, map, All, Option, IfSome, string_bytes}
use Rattle.outside_io.specs.Sessions.{Session}
use Rattle.outside_io.specs.Told.{prepend_to}
use Rattle.outside_io.specs.declared.door.Place.{Place}
use Rattle.outside_io.specs.declared.door.Place.TheVariants as place

-- a place: the bytes of a Unix socket's path, the number of a TCP port of the loopback address, or the standard input and output
pub data Address : Type 0 where
  unix : List ℕ → Address
  tcp : ℕ → Address
  streams : Address

abbrev pub address_of : Place → Address
address_of (place.Unix path) = unix (string_bytes path)
address_of (place.Tcp port) = tcp port
address_of place.Streams = streams

-- a call: `open` of a place for a number of ports, or `dial` of a place
pub data Call : Type 0 where
  opened : Address → ℕ → Call
  dialled : Address → Call

-- what a port tells: the sessions handed back, and the links left
pub record PortTold : Type 0 where
  pub sessions : Option (List Session)
  pub links : Option (List Session)

abbrev pub told_of : {P : Type 0} → (P → Option (List Session)) → (P → Option (List Session)) → P → PortTold
told_of sessions links port = record { sessions = sessions port; links = links port }

-- an `open` for n ports that answered Ok: the given ports stand behind those that were there; their counts are 0; they are the first of
-- those that were left; they number at most n, and n unless none is left
pub record Gave {P : Type 0} (told : P → PortTold) (faults : P → ℕ) (n : ℕ) (before after : List P) (left_before left_after : Option (List PortTold)) : Type 0 where
  pub given : List P
  pub added : after ≡ before ++ given
  pub fresh : All (λ port. faults port ≡ 0) given
  pub left : left_before ≡ prepend_to (map told given) left_after
  pub most : length given ≤ n
  pub full : IfSome left_after (λ left. (left ≡ []) ⊎ (length given ≡ n))
