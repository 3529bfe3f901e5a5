-- Requests: those of an editor that are open, and the numbers of those that are sent to a start (JSON-RPC 2.0, section 4).
use Rattle.std.specs.Prelude.{ℕ, ◌+◌, Bool, false, not, ◌||◌, List, [], ◌∷◌, ◌++◌, filter, fold, codes, nat_eq, bytes_eq, if◌then◌else◌}
use Rattle.std.specs.Prelude.{Option, Some, None}
use Rattle.mux_history.specs.declared.cause.Cause.TheVariants.{FromEditor}
use Rattle.mux_history.specs.declared.out.Out.TheVariants.{ToEditor, ToServer}
use Rattle.rpc_message.specs.Message.{Message, request, result, error, Id}
use Rattle.event_model.specs.Event.{Event, took, did, same_id}

-- the id that a response has
abbrev pub answered_id : Message → Option Id
answered_id (result id r) = id
answered_id (error id e) = id
answered_id other = None

abbrev pub without : Option Id → List Id → List Id
without None ids = ids
without (Some id) ids = filter (λ other. not (same_id id other)) ids

abbrev pub with_request : Message → List Id → List Id
with_request (request id method ps) ids = ids ++ id ∷ []
with_request other ids = ids

-- the ids of the open requests of e: each from its own message until a body to e answers it
abbrev pub open_behind : ℕ → List Id → Event → List Id
open_behind e ids (took (FromEditor n body) m) = if nat_eq n e then with_request m ids else ids
open_behind e ids (did (ToEditor n body) m) = if nat_eq n e then without (answered_id m) ids else ids
open_behind e ids other = ids

abbrev pub open_of : ℕ → List Event → List Id
open_of e events = fold (open_behind e) [] events

abbrev pub is_open : Id → List Id → Bool
is_open id [] = false
is_open id (other ∷ ids) = same_id id other || is_open id ids

-- the daemon's own initialize and shutdown belong to no editor's request
abbrev pub is_own : List ℕ → Bool
is_own method = bytes_eq method (codes "initialize") || bytes_eq method (codes "shutdown")

-- the number that the next request to start s has
abbrev pub number_told : ℕ → Message → ℕ
number_told n (request id method ps) = n + 1
number_told n other = n

abbrev pub number_behind : ℕ → ℕ → Event → ℕ
number_behind s n (did (ToServer t body) m) = if nat_eq t s then number_told n m else n
number_behind s n other = n

abbrev pub next_number : ℕ → List Event → ℕ
next_number s events = fold (number_behind s) 1 events
