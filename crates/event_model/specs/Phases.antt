-- The phase of an editor, and its initialize (LSP 3.17, Lifecycle Messages).
use Rattle.std.specs.Prelude.{ℕ, ◌+◌, ◌-◌, Bool, true, false, not, ◌||◌, List, [], length, fold, codes, nat_eq, if◌then◌else◌}
use Rattle.std.specs.Prelude.{Some}
use Rattle.mux_history.specs.declared.cause.Cause.TheVariants.{Joined, FromEditor, EditorGone, Drained}
use Rattle.mux_history.specs.declared.out.Out.TheVariants.{ToEditor, CloseEditor}
use Rattle.rpc_message.specs.Message.{Message, not_json, not_message, request, result, Id, message_of}
use Rattle.event_model.specs.declared.phase.Phase.{Phase}
use Rattle.event_model.specs.declared.phase.Phase.TheVariants.{Absent, New, Waiting, Answered, Running, Down, Closed, Gone}
use Rattle.event_model.specs.Event.{Event, took, did, requests, notifies, same_id}

-- where an editor stands, and the body of its initialize, which is empty before it came
pub record Desk : Type 0 where
  pub phase : Phase
  pub initialize : List ℕ

abbrev pub is_multiplexer_request : Message → Bool
is_multiplexer_request m = requests (codes "lspmux/open") m || (requests (codes "lspmux/status") m || requests (codes "lspmux/stop") m)

abbrev pub is_malformed : Message → Bool
is_malformed not_json = true
is_malformed not_message = true
is_malformed _ = false

-- a message that makes an answered editor run
abbrev pub makes_running : Message → Bool
makes_running m = not (is_malformed m || (notifies (codes "exit") m || (requests (codes "shutdown") m || is_multiplexer_request m)))

abbrev pub desk_hears : Phase → List ℕ → List ℕ → Message → Desk
desk_hears New initialize body m = if requests (codes "initialize") m then record { phase = Waiting; initialize = body } else record { phase = New; initialize = initialize }
desk_hears Answered initialize body m = record { phase = if requests (codes "shutdown") m then Down else if makes_running m then Running else Answered; initialize = initialize }
desk_hears Running initialize body m = record { phase = if requests (codes "shutdown") m then Down else Running; initialize = initialize }
desk_hears other initialize body m = record { phase = other; initialize = initialize }

-- a request under this id
abbrev pub has_id : Id → Message → Bool
has_id id (request other method params) = same_id id other
has_id id other = false

-- a result under the id of its own initialize answers a waiting editor
abbrev pub phase_told : Phase → List ℕ → Message → Phase
phase_told Waiting initialize (result (Some id) r) = if has_id id (message_of initialize) then Answered else Waiting
phase_told phase initialize m = phase

abbrev pub phase_closed : Phase → Phase
phase_closed Gone = Gone
phase_closed _ = Closed

abbrev pub desk_behind : ℕ → Desk → Event → Desk
desk_behind e desk (took (Joined n) m) = if nat_eq n e then record { phase = New; initialize = [] } else desk
desk_behind e desk (took (FromEditor n body) m) = if nat_eq n e then desk_hears desk.phase desk.initialize body m else desk
desk_behind e desk (took (EditorGone n why) m) = if nat_eq n e then record { phase = Gone; initialize = desk.initialize } else desk
desk_behind e desk (did (ToEditor n body) m) = if nat_eq n e then record { phase = phase_told desk.phase desk.initialize m; initialize = desk.initialize } else desk
desk_behind e desk (did (CloseEditor n) m) = if nat_eq n e then record { phase = phase_closed desk.phase; initialize = desk.initialize } else desk
desk_behind e desk other = desk

abbrev pub no_desk : Desk
no_desk = record { phase = Absent; initialize = [] }

abbrev pub desk_of : ℕ → List Event → Desk
desk_of e events = fold (desk_behind e) no_desk events

-- an editor is there until it is closed or gone; it is linked until it is gone
abbrev pub is_there : Phase → Bool
is_there Absent = false
is_there Closed = false
is_there Gone = false
is_there _ = true

abbrev pub is_linked : Phase → Bool
is_linked Absent = false
is_linked Gone = false
is_linked _ = true

-- its `initialize` wasn't answered yet
abbrev pub is_waiting : Phase → Bool
is_waiting Waiting = true
is_waiting _ = false

-- its `initialize` didn't come yet
abbrev pub is_new : Phase → Bool
is_new New = true
is_new _ = false

-- it sent a message behind the answer to its `initialize`
abbrev pub is_running : Phase → Bool
is_running Running = true
is_running _ = false

-- its `initialize` came, and its link isn't to be ended: it is an editor of its group
abbrev pub is_begun : Phase → Bool
is_begun Waiting = true
is_begun Answered = true
is_begun Running = true
is_begun Down = true
is_begun _ = false

-- for such an editor its server is started again
abbrev pub needs_server : Phase → Bool
needs_server Waiting = true
needs_server Answered = true
needs_server Running = true
needs_server _ = false

-- its notifications are accepted: from the answer to its `initialize` until its `shutdown`, or the end of its link
abbrev pub is_served : Phase → Bool
is_served Answered = true
is_served Running = true
is_served _ = false

-- how many editors joined
abbrev pub editors_behind : ℕ → Event → ℕ
editors_behind n (took (Joined e) m) = n + 1
editors_behind n other = n

abbrev pub editors_of : List Event → ℕ
editors_of events = fold editors_behind 0 events

-- the bytes of bodies sent to an editor whose link didn't end, without those that were drained
abbrev pub backlog_behind : ℕ → ℕ → Event → ℕ
backlog_behind e n (did (ToEditor k body) m) = if nat_eq k e then n + length body else n
backlog_behind e n (took (Drained k bytes) m) = if nat_eq k e then n - bytes else n
backlog_behind e n (took (EditorGone k why) m) = if nat_eq k e then 0 else n
backlog_behind e n other = n

abbrev pub backlog_of : ℕ → List Event → ℕ
backlog_of e events = fold (backlog_behind e) 0 events
