-- What a start of a server may expect of its one client. Each rule speaks of a body to it, behind the events of its part before that body.
use Rattle.std.specs.Prelude.{◌≡◌, ℕ, ◌+◌, Bool, true, false, not, ◌&&◌, ◌||◌, List, [], ◌∷◌, ◌++◌, fold, bytes_eq, codes, decimal, IsTrue, if◌then◌else◌}
use Rattle.std.specs.Prelude.{Option, Some, None}
use Rattle.std.specs.Option.{option_map}
use Rattle.json_text.specs.Json.{Json}
use Rattle.document_model.specs.Helds.{number_of}
use Rattle.document_model.specs.Sayings.{Saying, opens, changes, closes, misshapen, nothing, saying_of}
use Rattle.mux_history.specs.declared.cause.Cause.TheVariants.{Started, FromServer, ServerGone}
use Rattle.mux_history.specs.declared.entry.Entry.{Entry}
use Rattle.mux_history.specs.declared.out.Out.TheVariants.{ToServer, EndServer}
use Rattle.rpc_message.specs.Message.{Message, Id, request, notification, result, error, id_of, integer}
use Rattle.event_model.specs.Event.{Event, took, did, events_of, same_id, requests, notifies}
use Rattle.event_model.specs.Members.{named_of}
use Rattle.event_model.specs.Requests.{answered_id, is_open, with_request, without}
use Rattle.event_model.specs.Stages.{is_first_result}
use Rattle.event_model.specs.Always.{Always}
use Rattle.event_model.specs.Parts.{server_part}
use Rattle.mux_facts.specs.Allowed.{AllowsSaying, is_response}
use Rattle.session_laws.specs.Progress.{Creates, Tokened, creates_heard, creates_told, names_one, no_creates, tokens_at, tokens_in, unanswered}

-- Rule 1 (LSP 3.17, Lifecycle Messages): bodies go to a program while it runs, and not once it is to be ended.
pub record Program : Type 0 where
  pub started : Bool
  pub over : Bool

abbrev pub program_behind : Program → Event → Program
program_behind p (took (Started s) m) = record { started = true; over = p.over }
program_behind p (took (ServerGone s) m) = record { started = p.started; over = true }
program_behind p (did (EndServer s) m) = record { started = p.started; over = true }
program_behind p other = p

abbrev pub program_of : List Event → Program
program_of part = fold program_behind (record { started = false; over = false }) part

abbrev pub ServerRule1 : List Event → Event → Type 0
ServerRule1 before (did (ToServer s body) m) = IsTrue ((program_of before).started && not (program_of before).over)
ServerRule1 before other = Unit {0}

-- Rule 2 (LSP 3.17, Initialize Request and Initialized Notification): the first body is the request `initialize`, here with the id 1.
-- Until its result only responses follow. The first body after the result is the notification `initialized`, which is sent once.
pub data Handshake : Type 0 where
  silent : Handshake
  asked : Handshake
  answered : Handshake
  open_to_all : Handshake

abbrev pub handshake_behind : Handshake → Event → Handshake
handshake_behind silent (did (ToServer s body) m) = asked
handshake_behind asked (took (FromServer s body) m) = if is_first_result m then answered else asked
handshake_behind answered (did (ToServer s body) m) = open_to_all
handshake_behind h other = h

abbrev pub handshake_of : List Event → Handshake
handshake_of part = fold handshake_behind silent part

-- of the number 1
abbrev pub is_first_request : Message → Bool
is_first_request (request id method params) = same_id id (integer (codes "1")) && requests (codes "initialize") (request id method params)
is_first_request _ = false

abbrev pub allows : Handshake → Message → Bool
allows silent m = is_first_request m
allows asked m = is_response m
allows answered m = notifies (codes "initialized") m
allows open_to_all m = not (notifies (codes "initialized") m)

abbrev pub ServerRule2 : List Event → Event → Type 0
ServerRule2 before (did (ToServer s body) m) = IsTrue (allows (handshake_of before) m)
ServerRule2 before other = Unit {0}

-- Rule 3 (JSON-RPC 2.0, section 4: an id is the client's own): the n-th request has the id n.
abbrev pub requests_behind : ℕ → Event → ℕ
requests_behind n (did (ToServer s body) (request id method params)) = n + 1
requests_behind n other = n

abbrev pub requests_of : List Event → ℕ
requests_of part = fold requests_behind 0 part

-- a request has this number
abbrev pub HasNumber : ℕ → Message → Type 0
HasNumber n (request id method params) = id ≡ integer (decimal n)
HasNumber n other = Unit {0}

abbrev pub ServerRule3 : List Event → Event → Type 0
ServerRule3 before (did (ToServer s body) m) = HasNumber (requests_of before + 1) m
ServerRule3 before other = Unit {0}

-- Rule 4 (LSP 3.17, Text Document Synchronization): didOpen names a document that isn't held, with version 1; didChange a held one,
-- with the held version plus 1; didClose a held one; and each of these notifications has its shape.

-- the version that a start has of u, behind one more body to it
abbrev pub version_told : List ℕ → Option ℕ → Saying → Option ℕ
version_told u held (opens w l v t) = if bytes_eq u w then Some (number_of v) else held
version_told u held (changes w v cs) = if bytes_eq u w then option_map (λ old. number_of v) held else held
version_told u held (closes w) = if bytes_eq u w then None else held
version_told u held misshapen = held
version_told u held nothing = held

abbrev pub version_behind : List ℕ → Option ℕ → Event → Option ℕ
version_behind u held (did (ToServer s body) m) = version_told u held (saying_of m)
version_behind u held other = held

abbrev pub version_of : List ℕ → List Event → Option ℕ
version_of u part = fold (version_behind u) None part

abbrev pub ServerRule4 : List Event → Event → Type 0
ServerRule4 before (did (ToServer s body) m) = AllowsSaying (λ u. version_of u before) (saying_of m)
ServerRule4 before other = Unit {0}

-- Rule 5 (JSON-RPC 2.0, section 5, and LSP 3.17, Response Message): a response has the id of a request that the start sent, and that has no response yet.
abbrev pub awaiting_behind : List Id → Event → List Id
awaiting_behind ids (took (FromServer s body) m) = with_request m ids
awaiting_behind ids (did (ToServer s body) m) = without (answered_id m) ids
awaiting_behind ids other = ids

abbrev pub awaiting_of : List Event → List Id
awaiting_of part = fold awaiting_behind [] part

abbrev pub is_among : Option Id → List Id → Bool
is_among None ids = false
is_among (Some id) ids = is_open id ids

abbrev pub answers_one : List Id → Message → Bool
answers_one ids (result id r) = is_among id ids
answers_one ids (error id e) = is_among id ids
answers_one ids other = true

abbrev pub ServerRule5 : List Event → Event → Type 0
ServerRule5 before (did (ToServer s body) m) = IsTrue (answers_one (awaiting_of before) m)
ServerRule5 before other = Unit {0}

-- Rule 6 (LSP 3.17, Cancellation Support): `$/cancelRequest` names a request that was sent, and that has no response yet; and each is named once.

-- the id that it names
abbrev pub id_at : Option Json → Option Id
id_at None = None
id_at (Some j) = id_of j

abbrev pub cancelled_id : Option Json → Option Id
cancelled_id params = id_at (named_of (codes "id") params)

-- the ids that it may name
abbrev pub waiting_told : List Id → Message → List Id
waiting_told ids (request id method params) = ids ++ id ∷ []
waiting_told ids (notification method params) = if bytes_eq method (codes "$/cancelRequest") then without (cancelled_id params) ids else ids
waiting_told ids other = ids

abbrev pub waiting_behind : List Id → Event → List Id
waiting_behind ids (did (ToServer s body) m) = waiting_told ids m
waiting_behind ids (took (FromServer s body) m) = without (answered_id m) ids
waiting_behind ids other = ids

abbrev pub waiting_of : List Event → List Id
waiting_of part = fold waiting_behind [] part

abbrev pub may_cancel : List Id → Message → Bool
may_cancel ids (notification method params) = not (bytes_eq method (codes "$/cancelRequest")) || is_among (cancelled_id params) ids
may_cancel ids other = true

abbrev pub ServerRule6 : List Event → Event → Type 0
ServerRule6 before (did (ToServer s body) m) = IsTrue (may_cancel (waiting_of before) m)
ServerRule6 before other = Unit {0}

-- Rule 7 (LSP 3.17, Work Done Progress, `window/workDoneProgress/cancel`): it names the `workDoneToken`, as it was sent, of a request that has no response yet,
-- or a token that the start created, by a create that got a result, and of which it told no progress of the kind `end` since.

-- the requests that have no response yet, with their tokens
abbrev pub working_behind : List Tokened → Event → List Tokened
working_behind rs (did (ToServer s body) (request id method params)) = rs ++ record { id = id; tokens = tokens_at (codes "workDoneToken") params } ∷ []
working_behind rs (took (FromServer s body) m) = unanswered (answered_id m) rs
working_behind rs other = rs

abbrev pub working_of : List Event → List Tokened
working_of part = fold working_behind [] part

-- what the start asked to create, and created
abbrev pub creates_behind : Creates → Event → Creates
creates_behind x (took (FromServer s body) m) = creates_told x m
creates_behind x (did (ToServer s body) m) = creates_heard x m
creates_behind x other = x

abbrev pub creates_of : List Event → Creates
creates_of part = fold creates_behind no_creates part

abbrev pub ServerRule7 : List Event → Event → Type 0
ServerRule7 before (did (ToServer s body) m) = IsTrue (names_one (codes "window/workDoneProgress/cancel") (tokens_in (working_of before) ++ (creates_of before).created) m)
ServerRule7 before other = Unit {0}

-- Rule 8 (LSP 3.17, Shutdown Request and Exit Notification): behind the request `shutdown` only the notification `exit` follows, once the
-- response to `shutdown` came; behind `exit` nothing follows. And `exit` doesn't come without `shutdown`.
pub data Farewell : Type 0 where
  serving : Farewell
  -- `shutdown` was sent under this id
  shut_down : Id → Farewell
  -- its response came
  may_exit : Farewell
  exited : Farewell

abbrev pub farewell_told : Farewell → Message → Farewell
farewell_told f (request id method params) = if bytes_eq (codes "shutdown") method then shut_down id else f
farewell_told f (notification method params) = if bytes_eq (codes "exit") method then exited else f
farewell_told f other = f

-- a response under this id
abbrev pub responds_to : Id → Message → Bool
responds_to id (result (Some other) r) = same_id id other
responds_to id (error (Some other) e) = same_id id other
responds_to id other = false

abbrev pub farewell_heard : Farewell → Message → Farewell
farewell_heard (shut_down id) m = if responds_to id m then may_exit else shut_down id
farewell_heard f m = f

abbrev pub farewell_behind : Farewell → Event → Farewell
farewell_behind f (did (ToServer s body) m) = farewell_told f m
farewell_behind f (took (FromServer s body) m) = farewell_heard f m
farewell_behind f other = f

abbrev pub farewell_of : List Event → Farewell
farewell_of part = fold farewell_behind serving part

abbrev pub may_say : Farewell → Message → Bool
may_say serving m = not (notifies (codes "exit") m)
may_say (shut_down id) m = false
may_say may_exit m = notifies (codes "exit") m
may_say exited m = false

abbrev pub ServerRule8 : List Event → Event → Type 0
ServerRule8 before (did (ToServer s body) m) = IsTrue (may_say (farewell_of before) m)
ServerRule8 before other = Unit {0}

-- the parts of all starts keep the rule
abbrev pub KeepsServer : (List Event → Event → Type 0) → List Entry → Type 0
KeepsServer Rule history = (s : ℕ) → Always Rule (server_part s (events_of history))

abbrev pub KeepsServer1 : List Entry → Type 0
KeepsServer1 history = KeepsServer ServerRule1 history

abbrev pub KeepsServer2 : List Entry → Type 0
KeepsServer2 history = KeepsServer ServerRule2 history

abbrev pub KeepsServer3 : List Entry → Type 0
KeepsServer3 history = KeepsServer ServerRule3 history

abbrev pub KeepsServer4 : List Entry → Type 0
KeepsServer4 history = KeepsServer ServerRule4 history

abbrev pub KeepsServer5 : List Entry → Type 0
KeepsServer5 history = KeepsServer ServerRule5 history

abbrev pub KeepsServer6 : List Entry → Type 0
KeepsServer6 history = KeepsServer ServerRule6 history

abbrev pub KeepsServer7 : List Entry → Type 0
KeepsServer7 history = KeepsServer ServerRule7 history

abbrev pub KeepsServer8 : List Entry → Type 0
KeepsServer8 history = KeepsServer ServerRule8 history
