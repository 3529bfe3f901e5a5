-- What an editor may expect as the one client of a server. Each rule speaks of a body to it, behind the events of its part before that body.
use Rattle.std.specs.Prelude.{ℕ, ◌+◌, ◌<◌, Bool, true, false, not, ◌&&◌, ◌||◌, List, [], ◌∷◌, ◌++◌, bytes_eq, filter, flat_map, fold, codes, IsTrue, if◌then◌else◌}
use Rattle.std.specs.Prelude.{Some, None}
use Rattle.std.specs.List.{list_all, list_any}
use Rattle.std.specs.Option.{option_map_or}
use Rattle.json_text.specs.Json.{Json}
use Rattle.mux_history.specs.declared.cause.Cause.TheVariants.{FromEditor, EditorGone}
use Rattle.mux_history.specs.declared.entry.Entry.{Entry}
use Rattle.mux_history.specs.declared.out.Out.TheVariants.{ToEditor, CloseEditor}
use Rattle.rpc_message.specs.Message.{Message, request, notification, result, error, not_json, not_message, Id}
use Rattle.event_model.specs.Event.{Event, took, did, events_of, requests}
use Rattle.event_model.specs.Phases.{is_malformed}
use Rattle.event_model.specs.Members.{listed, named_of}
use Rattle.document_model.specs.Sayings.{string_at}
use Rattle.event_model.specs.Requests.{answered_id, open_of, is_open, without, with_request}
use Rattle.event_model.specs.Always.{Always}
use Rattle.event_model.specs.Parts.{editor_part}
use Rattle.session_laws.specs.Progress.{Creates, Tokened, creates_heard, creates_told, names_one, no_creates, tokens_at, tokens_in, unanswered}
use Rattle.session_laws.specs.ServerRules.{HasNumber, may_cancel}

-- Rule 1 (LSP 3.17, Base Protocol: messages go over a connection): nothing goes to an editor whose link ended, or was to be ended.
abbrev pub ended_behind : Bool → Event → Bool
ended_behind over (took (EditorGone e why) m) = true
ended_behind over (did (CloseEditor e) m) = true
ended_behind over other = over

-- its link ended, or was to be ended
abbrev pub is_over : List Event → Bool
is_over part = fold ended_behind false part

abbrev pub ClientRule1 : List Event → Event → Type 0
ClientRule1 before (did (ToEditor n body) m) = IsTrue (not (is_over before))
ClientRule1 before other = Unit {0}

-- Rule 2 (JSON-RPC 2.0, section 5, and LSP 3.17, Response Message): a response has the id of an open request, which it closes;
-- an error with a null id answers a body that was no message; and every body is a message.
abbrev pub malformed_behind : ℕ → Event → ℕ
malformed_behind n (took (FromEditor e body) m) = if is_malformed m then n + 1 else n
malformed_behind n other = n

abbrev pub malformed_of : List Event → ℕ
malformed_of part = fold malformed_behind 0 part

abbrev pub null_errors_behind : ℕ → Event → ℕ
null_errors_behind n (did (ToEditor e body) (error None x)) = n + 1
null_errors_behind n other = n

abbrev pub null_errors_of : List Event → ℕ
null_errors_of part = fold null_errors_behind 0 part

-- what is open, and the null-id errors and malformed bodies so far
abbrev pub IsAnswer : List Id → ℕ → ℕ → Message → Type 0
IsAnswer ids sent malformed (result (Some id) r) = IsTrue (is_open id ids)
IsAnswer ids sent malformed (error (Some id) e) = IsTrue (is_open id ids)
IsAnswer ids sent malformed (error None e) = sent < malformed
IsAnswer ids sent malformed (result None r) = ⊥
IsAnswer ids sent malformed not_json = ⊥
IsAnswer ids sent malformed not_message = ⊥
IsAnswer ids sent malformed (request id method params) = Unit {0}
IsAnswer ids sent malformed (notification method params) = Unit {0}

abbrev pub ClientRule2 : ℕ → List Event → Event → Type 0
ClientRule2 e before (did (ToEditor n body) m) = IsAnswer (open_of e before) (null_errors_of before) (malformed_of before) m
ClientRule2 e before other = Unit {0}

-- Rule 3 (LSP 3.17, Initialize Request): until a result has answered a request `initialize` and the editor has sent a later message,
-- it gets nothing but responses; and at most one `initialize` gets a result.
pub record Opening : Type 0 where
  -- the ids of its open requests `initialize`
  pub initializes : List Id
  -- one of them got a result
  pub answered : Bool
  -- and a message came since
  pub spoke : Bool

abbrev pub opening_hears : Opening → Message → Opening
opening_hears o m = record {
  initializes = if requests (codes "initialize") m then with_request m o.initializes else o.initializes;
  answered = o.answered;
  spoke = o.spoke || (o.answered && not (is_malformed m));
}

abbrev pub opening_told : Opening → Message → Opening
opening_told o (result (Some id) r) = record { initializes = without (Some id) o.initializes; answered = o.answered || is_open id o.initializes; spoke = o.spoke }
opening_told o (error id e) = record { initializes = without id o.initializes; answered = o.answered; spoke = o.spoke }
opening_told o other = o

abbrev pub opening_behind : Opening → Event → Opening
opening_behind o (took (FromEditor e body) m) = opening_hears o m
opening_behind o (did (ToEditor e body) m) = opening_told o m
opening_behind o other = o

abbrev pub opening_of : List Event → Opening
opening_of part = fold opening_behind (record { initializes = []; answered = false; spoke = false }) part

abbrev pub may_hear : Opening → Message → Bool
may_hear o (result (Some id) r) = not (o.answered && is_open id o.initializes)
may_hear o (result None r) = true
may_hear o (error id e) = true
may_hear o other = o.spoke

abbrev pub ClientRule3 : List Event → Event → Type 0
ClientRule3 before (did (ToEditor n body) m) = IsTrue (may_hear (opening_of before) m)
ClientRule3 before other = Unit {0}

-- Rule 4 (JSON-RPC 2.0, section 4: an id is the sender's own): the n-th request has the id n.
abbrev pub asks_behind : ℕ → Event → ℕ
asks_behind n (did (ToEditor e body) (request id method params)) = n + 1
asks_behind n other = n

abbrev pub asks_of : List Event → ℕ
asks_of part = fold asks_behind 0 part

abbrev pub ClientRule4 : List Event → Event → Type 0
ClientRule4 before (did (ToEditor n body) m) = HasNumber (asks_of before + 1) m
ClientRule4 before other = Unit {0}

-- Rule 5 (LSP 3.17, Cancellation Support): `$/cancelRequest` names a request that was sent, and that the editor didn't answer.
abbrev pub unanswered_behind : List Id → Event → List Id
unanswered_behind ids (did (ToEditor e body) m) = with_request m ids
unanswered_behind ids (took (FromEditor e body) m) = without (answered_id m) ids
unanswered_behind ids other = ids

abbrev pub unanswered_of : List Event → List Id
unanswered_of part = fold unanswered_behind [] part

abbrev pub ClientRule5 : List Event → Event → Type 0
ClientRule5 before (did (ToEditor n body) m) = IsTrue (may_cancel (unanswered_of before) m)
ClientRule5 before other = Unit {0}

-- Rule 6 (LSP 3.17, Progress Support, Work Done Progress and Partial Result Progress): `$/progress` has a token of an open request of the editor, its `workDoneToken` or its `partialResultToken`,
-- or that of a `window/workDoneProgress/create` that the editor answered with a result, and to which no progress of the kind `end` went since.

-- its open requests, with their tokens
abbrev pub tokened_behind : List Tokened → Event → List Tokened
tokened_behind rs (took (FromEditor e body) (request id method params)) = rs ++ record { id = id; tokens = tokens_at (codes "workDoneToken") params ++ tokens_at (codes "partialResultToken") params } ∷ []
tokened_behind rs (did (ToEditor e body) m) = unanswered (answered_id m) rs
tokened_behind rs other = rs

abbrev pub tokened_of : List Event → List Tokened
tokened_of part = fold tokened_behind [] part

-- what it was asked to create, and created
abbrev pub accepted_behind : Creates → Event → Creates
accepted_behind x (did (ToEditor e body) m) = creates_told x m
accepted_behind x (took (FromEditor e body) m) = creates_heard x m
accepted_behind x other = x

abbrev pub accepted_of : List Event → Creates
accepted_of part = fold accepted_behind no_creates part

abbrev pub ClientRule6 : List Event → Event → Type 0
ClientRule6 before (did (ToEditor n body) m) = IsTrue (names_one (codes "$/progress") (tokens_in (tokened_of before) ++ (accepted_of before).created) m)
ClientRule6 before other = Unit {0}

-- Rule 7 (LSP 3.17, Register Capability and Unregister Capability): an item of `client/registerCapability` has an id that isn't registered, and one of `client/unregisterCapability` an id that is.
-- An id is registered, or isn't any more, from the request on, whatever the editor answers; ids are compared by their characters, which are told in UTF-8.

-- the ids of the items of a list
abbrev pub ids_in : List Json → List (List ℕ)
ids_in js = flat_map (λ (j : Json). option_map_or (λ (id : List ℕ). id ∷ []) (string_at (codes "id") (Some j)) []) js

-- the list is misspelled so in LSP 3.17
abbrev pub registered_in : Message → List (List ℕ)
registered_in (request id method params) = if bytes_eq (codes "client/registerCapability") method then ids_in (listed (named_of (codes "registrations") params)) else []
registered_in other = []

abbrev pub unregistered_in : Message → List (List ℕ)
unregistered_in (request id method params) = if bytes_eq (codes "client/unregisterCapability") method then ids_in (listed (named_of (codes "unregisterations") params)) else []
unregistered_in other = []

abbrev pub has_id : List (List ℕ) → List ℕ → Bool
has_id ids id = list_any (bytes_eq id) ids

abbrev pub after_told : List (List ℕ) → Message → List (List ℕ)
after_told ids m = filter (λ id. not (has_id (unregistered_in m) id)) ids ++ registered_in m

abbrev pub registered_behind : List (List ℕ) → Event → List (List ℕ)
registered_behind ids (did (ToEditor e body) m) = after_told ids m
registered_behind ids other = ids

abbrev pub registered_of : List Event → List (List ℕ)
registered_of part = fold registered_behind [] part

abbrev pub may_register : List (List ℕ) → Message → Bool
may_register ids m = list_all (λ id. not (has_id ids id)) (registered_in m) && list_all (has_id ids) (unregistered_in m)

abbrev pub ClientRule7 : List Event → Event → Type 0
ClientRule7 before (did (ToEditor n body) m) = IsTrue (may_register (registered_of before) m)
ClientRule7 before other = Unit {0}

-- the parts of all editors keep the rule
abbrev pub KeepsClient1 : List Entry → Type 0
KeepsClient1 history = (e : ℕ) → Always ClientRule1 (editor_part e (events_of history))

abbrev pub KeepsClient2 : List Entry → Type 0
KeepsClient2 history = (e : ℕ) → Always (ClientRule2 e) (editor_part e (events_of history))

abbrev pub KeepsClient3 : List Entry → Type 0
KeepsClient3 history = (e : ℕ) → Always ClientRule3 (editor_part e (events_of history))

abbrev pub KeepsClient4 : List Entry → Type 0
KeepsClient4 history = (e : ℕ) → Always ClientRule4 (editor_part e (events_of history))

abbrev pub KeepsClient5 : List Entry → Type 0
KeepsClient5 history = (e : ℕ) → Always ClientRule5 (editor_part e (events_of history))

abbrev pub KeepsClient6 : List Entry → Type 0
KeepsClient6 history = (e : ℕ) → Always ClientRule6 (editor_part e (events_of history))

abbrev pub KeepsClient7 : List Entry → Type 0
KeepsClient7 history = (e : ℕ) → Always ClientRule7 (editor_part e (events_of history))
