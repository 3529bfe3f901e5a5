-- Requests of editors that wait until a start of their group is ready: which they are (E10), and what becomes of them (E6, E9, E11, L1, S2, S3, X3).
use Rattle.std.specs.Prelude.{ℕ, Bool, false, not, ◌&&◌, ◌||◌, List, [], ◌∷◌, ◌++◌, codes, drop, filter, find, fold, length, bytes_eq, if◌then◌else◌}
use Rattle.std.specs.Prelude.{Option, Some, None, slice_get}
use Rattle.std.specs.Option.{option_and_then, option_map_or}
use Rattle.json_text.specs.Json.{Json}
use Rattle.json_text.specs.Tree.{tree_of}
use Rattle.lsp_method.specs.Class.{class_of}
use Rattle.lsp_method.specs.declared.variants.Origin.TheVariants.{Editor}
use Rattle.mux_history.specs.declared.cause.Cause.TheVariants.{FromEditor, EditorGone}
use Rattle.mux_history.specs.declared.out.Out.TheVariants.{ToEditor, ToServer, CloseEditor}
use Rattle.rpc_message.specs.Message.{Id, Message, request, id_bytes, id_of, same_id}
use Rattle.rpc_message.specs.Texts.{error_text, request_cancelled, request_failed}
use Rattle.event_model.specs.Event.{Event, took, did}
use Rattle.event_model.specs.Members.{named_of, params_of}
use Rattle.event_model.specs.Phases.{desk_of, is_multiplexer_request, is_served}
use Rattle.event_model.specs.Requests.{answered_id, is_own}
use Rattle.event_model.specs.Row.{Row, send, look, each, ◌⨾◌}
use Rattle.event_model.specs.Settings.{Settings}
use Rattle.event_model.specs.Spawns.{group_of, start_of}
use Rattle.event_model.specs.Stages.{life_of, is_ready}
use Rattle.held_requests.specs.declared.request.Request.{Request}
use Rattle.held_requests.specs.Tables.{asked, is_of, of_editor, takes}
use Rattle.registrations.specs.mux_model.specs.Methods.{is_wrong}
use Rattle.group_words.specs.Houses.{home_of, is_doubled, is_home}
use Rattle.group_words.specs.Past.{past}
use Rattle.group_rows.specs.Reserved.{reserves}

-- the editor whose message is at work
abbrev pub worker_behind : Option ℕ → Event → Option ℕ
worker_behind worker (took (FromEditor e body) m) = Some e
worker_behind worker (took cause m) = None
worker_behind worker (did out m) = worker

abbrev pub worker_of : List Event → Option ℕ
worker_of events = fold worker_behind None events

-- the id that params name, and the one that these bytes are
abbrev pub named_id : Option Json → Option Id
named_id params = option_and_then id_of (named_of (codes "id") params)

abbrev pub id_meant : List ℕ → Option Id
id_meant bytes = option_and_then id_of (tree_of bytes)

-- E8: a request that no editor sends that is served
abbrev pub is_misplaced : List ℕ → Bool
is_misplaced method = bytes_eq (codes "initialize") method || is_wrong (class_of method Editor false)

-- E10: a request for the start of its editor's group: under an id that isn't open (E3), not one of the multiplexer's own (E4 to E6), not misplaced (E8), not `shutdown` (E9), and without a token that begins as the daemon's do
abbrev pub is_for_start : List Event → ℕ → List ℕ → Message → Bool
is_for_start before e body (request id method params) =
    not (is_doubled before e (request id method params)) && (not (is_multiplexer_request (request id method params)) && (not (is_misplaced method) && (not (bytes_eq (codes "shutdown") method) && not (reserves (params_of body)))))
is_for_start before e body other = false

-- the group's start isn't ready
abbrev pub is_restarting : ℕ → List Event → Bool
is_restarting g events = option_map_or (λ s. not (is_ready (life_of s events).stage)) (start_of g events) false

-- E10: the request of an editor that is served waits, as long as so many of the editor's may, and so many bytes of these
abbrev pub waits : Settings → ℕ → List Event → ℕ → List ℕ → Message → List Request → Bool
waits settings g before e body m rs = (is_home g (home_of settings e before) && is_served (desk_of e before).phase) && (is_for_start before e body m && (is_restarting g before && takes e (length body) rs))

-- one of an editor that is under this id
abbrev pub is_meant : ℕ → Id → Request → Bool
is_meant e id r = is_of e r && option_map_or (same_id id) (id_meant r.id) false

abbrev pub is_answered : ℕ → Option Id → Request → Bool
is_answered e id r = option_map_or (λ i. is_meant e i r) id false

-- S2: what a start is sent by its own result is what waits longest
abbrev pub without_first : Option ℕ → Message → List Request → List Request
without_first None (request id method ps) rs = if is_own method then rs else drop 1 rs
without_first worker other rs = rs

-- in the order in which they came: each until it is answered or sent, or its editor isn't there
abbrev pub waiting_next : Settings → ℕ → List Event → List Request → Event → List Request
waiting_next settings g before rs (took (FromEditor e body) m) = if waits settings g before e body m rs then rs ++ asked e (id_bytes body) body ∷ [] else rs
waiting_next settings g before rs (took (EditorGone e why) m) = filter (λ r. not (is_of e r)) rs
waiting_next settings g before rs (did (ToEditor e body) m) = filter (λ r. not (is_answered e (answered_id m) r)) rs
waiting_next settings g before rs (did (ToServer s body) m) = if is_home g (group_of s before) then without_first (worker_of before) m rs else rs
waiting_next settings g before rs (did (CloseEditor e) m) = filter (λ r. not (is_of e r)) rs
waiting_next settings g before rs other = rs

abbrev pub waiting_of : Settings → ℕ → List Event → List Request
waiting_of settings g events = past (waiting_next settings g) [] [] events

-- the one that has waited longest for a start of this one's group
abbrev pub first_waiting : Settings → ℕ → List Event → Option Request
first_waiting settings s events = option_and_then (λ g. slice_get (waiting_of settings g events) 0) (group_of s events)

-- E6, E9, S2, S3 and X3: each of an editor's is refused, in the order in which they came
abbrev pub refuse_waiting : Request → Row
refuse_waiting r = send (ToEditor r.editor (error_text r.id request_failed))

abbrev pub refuse_held : Settings → ℕ → ℕ → Row
refuse_held settings g e = look (λ events. each refuse_waiting (of_editor e (waiting_of settings g events)))

-- S2, S3 and X3: behind that the editor's link is to be ended
abbrev pub part : Settings → ℕ → ℕ → Row
part settings g e = refuse_held settings g e ⨾ send (CloseEditor e)

-- E11: the one that params name is answered so (LSP 3.17, Cancellation Support, and ErrorCodes, RequestCancelled)
abbrev pub cancelled_text : List ℕ → List ℕ
cancelled_text id = error_text id request_cancelled

abbrev pub waiting_named : ℕ → Option Json → List Request → Option Request
waiting_named e params rs = option_and_then (λ id. find (is_meant e id) rs) (named_id params)

abbrev pub cancel_waiting : Request → Row
cancel_waiting r = send (ToEditor r.editor (cancelled_text r.id))
