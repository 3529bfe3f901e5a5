-- The routing table over several editors and groups, in part: J1, J2, E2 to E10, E11, E12 to E17, E19, S1, S2 with X4, S3, S4, S5 with V1 and V2, S6 to S12 with V3, S13 to S15, L2, X1 to X3, and X5 to X7.
use Rattle.std.specs.Prelude.{ℕ, Bool, true, false, ◌&&◌, ◌||◌, List, [], ◌∷◌, ◌++◌, filter, flat_map, codes, length, nat_eq, bytes_eq, if◌then◌else◌}
use Rattle.std.specs.Prelude.{Option, Some, None, slice_get}
use Rattle.std.specs.List.{list_any}
use Rattle.std.specs.Option.{option_and_then, option_map_or}
use Rattle.mux_history.specs.declared.cause.Cause.{Cause}
use Rattle.mux_history.specs.declared.cause.Cause.TheVariants.{Joined, FromEditor, EditorGone, Started, StartFailed, FromServer, ServerGone, Tick}
use Rattle.mux_history.specs.declared.out.Out.{Out}
use Rattle.mux_history.specs.declared.out.Out.TheVariants.{ToEditor, ToServer, CloseEditor, EndServer}
use Rattle.json_text.specs.Json.{Json}
use Rattle.position_codec.specs.declared.Encoding.{Encoding}
use Rattle.lsp_method.specs.Class.{class_of}
use Rattle.lsp_method.specs.declared.variants.Origin.TheVariants.{Editor, Server}
use Rattle.rpc_message.specs.Message.{Message, request, notification, message_of, id_bytes, result_bytes}
use Rattle.rpc_message.specs.Texts.{ok_text, error_text, initialized_text, with_id_text, Code, invalid_params, invalid_request, method_not_found, request_failed, server_not_initialized}
use Rattle.response_route.specs.document_model.specs.Bodies.{open_text}
use Rattle.response_route.specs.document_model.specs.Helds.{HeldText}
use Rattle.response_route.specs.document_model.specs.Opens.{Open, holder, holder_beside}
use Rattle.response_route.specs.document_model.specs.Rows.{differing, sent_open, sent_change, sent_close}
use Rattle.response_route.specs.document_model.specs.Sayings.{Saying, opens, changes, closes, misshapen, saying_by}
use Rattle.response_route.specs.document_model.specs.Sayings as saying
use Rattle.response_route.specs.document_model.specs.Texts.{Texts, opened, found, changed}
use Rattle.event_model.specs.declared.phase.Phase.{Phase}
use Rattle.event_model.specs.declared.phase.Phase.TheVariants.{New, Waiting, Answered, Running, Down}
use Rattle.event_model.specs.declared.stage.Stage.{Stage}
use Rattle.event_model.specs.declared.stage.Stage.TheVariants.{Spawning, Initializing, Ready, Stopping}
use Rattle.event_model.specs.Event.{Event, behind, with_cause, requests}
use Rattle.event_model.specs.Members.{params_of}
use Rattle.event_model.specs.Phases.{desk_of, is_begun, is_there, is_malformed, is_served, is_waiting, makes_running}
use Rattle.event_model.specs.Row.{Row, nothing, send, choose, look, outs, each, on, ◌⨾◌}
use Rattle.event_model.specs.Settings.{Settings}
use Rattle.event_model.specs.Spawns.{group_of, start_of}
use Rattle.event_model.specs.Stages.{life_of, is_ready, is_first_result}
use Rattle.held_requests.specs.declared.request.Request.{Request}
use Rattle.held_requests.specs.Tables.{takes}
use Rattle.registrations.specs.mux_model.specs.Documents.{held_at}
use Rattle.registrations.specs.mux_model.specs.Methods.{goes_on, is_dollar}
use Rattle.registrations.specs.mux_model.specs.Rows.{malformed_row, to_start}
use Rattle.group_words.specs.Houses.{editors_in, groups_of, home_of, is_doubled, is_first_error, is_first_open, server_asked}
use Rattle.group_words.specs.Rows.{initialize_of, initialize_row, shown_of}
use Rattle.group_rows.specs.Answers.{answer_row}
use Rattle.group_rows.specs.Asks.{members_in}
use Rattle.group_rows.specs.AskRows.{debts_row, notified_row, question_row, response_row, run_row}
use Rattle.group_rows.specs.Cancelling.{cancelling_row}
use Rattle.group_rows.specs.CreatedRows.{work_row}
use Rattle.group_rows.specs.Earlier.{configure, part_row}
use Rattle.group_rows.specs.Ends.{answers_shutdown, exit_server}
use Rattle.group_rows.specs.ExitRows.{lost_row}
use Rattle.group_rows.specs.Forwarded.{forwarding_of}
pub use Rattle.group_rows.specs.Forwarded.{has_room}
use Rattle.group_rows.specs.Leaves.{leave_row}
use Rattle.group_rows.specs.ListRows.{show_opened}
use Rattle.group_rows.specs.Status.{items_of, status_text}
use Rattle.group_rows.specs.StopRows.{joined_row, lose_waiting, stop_row}
use Rattle.group_rows.specs.Texts.{encoding_of, texts_of}
use Rattle.group_rows.specs.Ticks.{tick_row}
use Rattle.group_rows.specs.Tokens.{forwarded_text}
use Rattle.group_rows.specs.Reserved.{reserves}
use Rattle.group_rows.specs.Waiting.{cancel_waiting, is_misplaced, is_restarting, part, refuse_waiting, waiting_named, waiting_of}

abbrev pub answer_error : ℕ → List ℕ → Code → Row
answer_error e body code = send (ToEditor e (error_text (id_bytes body) code))

-- E12 to E14: what a start that has these texts is sent where an editor opens, changes or closes a document
abbrev pub changed_bodies : ℕ → List ℕ → Option Open → Option Open → Option HeldText → List (List ℕ)
changed_bodies versions body (Some old) (Some new) held = sent_change versions body old new held
changed_bodies versions body (Some old) None held = []
changed_bodies versions body None new held = []

abbrev pub closed_bodies : ℕ → ℕ → List ℕ → List Open → Option Open → Option HeldText → List (List ℕ)
closed_bodies versions e u os None held = []
closed_bodies versions e u os (Some o) held = sent_close versions u (holder_beside e u os) held

abbrev pub document_bodies : ℕ → Option Encoding → Texts → (List ℕ → Option HeldText) → ℕ → List ℕ → Saying → List (List ℕ)
document_bodies versions code x held e body (opens u l v t) = sent_open versions (opened e u l v t x) (held u)
document_bodies versions code x held e body (changes u v cs) = changed_bodies versions body (found e u x) (changed code e u v cs x) (held u)
document_bodies versions code x held e body (closes u) = closed_bodies versions e u x.opens (found e u x) (held u)
document_bodies versions code x held e body misshapen = []
document_bodies versions code x held e body saying.nothing = []

-- sync(e): of each document that is open at e, in the order of its opening, e's text, where the start has another
abbrev pub synced : ℕ → Open → Option HeldText → List (List ℕ)
synced versions o None = []
synced versions o (Some h) = differing versions o h

abbrev pub sync_bodies : ℕ → (List ℕ → Option HeldText) → ℕ → List Open → List (List ℕ)
sync_bodies versions held e os = flat_map (λ (o : Open). synced versions o (held o.uri)) (filter (λ (o : Open). nat_eq o.editor e) os)

-- X4: each document that is open, in the order of its earliest opening, with the holder's language and text
abbrev pub replay_bodies : List (List ℕ) → List Open → List Open → List (List ℕ)
replay_bodies told all [] = []
replay_bodies told all (o ∷ os) =
    if list_any (bytes_eq o.uri) told then replay_bodies told all os
    else option_map_or (λ (h : Open). open_text h.uri h.language h.text ∷ []) (holder o.uri all) [] ++ replay_bodies (o.uri ∷ told) all os

-- E10: the request goes to the start of the editor's group under the next number, with the daemon's tokens, behind a sync; a token that begins as the daemon's do is refused
abbrev pub forward : Settings → ℕ → List ℕ → Row
forward settings s body = look (λ events. send (ToServer s (forwarded_text (forwarding_of settings s events).next body)))

abbrev pub can_ask : Settings → ℕ → List Event → Bool
can_ask settings s events = is_ready (life_of s events).stage && has_room settings s events

-- where that start isn't ready the request waits, as long as so many of the editor's may, and so many bytes of these
abbrev pub may_wait : Settings → List Event → ℕ → List ℕ → ℕ → Bool
may_wait settings before e body g = is_restarting g before && takes e (length body) (waiting_of settings g before)

abbrev pub sync_row : Settings → List Event → ℕ → ℕ → ℕ → Row
sync_row settings before g s e = to_start s (sync_bodies settings.limits.versions (λ u. held_at s u before) e (texts_of settings g before).opens)

abbrev pub request_at : Settings → List Event → ℕ → List ℕ → ℕ → ℕ → Row
request_at settings before e body g s = choose (can_ask settings s before) (sync_row settings before g s e ⨾ forward settings s body) (choose (may_wait settings before e body g) nothing (answer_error e body request_failed))

abbrev pub request_row : Settings → List Event → ℕ → List ℕ → Row
request_row settings before e body = choose (reserves (params_of body)) (answer_error e body invalid_params) (on (home_of settings e before) (answer_error e body request_failed)
    (λ g. on (start_of g before) (answer_error e body request_failed) (request_at settings before e body g)))

-- E12 to E14, where the start is ready: behind what it is sent an editor that opened the document is shown its last list
abbrev pub document_at : Settings → List Event → ℕ → List ℕ → Saying → ℕ → ℕ → Row
document_at settings before e body x g s =
    choose (is_ready (life_of s before).stage) (to_start s (document_bodies settings.limits.versions (encoding_of g before) (texts_of settings g before) (λ u. held_at s u before) e body x) ⨾ show_opened settings s e x) nothing

abbrev pub document_row : Settings → List Event → ℕ → List ℕ → Saying → Row
document_row settings before e body x = on (home_of settings e before) nothing (λ g. on (start_of g before) nothing (document_at settings before e body x g))

-- E16 and E17: the notification goes to the start of the editor's group as it came, behind a sync, where the start is ready; a later start is told of the last configuration by S2
abbrev pub notice_at : Settings → List Event → ℕ → List ℕ → ℕ → ℕ → Row
notice_at settings before e body g s = choose (is_ready (life_of s before).stage) (sync_row settings before g s e ⨾ send (ToServer s body)) nothing

abbrev pub notice_row : Settings → List Event → ℕ → List ℕ → Row
notice_row settings before e body = on (home_of settings e before) nothing (λ g. on (start_of g before) nothing (notice_at settings before e body g))

-- E3, and `exit` of E9: the editor's link is to be ended, and it leaves
abbrev pub closing_row : Settings → List Event → ℕ → Row
closing_row settings before e = send (CloseEditor e) ⨾ leave_row settings before e

-- E9: behind a `shutdown` the editor's requests that wait are refused, it is answered, and the editor leaves
abbrev pub shutdown_row : Settings → List Event → ℕ → List ℕ → Row
shutdown_row settings before e body = lose_waiting settings before e ⨾ (send (ToEditor e (ok_text (id_bytes body) (codes "null"))) ⨾ leave_row settings before e)

-- E8: what a request that isn't taken is answered with; a second `initialize` is an invalid one
abbrev pub wrong_code : List ℕ → Code → Code
wrong_code method otherwise = if is_dollar method then method_not_found else otherwise

abbrev pub early_code : List ℕ → Code
early_code method = if bytes_eq (codes "initialize") method then invalid_request else wrong_code method server_not_initialized

-- E9: `exit`, in any phase; E8 and E15: another notification gives nothing, nor does a response
abbrev pub exit_row : Settings → List Event → ℕ → Message → Row
exit_row settings before e (notification method params) = choose (bytes_eq (codes "exit") method) (closing_row settings before e) nothing
exit_row settings before e other = nothing

-- E8: a request comes too early
abbrev pub early_row : Settings → List Event → ℕ → List ℕ → Message → Row
early_row settings before e body (request id method params) = answer_error e body (early_code method)
early_row settings before e body other = exit_row settings before e other

-- E11: one of the editor's requests that wait is cancelled here, another one at the start
abbrev pub cancel_row : Settings → List Event → ℕ → List ℕ → Option Json → Row
cancel_row settings before e body params = on (option_and_then (λ g. waiting_named e params (waiting_of settings g before)) (home_of settings e before)) (cancelling_row settings before e body params) cancel_waiting

abbrev pub served_request : Settings → List Event → ℕ → List ℕ → List ℕ → Row
served_request settings before e body method = choose (is_misplaced method) (answer_error e body (wrong_code method invalid_request))
    (choose (bytes_eq (codes "shutdown") method) (shutdown_row settings before e body) (request_row settings before e body))

-- E9, and E11 to E17; E15: what speaks of no document and doesn't go on gives nothing
abbrev pub served_notice : Settings → List Event → ℕ → List ℕ → List ℕ → Option Json → Row
served_notice settings before e body method params = choose (bytes_eq (codes "exit") method) (closing_row settings before e)
    (choose (goes_on (class_of method Editor true)) (notice_row settings before e body)
    (choose (bytes_eq (codes "$/cancelRequest") method) (cancel_row settings before e body params)
    (choose (bytes_eq (codes "window/workDoneProgress/cancel") method) (work_row settings before e body params) (document_row settings before e body (saying_by method params)))))

abbrev pub served_row : Settings → List Event → ℕ → List ℕ → Message → Row
served_row settings before e body (request id method params) = served_request settings before e body method
served_row settings before e body (notification method params) = served_notice settings before e body method params
served_row settings before e body other = response_row settings before e body other

-- E8: behind `shutdown` each request is refused (LSP 3.17, Shutdown Request)
abbrev pub down_row : Settings → List Event → ℕ → List ℕ → Message → Row
down_row settings before e body (request id method params) = answer_error e body (wrong_code method invalid_request)
down_row settings before e body other = exit_row settings before e other

-- L2: by a message that makes it run an editor is first told of what is registered, asked to take tokens, shown lists, and asked what waits
abbrev pub begun_row : Settings → List Event → ℕ → List ℕ → Message → Row
begun_row settings before e body m = choose (makes_running m) (run_row settings before e) nothing ⨾ served_row settings before e body m

-- J2: a closed editor's messages give nothing
abbrev pub taken_row : Settings → List Event → ℕ → List ℕ → Message → Phase → Row
taken_row settings before e body m New = choose (requests (codes "initialize") m) (initialize_row settings before e body) (early_row settings before e body m)
taken_row settings before e body m Waiting = early_row settings before e body m
taken_row settings before e body m Answered = begun_row settings before e body m
taken_row settings before e body m Running = served_row settings before e body m
taken_row settings before e body m Down = down_row settings before e body m
taken_row settings before e body m other = nothing

-- E5: `lspmux/status` is answered with what stands before it, since the request itself changes nothing that it tells
abbrev pub status_row : Settings → List Event → ℕ → List ℕ → Row
status_row settings before e body = send (ToEditor e (ok_text (id_bytes body) (status_text (items_of settings before))))

-- E4: the first `lspmux/open` of a new editor says which server is meant; one that names no server is refused, and so is each other one
abbrev pub named_row : ℕ → List ℕ → Option ℕ → Row
named_row e body (Some server) = send (ToEditor e (ok_text (id_bytes body) (codes "null")))
named_row e body None = answer_error e body invalid_params

abbrev pub open_row : Settings → List Event → ℕ → List ℕ → Message → Row
open_row settings before e body m = choose (is_first_open settings.servers before e m) (named_row e body (server_asked settings.servers body)) (answer_error e body invalid_request)

-- E4 to E6: a request of the multiplexer's own, in any phase
abbrev pub names_lspmux : List ℕ → Bool
names_lspmux method = bytes_eq (codes "lspmux/open") method || (bytes_eq (codes "lspmux/status") method || bytes_eq (codes "lspmux/stop") method)

abbrev pub asks_lspmux : Message → Bool
asks_lspmux (request id method params) = names_lspmux method
asks_lspmux other = false

abbrev pub lspmux_row : Settings → List Event → ℕ → List ℕ → Message → Row
lspmux_row settings before e body m = choose (requests (codes "lspmux/open") m) (open_row settings before e body m) (choose (requests (codes "lspmux/stop") m) (stop_row settings before e body) (status_row settings before e body))

abbrev pub told_row : Settings → List Event → ℕ → List ℕ → Message → Phase → Row
told_row settings before e body m phase = choose (is_there phase && asks_lspmux m) (lspmux_row settings before e body m) (taken_row settings before e body m phase)

-- E3: a request under an id that is open stands before all others; a new editor has none
abbrev pub message_row : Settings → List Event → ℕ → List ℕ → Message → Phase → Row
message_row settings before e body m phase = choose (is_begun phase && is_doubled before e m) (closing_row settings before e) (told_row settings before e body m phase)

abbrev pub from_editor : Settings → List Event → ℕ → List ℕ → Message → Phase → Row
from_editor settings before e body m phase = choose (is_malformed m) (malformed_row e m phase) (message_row settings before e body m phase)

-- what an editor's message gives, before the editor is asked what it is owed
abbrev pub editor_row : Settings → List Event → ℕ → List ℕ → Row
editor_row settings before e body = from_editor settings before e body (message_of body) (desk_of e before).phase

-- S2: an editor that waits is answered
abbrev pub welcome : List ℕ → ℕ → Row
welcome body e = look (λ events. send (ToEditor e (ok_text (id_bytes (desk_of e events).initialize) (shown_of (result_bytes body)))))

abbrev pub waiting_in : Settings → ℕ → List Event → List ℕ
waiting_in settings g events = editors_in is_waiting g (λ e. home_of settings e events) events

abbrev pub welcome_all : Settings → List ℕ → ℕ → Row
welcome_all settings body g = look (λ events. each (welcome body) (waiting_in settings g events))

-- X4: by what is open then, without the documents of an editor whose link is to be ended
abbrev pub replay : Settings → ℕ → ℕ → Row
replay settings s g = look (λ events. to_start s (replay_bodies [] (texts_of settings g events).opens (texts_of settings g events).opens))

-- S2: what waits goes to the start as E10 says, in the order in which it came, as long as numbers are left
abbrev pub send_waiting : Settings → ℕ → ℕ → Request → Row
send_waiting settings g s r = look (λ events. choose (has_room settings s events) (sync_row settings events g s r.editor ⨾ forward settings s r.body) (refuse_waiting r))

abbrev pub send_held : Settings → ℕ → ℕ → Row
send_held settings s g = look (λ events. each (send_waiting settings g s) (waiting_of settings g events))

-- S2: the editors that were shown other capabilities are parted with, the session begins, the start is told of the configuration and of each document that is open, the editors that wait are answered, and the requests that wait are sent
abbrev pub result_in : Settings → List Event → ℕ → List ℕ → ℕ → Row
result_in settings before s body g =
    part_row settings before body g ⨾ (send (ToServer s initialized_text) ⨾ (configure settings before s g ⨾ (replay settings s g ⨾ (welcome_all settings body g ⨾ send_held settings s g))))

abbrev pub first_result : Settings → List Event → ℕ → List ℕ → Row
first_result settings before s body = on (group_of s before) nothing (result_in settings before s body)

-- S3: a start refuses its `initialize`: each editor of its group that waits gets the error under its own id, and then its link is to be ended; then those of the others, behind refusals of what waits, and the program (LSP 3.17, Initialize Request)
abbrev pub refusal : List ℕ → ℕ → Row
refusal body e = look (λ events. send (ToEditor e (with_id_text body (id_bytes (desk_of e events).initialize)))) ⨾ send (CloseEditor e)

-- behind the refusals none waits
abbrev pub refused_in : Settings → ℕ → List ℕ → ℕ → Row
refused_in settings s body g = look (λ events. each (refusal body) (waiting_in settings g events)) ⨾ (look (λ events. each (part settings g) (members_in settings g events)) ⨾ send (EndServer s))

abbrev pub refused_row : Settings → List Event → ℕ → List ℕ → Row
refused_row settings before s body = on (group_of s before) nothing (refused_in settings s body)

-- S4: what a start asks before its first result is answered at once, under any id (LSP 3.17, Initialize Request)
abbrev pub hasty_answer : List ℕ → List ℕ → List ℕ
hasty_answer method body = if bytes_eq (codes "window/showMessageRequest") method then ok_text (id_bytes body) (codes "null") else error_text (id_bytes body) invalid_request

abbrev pub hasty_row : ℕ → List ℕ → Message → Row
hasty_row s body (request id method params) = send (ToServer s (hasty_answer method body))
hasty_row s body other = nothing

-- S4: behind `shutdown` its response ends the start; all else that comes there gives nothing
abbrev pub stopping_row : ℕ → List Event → Message → Row
stopping_row s before m = choose (answers_shutdown s before m) (exit_server s) nothing

-- what a ready start asks, tells and answers
abbrev pub ready_row : Settings → ℕ → List Event → List ℕ → Message → Row
ready_row settings s before body (request id method params) = question_row settings s before body id method
ready_row settings s before body (notification method params) = notified_row settings s before body params (class_of method Server true)
ready_row settings s before body other = answer_row settings s before body other

abbrev pub from_server : Settings → ℕ → List Event → List ℕ → Message → Stage → Row
from_server settings s before body m Initializing = choose (is_first_result m) (first_result settings before s body) (choose (is_first_error m) (refused_row settings before s body) (hasty_row s body m))
from_server settings s before body m Ready = ready_row settings s before body m
from_server settings s before body m Stopping = stopping_row s before m
from_server settings s before body m other = nothing

-- the daemon's own initialize, of the group's key and of what is declared
abbrev pub begin_in : Settings → List Event → ℕ → ℕ → Row
begin_in settings before s g = on (slice_get (groups_of settings before) g) nothing (λ x. send (ToServer s (initialize_of x)))

abbrev pub started : Settings → ℕ → List Event → Stage → Row
started settings s before Spawning = on (group_of s before) nothing (begin_in settings before s)
started settings s before other = nothing

-- X5: an editor that is served leaves where its link ends
abbrev pub gone_row : Settings → List Event → ℕ → Phase → Row
gone_row settings before e phase = choose (is_served phase) (leave_row settings before e) nothing

-- behind what an editor's message gives the editor is asked what it is owed, where the message goes on; X6 gives nothing, as each cause without a row of its own does
abbrev pub row_of : Settings → List Event → Cause → Row
row_of settings before (Joined e) = joined_row before e
row_of settings before (FromEditor e body) = editor_row settings before e body ⨾ debts_row settings before e body (message_of body)
row_of settings before (EditorGone e why) = gone_row settings before e (desk_of e before).phase
row_of settings before (FromServer s body) = from_server settings s before body (message_of body) (life_of s before).stage
row_of settings before (Started s) = started settings s before (life_of s before).stage
row_of settings before (StartFailed s) = lost_row settings before s
row_of settings before (ServerGone s) = lost_row settings before s
row_of settings before (Tick t) = tick_row settings before t
row_of settings before other = nothing

abbrev pub outs_of : Settings → List Event → Cause → List Out
outs_of settings before cause = outs (row_of settings before cause) (with_cause before cause)

-- the outs of each of these causes in turn, behind these events
abbrev pub outs_from : Settings → List Event → List Cause → List (List Out)
outs_from settings events [] = []
outs_from settings events (cause ∷ causes) = let xs = outs_of settings events cause in xs ∷ outs_from settings (behind (with_cause events cause) xs) causes
