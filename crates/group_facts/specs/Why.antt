-- Why each out of the routing table over several editors and groups is sent, with what is known at its place: `before` are the events before the entry, `events` those before the out.
use Rattle.std.specs.Prelude.{◌≡◌, ℕ, ◌<◌, Bool, true, false, not, ◌&&◌, ◌||◌, List, [], ◌∷◌, ◌++◌, find, flat_map, if◌then◌else◌, length, map, nat_eq, nat_lt, codes, decimal, filter, ◌^◌, IsUtf8}
use Rattle.std.specs.Prelude.{Option, Some, None, slice_get}
use Rattle.std.specs.List.{AllByRecursion, list_any}
use Rattle.std.specs.Option.{option_and_then, option_map}
use Rattle.json_text.specs.Json.{Json}
use Rattle.document_model.specs.Sayings.{opens, saying_of, speaks}
use Rattle.mux_history.specs.declared.cause.Cause.{Cause}
use Rattle.mux_history.specs.declared.cause.Cause.TheVariants.{Started, FromServer, FromEditor}
use Rattle.lsp_method.specs.Class.{class_of}
use Rattle.lsp_method.specs.declared.variants.Class.{Class}
use Rattle.lsp_method.specs.declared.variants.Class.TheVariants.{Broadcast, Cancel, Create, Diagnostics, Focused, Folders, Progress, Refresh, Register, Unregister}
use Rattle.lsp_method.specs.declared.variants.Origin.TheVariants.{Editor, Server}
use Rattle.mux_history.specs.declared.entry.Entry.{Entry}
use Rattle.mux_history.specs.declared.out.Out.{Out}
use Rattle.mux_history.specs.declared.out.Out.TheVariants.{ToEditor, ToServer, Spawn, CloseEditor, EndServer}
use Rattle.rpc_message.specs.Message.{Message, request, Id, id_bytes, id_of, message_of, notification, result, error, integer}
use Rattle.rpc_message.specs.Texts.{error_text, initialized_text, invalid_params, ok_text, request_failed, with_id_text}
use Rattle.rpc_message.specs.ValueTexts.{IsIdText}
use Rattle.event_model.specs.declared.phase.Phase.TheVariants.{Answered, Running, Waiting}
use Rattle.event_model.specs.declared.stage.Stage.{Stage}
use Rattle.event_model.specs.declared.stage.Stage.TheVariants.{Spawning, Initializing, Ready, Stopping}
use Rattle.event_model.specs.Event.{Event, behind, events_of, heard, requests, said, with_cause, same_id}
use Rattle.event_model.specs.Members.{named_of, params_of}
use Rattle.event_model.specs.Parts.{server_part}
use Rattle.event_model.specs.Phases.{desk_of, has_id, is_there, is_malformed, is_served}
use Rattle.event_model.specs.Requests.{next_number, answered_id, open_of, is_open, is_own}
use Rattle.event_model.specs.Settings.{Settings}
use Rattle.event_model.specs.Spawns.{group_of, start_of, starts_of}
use Rattle.event_model.specs.Stages.{is_first_result, is_initializing, is_ready, is_spawning, life_of}
use Rattle.group_rows.specs.response_route.specs.Answers.{answer_text}
use Rattle.group_rows.specs.response_route.specs.Asked.{asked_text, not_applied}
use Rattle.mux_facts.specs.Allowed.{AllowsSaying, is_response}
use Rattle.mux_model.specs.Documents.{held_at}
use Rattle.mux_model.specs.Methods.{goes_on}
use Rattle.document_model.specs.Helds.{HeldText}
use Rattle.group_rows.specs.diagnostics_route.specs.declared.last_list.LastList.{LastList}
use Rattle.group_rows.specs.diagnostics_route.specs.Published.{published}
use Rattle.group_rows.specs.diagnostics_route.specs.Rows.{is_of}
use Rattle.group_rows.specs.diagnostics_route.specs.Shown.{fits, shown_text}
use Rattle.group_rows.specs.held_requests.specs.declared.request.Request.{Request}
use Rattle.group_rows.specs.refresh_debts.specs.declared.debts.Debt.{Debt}
use Rattle.group_rows.specs.registrations.specs.declared.registration.Registration.{Registration}
use Rattle.group_rows.specs.registrations.specs.Items.{again, registered}
use Rattle.group_words.specs.declared.kept.Kept.{Kept}
use Rattle.group_words.specs.Houses.{groups_of, home_of, stops}
use Rattle.group_words.specs.Rows.{folders_text}
use Rattle.group_rows.specs.Answers.{own_version}
use Rattle.group_rows.specs.AskRows.{current_version, is_edit}
use Rattle.group_rows.specs.Asks.{Ask, Parked, asker_of, asking_of, asks_of, has_number, has_running, is_patient, is_seated, is_single, is_taken, is_under, is_with, next_ask, parked_of, serves}
use Rattle.group_rows.specs.Cancelling.{number_named, numbered_text}
use Rattle.group_rows.specs.Created.{Taking, Token, accepts, created_of, created_text, created_token, has_accepted, is_answered, is_creating, named_token, token_called, token_marked}
use Rattle.group_rows.specs.CreatedRows.{create_text}
use Rattle.group_rows.specs.Debts.{debts_of, goes_to, wants_refresh}
use Rattle.group_rows.specs.Ends.{answers_shutdown, exit_text}
use Rattle.group_rows.specs.ExitRows.{empty_text, end_text, has_begun, is_full, unanswered_at}
use Rattle.group_rows.specs.Forwarded.{Forwarded, Sender, answered_by, first_sender, forwarding_of, sender_of, sender_or}
use Rattle.group_rows.specs.Leaves.{cancel_text}
use Rattle.group_rows.specs.Lists.{agreement_at, lists_of, sayings_of, version_at}
use Rattle.group_rows.specs.Live.{is_registering, live_of, register_text, taken_back, unregister_text}
use Rattle.group_rows.specs.Rows.{sync_bodies}
use Rattle.group_facts.specs.SlowRows.{is_slow}
use Rattle.group_rows.specs.StopRows.{stopped as is_stopped}
use Rattle.group_rows.specs.Earlier.{configuration_of}
use Rattle.group_rows.specs.Texts.{texts_of}
use Rattle.group_rows.specs.Tokens.{forwarded_text, is_told, is_worked, listens, mark_text, marked_text, own_token, work_mark}
use Rattle.group_rows.specs.Reserved.{reserves}
use Rattle.group_rows.specs.Waiting.{first_waiting, waiting_of}
use Rattle.group_facts.specs.Built.{is_left}
use Rattle.group_facts.specs.Facts.{IsAlone, IsWaiting, asked_by, asked_of, ends_link, is_early, is_exit, leaves, turned_away}
use Rattle.group_facts.specs.Lively.{IsDying}

-- Bodies to a start

-- a start's program runs now, or answered the daemon's `initialize`
abbrev pub moves_on : List Event → Cause → Bool
moves_on events (Started s) = is_spawning (life_of s events).stage
moves_on events (FromServer s body) = is_initializing (life_of s events).stage && is_first_result (message_of body)
moves_on events other = false

-- the start that this cause is about moves on in this entry
abbrev pub moves : List Event → Cause → ℕ → Bool
moves before (Started n) s = nat_eq n s && moves_on before (Started n)
moves before (FromServer n body) s = nat_eq n s && moves_on before (FromServer n body)
moves before other s = false

-- the versions of the documents that s has
abbrev pub versions_at : ℕ → List Event → List ℕ → Option ℕ
versions_at s events u = option_map (λ (h : HeldText). h.version) (held_at s u events)

-- its program runs from this entry on
pub record IsBeginning (before : List Event) (cause : Cause) (events : List Event) (s : ℕ) (body : List ℕ) : Type 0 where
  pub params : Option Json
  pub stage : (life_of s before).stage ≡ Spawning
  pub from : cause ≡ Started s
  pub place : events ≡ with_cause before cause
  pub says : message_of body ≡ request (integer (codes "1")) (codes "initialize") params

-- it answered `initialize` in this entry
pub record IsGreeting (before : List Event) (cause : Cause) (events : List Event) (s : ℕ) (body : List ℕ) : Type 0 where
  pub params : Option Json
  pub answer : List ℕ
  pub stage : (life_of s before).stage ≡ Initializing
  pub ready : (life_of s events).stage ≡ Ready
  pub from : cause ≡ FromServer s answer
  pub first : is_first_result (message_of answer) ≡ true
  pub part : server_part s events ≡ server_part s before ++ heard cause ∷ []
  pub says : message_of body ≡ notification (codes "initialized") params

-- a request
abbrev pub asks_something : Message → Bool
asks_something (request id method params) = true
asks_something other = false

-- a request or a notification
abbrev pub has_method : Message → Bool
has_method (request id method params) = true
has_method (notification method params) = true
has_method other = false

-- one to this editor
abbrev pub IsQuestion : ℕ → Out → Type 0
IsQuestion e (ToEditor n body) = (n ≡ e) × (has_method (message_of body) ≡ true)
IsQuestion e other = ⊥

-- s, the ready start of e's group, was told of e's documents and of nothing else in this entry, which is about a message of e that changes no document (LSP 3.17, Text Document Synchronization); before it e may have been asked and told, as it begins to run
pub record IsBehindSync (settings : Settings) (before : List Event) (events : List Event) (s e : ℕ) (asked : List ℕ) : Type 0 where
  pub group : ℕ
  pub start : start_of group before ≡ Some s
  pub ready : is_ready (life_of s before).stage ≡ true
  pub stays : requests (codes "shutdown") (message_of asked) ≡ false
  pub silent : speaks (saying_of (message_of asked)) ≡ false
  pub questions : List Out
  pub asks : AllByRecursion (IsQuestion e) questions
  pub place : events ≡ behind (with_cause before (FromEditor e asked)) (questions ++ map (λ text. ToServer s text) (sync_bodies settings.limits.versions (λ u. held_at s u before) e (texts_of settings group before).opens))

-- s doesn't move on in this entry, or was greeted in it before
pub data Turn (before : List Event) (cause : Cause) (events : List Event) (s : ℕ) : Type 0 where
  stays : moves before cause s ≡ false → Turn before cause events s
  greeted : (xs : List Event) → server_part s events ≡ server_part s before ++ heard cause ∷ said (ToServer s initialized_text) ∷ xs → Turn before cause events s

-- s gave its result in this entry, and of all that waits in its group this request of e came first; since it is sent, s was told of e's documents and of nothing else (S2)
pub record IsAwaited (settings : Settings) (before : List Event) (cause : Cause) (events : List Event) (s e : ℕ) (asked : List ℕ) : Type 0 where
  pub group : ℕ
  pub answer : List ℕ
  pub request : Request
  pub from : cause ≡ FromServer s answer
  pub home : group_of s before ≡ Some group
  pub stage : (life_of s before).stage ≡ Initializing
  pub member : group_of s events ≡ Some group
  pub turn : Turn before cause events s
  pub last : start_of group before ≡ Some s → start_of group events ≡ Some s
  pub first : first_waiting settings s events ≡ Some request
  pub editor : request.editor ≡ e
  pub bytes : request.id ≡ id_bytes asked
  pub body : request.body ≡ asked
  pub outs : List Out
  pub earlier : List Event
  pub entry : earlier ≡ behind (with_cause before cause) outs
  pub place : events ≡ behind earlier (map (λ text. ToServer s text) (sync_bodies settings.limits.versions (λ u. held_at s u earlier) e (texts_of settings group earlier).opens))

-- a request of e goes on by its own message, or by the result of s
pub data Going (settings : Settings) (before : List Event) (cause : Cause) (events : List Event) (s e : ℕ) (asked : List ℕ) : Type 0 where
  at_once : cause ≡ FromEditor e asked → IsBehindSync settings before events s e asked → Going settings before cause events s e asked
  had_waited : IsAwaited settings before cause events s e asked → Going settings before cause events s e asked

-- whose request start s is sent, where it is sent one
abbrev pub asker_at : Settings → ℕ → List Event → Option Sender
asker_at settings s events = sender_or (forwarding_of settings s events).sender (first_sender settings s events)

-- no request of e under this id waits
abbrev pub IsUnheld : Settings → List Event → ℕ → Id → Type 0
IsUnheld settings events e id = (g : ℕ) → AllByRecursion (λ (r : Request). r.editor ≡ e → IsIdText id r.id → ⊥) (waiting_of settings g events)

-- the request of an editor goes under the next number to s, which is ready; none of its tokens begins as the daemon's do (E10, S2)
pub record IsForward (settings : Settings) (before : List Event) (cause : Cause) (events : List Event) (s : ℕ) (body : List ℕ) : Type 0 where
  pub sender : Sender
  pub asked : List ℕ
  pub own : sender_of sender.editor asked (message_of asked) ≡ Some sender
  pub free : reserves (params_of asked) ≡ false
  pub going : Going settings before cause events s sender.editor asked
  pub bytes : body ≡ forwarded_text (forwarding_of settings s events).next asked
  pub id : Id
  pub method : List ℕ
  pub params : Option Json
  pub at_work : asker_at settings s events ≡ Some sender
  pub says : message_of body ≡ request (integer (decimal (forwarding_of settings s events).next)) method params
  pub other : is_own method ≡ false
  pub room : nat_lt (forwarding_of settings s events).next settings.limits.requests ≡ true
  pub ready : (life_of s events).stage ≡ Ready
  pub text : IsIdText id sender.id
  pub waits : is_open id (open_of sender.editor events) ≡ true
  pub late : is_early (desk_of sender.editor events).phase ≡ false
  pub alone : IsAlone settings events sender.editor id
  pub unheld : IsUnheld settings (events ++ said (ToServer s body) ∷ []) sender.editor id

-- s was greeted in this entry, and is told of the configuration that its group keeps, as it came (S2, E16)
pub record IsConfiguring (settings : Settings) (before : List Event) (cause : Cause) (events : List Event) (s : ℕ) (body : List ℕ) : Type 0 where
  pub group : ℕ
  pub answer : List ℕ
  pub params : Option Json
  pub from : cause ≡ FromServer s answer
  pub home : group_of s before ≡ Some group
  pub kept : configuration_of settings group before ≡ Some body
  pub ready : (life_of s events).stage ≡ Ready
  pub turn : Turn before cause events s
  pub says : message_of body ≡ notification (codes "workspace/didChangeConfiguration") params

-- s is ready, and this body tells it of a document, as it may be told
pub record IsTelling (before : List Event) (cause : Cause) (events : List Event) (s : ℕ) (body : List ℕ) : Type 0 where
  pub ready : (life_of s events).stage ≡ Ready
  pub turn : Turn before cause events s
  pub spoken : speaks (saying_of (message_of body)) ≡ true
  pub allowed : AllowsSaying (versions_at s events) (saying_of (message_of body))

-- a notification of an editor that is served goes on to s, which is ready, as it came
pub record IsNotice (settings : Settings) (before : List Event) (cause : Cause) (events : List Event) (s : ℕ) (body : List ℕ) : Type 0 where
  pub editor : ℕ
  pub method : List ℕ
  pub params : Option Json
  pub from : cause ≡ FromEditor editor body
  pub synced : IsBehindSync settings before events s editor body
  pub served : is_served (desk_of editor before).phase ≡ true
  pub says : message_of body ≡ notification method params
  pub going : goes_on (class_of method Editor true) ≡ true
  pub ready : (life_of s events).stage ≡ Ready

-- the daemon's own `shutdown` to a ready start, which sent nothing and was sent nothing in this entry before: its group ended, for another one (E7), since it was idle (X7), or as all was stopped (E6)
pub record IsShutting (settings : Settings) (before : List Event) (cause : Cause) (events : List Event) (s : ℕ) (body : List ℕ) : Type 0 where
  pub ready : (life_of s events).stage ≡ Ready
  pub stays : moves before cause s ≡ false
  pub unsent : server_part s events ≡ server_part s before
  pub dying : IsDying settings events s
  pub says : message_of body ≡ request (integer (decimal (next_number s events))) (codes "shutdown") None

-- a request of this number that wasn't cancelled
abbrev pub is_uncancelled : ℕ → Forwarded → Bool
is_uncancelled n f = nat_eq f.number n && not f.cancelled

-- an editor that is served cancels an open request of its own, which it names: its message goes on under the request's number
pub record IsOwnCancel (settings : Settings) (before : List Event) (cause : Cause) (s number : ℕ) (body : List ℕ) : Type 0 where
  pub editor : ℕ
  pub asked : List ℕ
  pub params : Option Json
  pub from : cause ≡ FromEditor editor asked
  pub served : is_served (desk_of editor before).phase ≡ true
  pub notified : message_of asked ≡ notification (codes "$/cancelRequest") params
  pub meant : number_named editor params (forwarding_of settings s before).open_requests ≡ Some number
  pub bytes : body ≡ numbered_text number asked

-- the daemon's own text, since the request's editor leaves, or the editor's
pub data CancelText (settings : Settings) (before : List Event) (cause : Cause) (s number : ℕ) (body : List ℕ) : Type 0 where
  of_daemon : body ≡ cancel_text number → CancelText settings before cause s number body
  of_editor : IsOwnCancel settings before cause s number body → CancelText settings before cause s number body

-- an open request that wasn't cancelled is cancelled at s, which is ready, by its number (LSP 3.17, Cancellation Support)
pub record IsCancel (settings : Settings) (before : List Event) (cause : Cause) (events : List Event) (s : ℕ) (body : List ℕ) : Type 0 where
  pub number : ℕ
  pub params : Json
  pub value : Json
  pub named : named_of (codes "id") (Some params) ≡ Some value
  pub id : id_of value ≡ Some (integer (decimal number))
  pub waits : list_any (is_uncancelled number) (forwarding_of settings s events).open_requests ≡ true
  pub ready : (life_of s events).stage ≡ Ready
  pub stays : moves before cause s ≡ false
  pub text : CancelText settings before cause s number body
  pub says : message_of body ≡ notification (codes "$/cancelRequest") (Some params)

-- what an editor names by a token: an open request of its own, of which the start knows the daemon's token, or a token that it accepted, of which the start gets its own bytes
pub data WorkMeant (settings : Settings) (before : List Event) (s editor : ℕ) (given : Option Json) (text : List ℕ) : Type 0 where
  of_request : (request : Forwarded) → find (is_worked editor (named_of (codes "token") given)) (forwarding_of settings s before).open_requests ≡ Some request → text ≡ mark_text (work_mark request.number) → WorkMeant settings before s editor given text
  of_token : (token : Token) → token_marked s given (created_of settings s before) ≡ Some token → has_accepted editor token.number (created_of settings s before) ≡ true → text ≡ token.text → WorkMeant settings before s editor given text

-- an editor that is served cancels work, which it names by its token: its message goes on with the start's to s, which is ready (LSP 3.17, Work Done Progress)
pub record IsWorkCancel (settings : Settings) (before : List Event) (cause : Cause) (events : List Event) (s : ℕ) (body : List ℕ) : Type 0 where
  pub editor : ℕ
  pub asked : List ℕ
  pub given : Option Json
  pub text : List ℕ
  pub params : Option Json
  pub from : cause ≡ FromEditor editor asked
  pub served : is_served (desk_of editor before).phase ≡ true
  pub notified : message_of asked ≡ notification (codes "window/workDoneProgress/cancel") given
  pub meant : WorkMeant settings before s editor given text
  pub ready : (life_of s events).stage ≡ Ready
  pub stays : moves before cause s ≡ false
  pub bytes : body ≡ marked_text text asked
  pub says : message_of body ≡ notification (codes "window/workDoneProgress/cancel") params

-- a request of s, which gave no result yet, is answered at once
pub record IsReply (before : List Event) (cause : Cause) (events : List Event) (s : ℕ) (body : List ℕ) : Type 0 where
  pub id : Id
  pub answers : answered_id (message_of body) ≡ Some id
  pub waits : is_open id (asked_by s events) ≡ true
  pub waiting : (life_of s events).stage ≡ Initializing
  pub stays : moves before cause s ≡ false
  pub response : is_response (message_of body) ≡ true

-- what answers it: the response of the editor that was asked (E19), a refusal since that editor left (L1), null since each editor is asked (S9), the folders of the group (S10), a refusal since none runs (S11), that an edit wasn't applied, since a version in it stands for no text that the editor in focus has (V3), null since its items are registered (S6) or taken back (S7), or a refusal of them, null since it creates a token (S8), or a refusal of that
pub data Resolution (settings : Settings) (before : List Event) (cause : Cause) (s : ℕ) (id : Id) (body : List ℕ) : Type 0 where
  handed_back : (e : ℕ) (answer : List ℕ) (a : Ask) → cause ≡ FromEditor e answer → find (is_seated e (answered_id (message_of answer))) (asks_of settings s before) ≡ Some a → a.id ≡ id → body ≡ with_id_text answer a.bytes → Resolution settings before cause s id body
  refused_for : (a : Ask) → list_any (is_under (Some id)) (asks_of settings s before) ≡ true → a.id ≡ id → body ≡ error_text a.bytes request_failed → Resolution settings before cause s id body
  granted : (asked method : List ℕ) (params : Option Json) → cause ≡ FromServer s asked → message_of asked ≡ request id method params → class_of method Server false ≡ Refresh → body ≡ ok_text (id_bytes asked) (codes "null") → Resolution settings before cause s id body
  listed : (asked method : List ℕ) (params : Option Json) (g : ℕ) (x : Kept) → cause ≡ FromServer s asked → message_of asked ≡ request id method params → class_of method Server false ≡ Folders → group_of s before ≡ Some g → slice_get (groups_of settings before) g ≡ Some x → body ≡ ok_text (id_bytes asked) (folders_text x.key.folders) → Resolution settings before cause s id body
  denied : (asked method : List ℕ) (params : Option Json) → cause ≡ FromServer s asked → message_of asked ≡ request id method params → class_of method Server false ≡ Focused → body ≡ error_text (id_bytes asked) request_failed → Resolution settings before cause s id body
  enrolled : (asked method : List ℕ) (params : Option Json) (items : List Registration) → cause ≡ FromServer s asked → message_of asked ≡ request id method params → class_of method Server false ≡ Register → registered asked ≡ Some items → body ≡ ok_text (id_bytes asked) (codes "null") → Resolution settings before cause s id body
  unenrolled : (asked method : List ℕ) (params : Option Json) → cause ≡ FromServer s asked → message_of asked ≡ request id method params → class_of method Server false ≡ Register → registered asked ≡ None → body ≡ error_text (id_bytes asked) invalid_params → Resolution settings before cause s id body
  released : (asked method : List ℕ) (params : Option Json) (items : List Registration) → cause ≡ FromServer s asked → message_of asked ≡ request id method params → class_of method Server false ≡ Unregister → taken_back asked (live_of settings s before) ≡ Some items → body ≡ ok_text (id_bytes asked) (codes "null") → Resolution settings before cause s id body
  unreleased : (asked method : List ℕ) (params : Option Json) → cause ≡ FromServer s asked → message_of asked ≡ request id method params → class_of method Server false ≡ Unregister → taken_back asked (live_of settings s before) ≡ None → body ≡ error_text (id_bytes asked) invalid_params → Resolution settings before cause s id body
  created : (asked method : List ℕ) (params : Option Json) (token : Token) → cause ≡ FromServer s asked → message_of asked ≡ request id method params → class_of method Server false ≡ Create → created_token asked (created_of settings s before) ≡ Some token → body ≡ ok_text (id_bytes asked) (codes "null") → Resolution settings before cause s id body
  uncreated : (asked method : List ℕ) (params : Option Json) → cause ≡ FromServer s asked → message_of asked ≡ request id method params → class_of method Server false ≡ Create → created_token asked (created_of settings s before) ≡ None → body ≡ error_text (id_bytes asked) invalid_params → Resolution settings before cause s id body
  unapplied : (asked method number : List ℕ) (params : Option Json) (e : ℕ) → cause ≡ FromServer s asked → message_of asked ≡ request id method params → is_edit method ≡ true → asked_text (current_version settings before s e) asked number ≡ None → body ≡ ok_text (id_bytes asked) not_applied → Resolution settings before cause s id body

-- an open request of s, which is ready, is answered
pub record IsResolving (settings : Settings) (before : List Event) (cause : Cause) (events : List Event) (s : ℕ) (body : List ℕ) : Type 0 where
  pub id : Id
  pub resolution : Resolution settings before cause s id body
  pub ready : (life_of s events).stage ≡ Ready
  pub stays : moves before cause s ≡ false
  pub response : is_response (message_of body) ≡ true
  pub answers : answered_id (message_of body) ≡ Some id
  pub waits : is_open id (asked_by s events) ≡ true

-- `exit`, as the first out of its entry: s answered the daemon's `shutdown` (LSP 3.17, Exit Notification)
pub record IsExit (before : List Event) (cause : Cause) (events : List Event) (s : ℕ) (body : List ℕ) : Type 0 where
  pub answer : List ℕ
  pub stage : (life_of s before).stage ≡ Stopping
  pub stopping : (life_of s events).stage ≡ Stopping
  pub from : cause ≡ FromServer s answer
  pub answers : answers_shutdown s before (message_of answer) ≡ true
  pub place : events ≡ with_cause before cause
  pub says : message_of body ≡ notification (codes "exit") None

pub data WhyToServer (settings : Settings) (before : List Event) (cause : Cause) (events : List Event) (s : ℕ) (body : List ℕ) : Type 0 where
  begins : IsBeginning before cause events s body → WhyToServer settings before cause events s body
  greets : IsGreeting before cause events s body → WhyToServer settings before cause events s body
  conveys : IsConfiguring settings before cause events s body → WhyToServer settings before cause events s body
  forwarded : IsForward settings before cause events s body → WhyToServer settings before cause events s body
  notes : IsNotice settings before cause events s body → WhyToServer settings before cause events s body
  tells : IsTelling before cause events s body → WhyToServer settings before cause events s body
  shuts : IsShutting settings before cause events s body → WhyToServer settings before cause events s body
  cancels : IsCancel settings before cause events s body → WhyToServer settings before cause events s body
  cancels_work : IsWorkCancel settings before cause events s body → WhyToServer settings before cause events s body
  responds : IsReply before cause events s body → WhyToServer settings before cause events s body
  resolves : IsResolving settings before cause events s body → WhyToServer settings before cause events s body
  exits : IsExit before cause events s body → WhyToServer settings before cause events s body

-- Bodies to an editor

-- an error under a null id, right behind a body that is no message
pub record IsRejection (before : List Event) (cause : Cause) (events : List Event) (e : ℕ) (body : List ℕ) : Type 0 where
  pub asked : List ℕ
  pub x : Json
  pub there : is_there (desk_of e before).phase ≡ true
  pub from : cause ≡ FromEditor e asked
  pub place : events ≡ with_cause before cause
  pub malformed : is_malformed (message_of asked) ≡ true
  pub says : message_of body ≡ error None x

-- an error for an open request, which isn't the `initialize` of an editor that waits, and isn't open at a start
pub record IsRefusal (settings : Settings) (events : List Event) (e : ℕ) (body : List ℕ) : Type 0 where
  pub id : Id
  pub x : Json
  pub there : is_there (desk_of e events).phase ≡ true
  pub waits : is_open id (open_of e events) ≡ true
  pub others : (desk_of e events).phase ≡ Waiting → has_id id (message_of (desk_of e events).initialize) ≡ false
  pub alone : IsAlone settings events e id
  pub says : message_of body ≡ error (Some id) x

-- the `initialize` of an editor that waits is open, under another id
pub record IsBeside (events : List Event) (e : ℕ) (id : Id) : Type 0 where
  pub first : Id
  pub waiting : IsWaiting events e first
  pub other : same_id id first ≡ false

-- the daemon's own result for an open request, which isn't the `initialize` of an editor that waits, and isn't open at a start
pub record IsAnswer (settings : Settings) (events : List Event) (e : ℕ) (body : List ℕ) : Type 0 where
  pub id : Id
  pub r : Json
  pub there : is_there (desk_of e events).phase ≡ true
  pub others : (desk_of e events).phase ≡ Waiting → IsBeside events e id
  pub waits : is_open id (open_of e events) ≡ true
  pub alone : IsAlone settings events e id
  pub says : message_of body ≡ result (Some id) r

-- an error for the `initialize` of an editor that waits: the daemon has too many groups, the start for which it waits refuses its own, the group ends with its start, or all is stopped
pub record IsTurning (settings : Settings) (before : List Event) (cause : Cause) (events : List Event) (e : ℕ) (body : List ℕ) : Type 0 where
  pub id : Id
  pub x : Json
  pub waiting : IsWaiting events e id
  pub turned : turned_away settings before cause e ≡ true
  pub says : message_of body ≡ error (Some id) x

-- an error for a request that is open at a start, of an editor that got its result: all is stopped (E6)
pub record IsLoss (before : List Event) (cause : Cause) (events : List Event) (e : ℕ) (body : List ℕ) : Type 0 where
  pub editor : ℕ
  pub asked : List ℕ
  pub id : Id
  pub x : Json
  pub from : cause ≡ FromEditor editor asked
  pub stop : stops before editor (message_of asked) ≡ true
  pub over : is_stopped events ≡ true
  pub there : is_there (desk_of e events).phase ≡ true
  pub late : is_early (desk_of e events).phase ≡ false
  pub waits : is_open id (open_of e events) ≡ true
  pub says : message_of body ≡ error (Some id) x

-- a result for it
pub record IsWelcome (events : List Event) (e : ℕ) (body : List ℕ) : Type 0 where
  pub id : Id
  pub r : Json
  pub waiting : IsWaiting events e id
  pub says : message_of body ≡ result (Some id) r

-- the response to a request that was open at a start until this entry, and is open at the editor that asked, which got its result; it has the editor's own versions, or is an error
pub record IsPassing (settings : Settings) (before : List Event) (cause : Cause) (events : List Event) (e : ℕ) (body : List ℕ) : Type 0 where
  pub start : ℕ
  pub answer : List ℕ
  pub request : Forwarded
  pub id : Id
  pub from : cause ≡ FromServer start answer
  pub found : find (answered_by (answered_id (message_of answer))) (forwarding_of settings start before).open_requests ≡ Some request
  pub editor : request.editor ≡ e
  pub there : is_there (desk_of e events).phase ≡ true
  pub late : is_early (desk_of e events).phase ≡ false
  pub text : IsIdText id request.id
  pub waits : is_open id (open_of e events) ≡ true
  pub alone : IsAlone settings events e id
  pub bytes : body ≡ answer_text (own_version settings before start request) answer request.id
  pub response : is_response (message_of body) ≡ true
  pub answers : answered_id (message_of body) ≡ Some id

-- a message of a start goes to an editor of its group, which runs, while the start is ready
pub record IsFromStart (settings : Settings) (before : List Event) (cause : Cause) (events : List Event) (e s : ℕ) (asked : List ℕ) : Type 0 where
  pub from : cause ≡ FromServer s asked
  pub ready : (life_of s before).stage ≡ Ready
  pub running : (desk_of e events).phase ≡ Running

-- a request of the start under this number: an edit with the editor's own versions (V3), another one as it came
abbrev pub asked_as : Settings → List Event → ℕ → ℕ → List ℕ → List ℕ → List ℕ → Option (List ℕ)
asked_as settings before s e method asked number = if is_edit method then asked_text (current_version settings before s e) asked number else Some (with_id_text asked number)

-- a request of the start that creates no token, under the editor's next number (S9, S11, S12); of two asks of the start none has the same id
pub record IsAsk (settings : Settings) (before : List Event) (cause : Cause) (events : List Event) (e : ℕ) (body : List ℕ) : Type 0 where
  pub start : ℕ
  pub asked : List ℕ
  pub id : Id
  pub method : List ℕ
  pub given : Option Json
  pub params : Option Json
  pub source : IsFromStart settings before cause events e start asked
  pub asks : message_of asked ≡ request id method given
  pub plain : is_creating method ≡ false
  pub group : ℕ
  pub kept : group_of start before ≡ Some group
  pub home : home_of settings e before ≡ Some group
  pub ran : (desk_of e before).phase ≡ Running
  pub fresh : is_taken (Some id) (asking_of settings start before) ≡ false
  pub first : is_single method ≡ true → events ≡ with_cause before cause
  pub attended : is_patient method ≡ true → has_running settings before start ≡ true
  pub quiet : (t : ℕ) → (asking_of settings t events).runs ≡ None
  pub asker : (t : ℕ) → (asking_of settings t events).asker ≡ (if nat_eq start t then asker_of asked (message_of asked) else None)
  pub room : has_number e events ≡ true
  pub bytes : asked_as settings before start e method asked (decimal (next_ask e events)) ≡ Some body
  pub says : message_of body ≡ request (integer (decimal (next_ask e events))) method params

-- what waited first at the last start of the editor's group, as the editor begins to run (L2), under its next number
pub record IsResumed (settings : Settings) (before : List Event) (cause : Cause) (events : List Event) (e : ℕ) (body : List ℕ) : Type 0 where
  pub start : ℕ
  pub text : List ℕ
  pub from : cause ≡ FromEditor e text
  pub began : (desk_of e (with_cause before cause)).phase ≡ Running
  pub waited : (desk_of e before).phase ≡ Answered
  pub stays : leaves settings before cause e ≡ false
  pub group : ℕ
  pub home : home_of settings e before ≡ Some group
  pub last : start_of group before ≡ Some start
  pub ready : (life_of start before).stage ≡ Ready
  pub served : serves settings events start e ≡ true
  pub own : (s : ℕ) → (asking_of settings s events).runs ≡ Some e
  pub idle : (s : ℕ) → (asking_of settings s events).asker ≡ None
  pub running : (desk_of e events).phase ≡ Running
  pub first : Parked
  pub rest : List Parked
  pub waits : parked_of settings start events ≡ first ∷ rest
  pub method : List ℕ
  pub params : Option Json
  pub patient : is_patient method ≡ true
  pub asks : message_of first.body ≡ request first.id method params
  pub room : has_number e events ≡ true
  pub bytes : body ≡ with_id_text first.body (decimal (next_ask e events))
  pub says : message_of body ≡ request (integer (decimal (next_ask e events))) method params

-- of what the last start of e's group owes it, this is asked behind a message of e that goes on to that start, which is ready (E10, E16, E17), under e's next number
pub record IsPaid (settings : Settings) (before : List Event) (cause : Cause) (events : List Event) (e : ℕ) (body : List ℕ) : Type 0 where
  pub start : ℕ
  pub text : List ℕ
  pub from : cause ≡ FromEditor e text
  pub goes : goes_to settings start before e text (message_of text) ≡ true
  pub ready : (life_of start before).stage ≡ Ready
  pub running : (desk_of e events).phase ≡ Running
  pub idle : (s : ℕ) → (asking_of settings s events).asker ≡ None
  pub debt : Debt
  pub earlier : List Debt
  pub later : List Debt
  pub owed : debts_of settings start e before ≡ earlier ++ debt ∷ later
  pub id : Id
  pub params : Option Json
  pub wants : wants_refresh debt.method ≡ true
  pub asks : message_of debt.body ≡ request id debt.method params
  pub room : has_number e events ≡ true
  pub bytes : body ≡ with_id_text debt.body (decimal (next_ask e events))
  pub says : message_of body ≡ request (integer (decimal (next_ask e events))) debt.method params

-- registrations are changed, or a token is created, by this request of s, to whose group e belongs, which runs
pub record IsChange (settings : Settings) (before : List Event) (cause : Cause) (e s : ℕ) (asked : List ℕ) (class : Class) : Type 0 where
  pub from : cause ≡ FromServer s asked
  pub id : Id
  pub method : List ℕ
  pub params : Option Json
  pub asks : message_of asked ≡ request id method params
  pub kind : class_of method Server false ≡ class
  pub fresh : is_taken (Some id) (asking_of settings s before) ≡ false
  pub group : ℕ
  pub kept : group_of s before ≡ Some group
  pub home : home_of settings e before ≡ Some group
  pub ran : (desk_of e before).phase ≡ Running

-- e begins to run, in the group whose last start is s
pub record IsRestoring (settings : Settings) (before : List Event) (cause : Cause) (e s : ℕ) : Type 0 where
  pub text : List ℕ
  pub from : cause ≡ FromEditor e text
  pub began : (desk_of e (with_cause before cause)).phase ≡ Running
  pub waited : (desk_of e before).phase ≡ Answered
  pub group : ℕ
  pub home : home_of settings e before ≡ Some group
  pub last : start_of group before ≡ Some s

-- a start that was ready ended, and e ran in its group (X2)
pub record IsLost (settings : Settings) (before : List Event) (cause : Cause) (e s : ℕ) : Type 0 where
  pub from : is_exit cause s ≡ true
  pub ready : (life_of s before).stage ≡ Ready
  pub ran : (desk_of e before).phase ≡ Running
  pub group : ℕ
  pub kept : group_of s before ≡ Some group
  pub home : home_of settings e before ≡ Some group

-- what is taken back since its ids come again, and what is registered (S6), what is taken back (S7), all that is live (L2), and that this is taken back as the start ends, by the first request to the editor then (X2); a token that the start creates (S8), and each that lives, in the order of creation (L2)
pub data Calling (settings : Settings) (before : List Event) (cause : Cause) (e s n : ℕ) (body : List ℕ) : Type 0 where
  displaces : (asked : List ℕ) (items : List Registration) → IsChange settings before cause e s asked Register → registered asked ≡ Some items → body ≡ unregister_text (again items (live_of settings s before)) n → Calling settings before cause e s n body
  enrols : (asked : List ℕ) (items : List Registration) → IsChange settings before cause e s asked Register → registered asked ≡ Some items → body ≡ register_text items n → Calling settings before cause e s n body
  releases : (asked : List ℕ) (items : List Registration) → IsChange settings before cause e s asked Unregister → taken_back asked (live_of settings s before) ≡ Some items → body ≡ unregister_text (again items (live_of settings s before)) n → Calling settings before cause e s n body
  forgets : IsLost settings before cause e s → n ≡ next_ask e before → body ≡ unregister_text (live_of settings s before) n → Calling settings before cause e s n body
  restores : IsRestoring settings before cause e s → body ≡ register_text (live_of settings s before) n → Calling settings before cause e s n body
  creates : (asked : List ℕ) (token : Token) → IsChange settings before cause e s asked Create → created_token asked (created_of settings s before) ≡ Some token → body ≡ create_text s token.number n → Calling settings before cause e s n body
  revives : (token : Token) (earlier later : List Token) → IsRestoring settings before cause e s → (created_of settings s before).tokens ≡ earlier ++ token ∷ later → body ≡ create_text s token.number n → Calling settings before cause e s n body

-- the daemon's own request is about registrations, or that the editor take a token
abbrev pub is_call : List ℕ → Bool
is_call method = is_registering method || is_creating method

-- such a request at a ready start, to an editor that runs, under its next number
pub record IsCall (settings : Settings) (before : List Event) (cause : Cause) (events : List Event) (e : ℕ) (body : List ℕ) : Type 0 where
  pub start : ℕ
  pub told : Calling settings before cause e start (next_ask e events) body
  pub ready : (life_of start before).stage ≡ Ready
  pub running : (desk_of e events).phase ≡ Running
  pub idle : (s : ℕ) → (asking_of settings s events).asker ≡ None
  pub room : has_number e events ≡ true
  pub method : List ℕ
  pub params : Option Json
  pub named : is_call method ≡ true
  pub says : message_of body ≡ request (integer (decimal (next_ask e events))) method params

-- a notification of the start without a row of its own, as it came
pub record IsSpread (settings : Settings) (before : List Event) (cause : Cause) (events : List Event) (e : ℕ) (body : List ℕ) : Type 0 where
  pub start : ℕ
  pub method : List ℕ
  pub params : Option Json
  pub source : IsFromStart settings before cause events e start body
  pub says : message_of body ≡ notification method params
  pub class : class_of method Server true ≡ Broadcast

-- the editor's open request is cancelled, since the start cancelled its own (S14)
pub record IsRecall (settings : Settings) (before : List Event) (cause : Cause) (events : List Event) (e : ℕ) (body : List ℕ) : Type 0 where
  pub start : ℕ
  pub asked : List ℕ
  pub method : List ℕ
  pub given : Option Json
  pub ask : Ask
  pub params : Json
  pub value : Json
  pub source : IsFromStart settings before cause events e start asked
  pub asks : message_of asked ≡ notification method given
  pub class : class_of method Server true ≡ Cancel
  pub found : find (is_under (option_and_then id_of (named_of (codes "id") given))) (asks_of settings start before) ≡ Some ask
  pub editor : ask.editor ≡ e
  pub open_there : is_open (integer (decimal ask.number)) (asked_of e events) ≡ true
  pub bytes : body ≡ cancel_text ask.number
  pub named : named_of (codes "id") (Some params) ≡ Some value
  pub id : id_of value ≡ Some (integer (decimal ask.number))
  pub says : message_of body ≡ notification (codes "$/cancelRequest") (Some params)

-- a notification of the start, which is ready
pub record IsNotified (before : List Event) (cause : Cause) (s : ℕ) (asked : List ℕ) (given : Option Json) : Type 0 where
  pub method : List ℕ
  pub from : cause ≡ FromServer s asked
  pub ready : (life_of s before).stage ≡ Ready
  pub asks : message_of asked ≡ notification method given
  pub class : class_of method Server true ≡ Progress

-- a response of the editor, which runs, to a create of the start
pub record IsTaken (settings : Settings) (before : List Event) (cause : Cause) (e s : ℕ) (taking : Taking) : Type 0 where
  pub answer : List ℕ
  pub from : cause ≡ FromEditor e answer
  pub ran : (desk_of e before).phase ≡ Running
  pub ready : (life_of s before).stage ≡ Ready
  pub found : find (is_answered e (answered_id (message_of answer))) (created_of settings s before).takings ≡ Some taking
  pub accepted : accepts (message_of answer) ≡ true

-- what is told: of an open request of the editor, with the editor's own token, and of a token that it accepted, with the daemon's (S13); and what was held of a token that it accepts, behind what was held before it (E19)
pub data Telling (settings : Settings) (before : List Event) (cause : Cause) (events : List Event) (e : ℕ) (body : List ℕ) : Type 0 where
  of_request : (s : ℕ) (asked : List ℕ) (given : Option Json) (request : Forwarded) (token : List ℕ) → IsNotified before cause s asked given → find (is_told before (named_of (codes "token") given)) (forwarding_of settings s before).open_requests ≡ Some request
      → own_token (named_of (codes "token") given) request ≡ Some token → request.editor ≡ e → body ≡ marked_text token asked → Telling settings before cause events e body
  of_token : (s : ℕ) (asked : List ℕ) (given : Option Json) (token : Token) → IsNotified before cause s asked given → token_called (named_token given) (created_of settings s before) ≡ Some token
      → has_accepted e token.number (created_of settings s before) ≡ true → body ≡ marked_text (created_text s token.number) asked → Telling settings before cause events e body
  of_held : (s : ℕ) (taking : Taking) (earlier : List (List ℕ)) (held : List ℕ) (later : List (List ℕ)) → IsTaken settings before cause e s taking → taking.held ≡ earlier ++ held ∷ later
      → events ≡ behind (with_cause before cause) (map (λ other. ToEditor e (marked_text (created_text s taking.token) other)) earlier) → body ≡ marked_text (created_text s taking.token) held → Telling settings before cause events e body

-- progress is told to an editor that runs or is down
pub record IsProgress (settings : Settings) (before : List Event) (cause : Cause) (events : List Event) (e : ℕ) (body : List ℕ) : Type 0 where
  pub told : Telling settings before cause events e body
  pub method : List ℕ
  pub params : Option Json
  pub class : class_of method Server true ≡ Progress
  pub hears : listens (desk_of e events).phase ≡ true
  pub says : message_of body ≡ notification method params

-- a list fits an editor by what these events say, and is shown so
pub record IsFitting (settings : Settings) (events : List Event) (e s : ℕ) (l : LastList) (body : List ℕ) : Type 0 where
  pub fit : fits l (agreement_at settings s e events l.uri) ≡ true
  pub bytes : body ≡ shown_text (version_at settings s e events l.uri) l.body

-- which list of diagnostics is shown: one that comes (S15); the last one, which isn't empty, of a document that the editor opened, by what the start was sent by then (E12); and each such one, in the order of their documents' first lists, as it begins to run (L2)
pub data Showing (settings : Settings) (before : List Event) (cause : Cause) (events : List Event) (e s : ℕ) (body : List ℕ) : Type 0 where
  comes : (asked method : List ℕ) (given : Option Json) (list : LastList) → cause ≡ FromServer s asked → message_of asked ≡ notification method given → class_of method Server true ≡ Diagnostics → published (sayings_of s before) asked ≡ Some list
      → IsFitting settings before e s list body → Showing settings before cause events e s body
  opened_by : (text uri language version words : List ℕ) (list : LastList) → cause ≡ FromEditor e text → saying_of (message_of text) ≡ opens uri language version words → find (is_of uri) (lists_of s events) ≡ Some list → list.empty ≡ false
      → IsFitting settings events e s list body → Showing settings before cause events e s body
  begins_by : (list : LastList) (earlier later : List LastList) → IsRestoring settings before cause e s → lists_of s before ≡ earlier ++ list ∷ later → list.empty ≡ false → IsFitting settings before e s list body → Showing settings before cause events e s body

-- a list of a ready start is shown to an editor that runs
pub record IsShown (settings : Settings) (before : List Event) (cause : Cause) (events : List Event) (e : ℕ) (body : List ℕ) : Type 0 where
  pub start : ℕ
  pub shown : Showing settings before cause events e start body
  pub ready : (life_of start before).stage ≡ Ready
  pub running : (desk_of e events).phase ≡ Running
  pub method : List ℕ
  pub params : Option Json
  pub class : class_of method Server true ≡ Diagnostics
  pub says : message_of body ≡ notification method params

-- what an editor that runs was asked and didn't answer as the start ended: whether it takes a token, or a request of the start
pub data Unanswered (settings : Settings) (before : List Event) (e s number : ℕ) : Type 0 where
  of_taking : (taking : Taking) (earlier later : List Taking) → filter (unanswered_at e) (created_of settings s before).takings ≡ earlier ++ taking ∷ later → taking.number ≡ number → Unanswered settings before e s number
  of_ask : (ask : Ask) (earlier later : List Ask) → filter (is_with e) (asks_of settings s before) ≡ earlier ++ ask ∷ later → ask.number ≡ number → Unanswered settings before e s number

-- what else it is told then (X2): that a token ends which has begun there; that what it was asked is cancelled; and an empty list for each document of which the last list that it was sent isn't empty
pub data Losing (settings : Settings) (before : List Event) (events : List Event) (e s : ℕ) (body : List ℕ) : Type 0 where
  ends : (token : Token) (earlier later : List Token) → (created_of settings s before).tokens ≡ earlier ++ token ∷ later → has_begun e token.number (created_of settings s before) ≡ true → body ≡ end_text (created_text s token.number) → Losing settings before events e s body
  frees : (number : ℕ) → Unanswered settings before e s number → number < 2 ^ 64 → is_open (integer (decimal number)) (asked_of e events) ≡ true → body ≡ cancel_text number → Losing settings before events e s body
  empties : (list : LastList) (earlier later : List LastList) → lists_of s before ≡ earlier ++ list ∷ later → is_full e list.uri before ≡ true → IsUtf8 list.uri → body ≡ empty_text list.uri → Losing settings before events e s body

-- to an editor that runs
pub record IsLosing (settings : Settings) (before : List Event) (cause : Cause) (events : List Event) (e : ℕ) (body : List ℕ) : Type 0 where
  pub start : ℕ
  pub lost : IsLost settings before cause e start
  pub told : Losing settings before events e start body
  pub running : (desk_of e events).phase ≡ Running
  pub method : List ℕ
  pub params : Json
  pub says : message_of body ≡ notification method (Some params)

pub data WhyToEditor (settings : Settings) (before : List Event) (cause : Cause) (events : List Event) (e : ℕ) (body : List ℕ) : Type 0 where
  rejects : IsRejection before cause events e body → WhyToEditor settings before cause events e body
  refuses : IsRefusal settings events e body → WhyToEditor settings before cause events e body
  answers : IsAnswer settings events e body → WhyToEditor settings before cause events e body
  turns_away : IsTurning settings before cause events e body → WhyToEditor settings before cause events e body
  welcomes : IsWelcome events e body → WhyToEditor settings before cause events e body
  passes : IsPassing settings before cause events e body → WhyToEditor settings before cause events e body
  asks : IsAsk settings before cause events e body → WhyToEditor settings before cause events e body
  resumes : IsResumed settings before cause events e body → WhyToEditor settings before cause events e body
  pays : IsPaid settings before cause events e body → WhyToEditor settings before cause events e body
  calls : IsCall settings before cause events e body → WhyToEditor settings before cause events e body
  spreads : IsSpread settings before cause events e body → WhyToEditor settings before cause events e body
  recalls : IsRecall settings before cause events e body → WhyToEditor settings before cause events e body
  progresses : IsProgress settings before cause events e body → WhyToEditor settings before cause events e body
  shows : IsShown settings before cause events e body → WhyToEditor settings before cause events e body
  loses : IsLoss before cause events e body → WhyToEditor settings before cause events e body
  winds_up : IsLosing settings before cause events e body → WhyToEditor settings before cause events e body

-- its program is to begin, or gave no result yet
abbrev pub is_starting : Stage → Bool
is_starting Spawning = true
is_starting Initializing = true
is_starting other = false

-- the end of a program: its group ended before it gave a result (E6, E7, X7), or since it refused to (S3), or it was sent `shutdown` (S4, X7)
pub data WhyEnd (settings : Settings) (events : List Event) (s : ℕ) : Type 0 where
  starting : is_starting (life_of s events).stage ≡ true → IsDying settings events s → WhyEnd settings events s
  refused : (life_of s events).stage ≡ Initializing → is_left settings events s ≡ true → WhyEnd settings events s
  stopped : (life_of s events).stage ≡ Stopping → WhyEnd settings events s

abbrev pub Why : Settings → List Event → Cause → List Event → Out → Type 0
Why settings before cause events (ToEditor e body) = WhyToEditor settings before cause events e body
Why settings before cause events (ToServer s body) = WhyToServer settings before cause events s body
Why settings before cause events (Spawn s g) = (s ≡ starts_of events) × (g < length (groups_of settings events))
Why settings before cause events (CloseEditor e) = (ends_link settings before cause e ≡ true) × (is_there (desk_of e events).phase ≡ true)
Why settings before cause events (EndServer s) = WhyEnd settings events s

-- each of these outs of a cause has its reason, at its place
abbrev pub AllWhy : Settings → List Event → Cause → List Event → List Out → Type 0
AllWhy settings before cause events [] = Unit {0}
AllWhy settings before cause events (out ∷ outs) = Why settings before cause events out × AllWhy settings before cause (events ++ said out ∷ []) outs

-- Z1: an editor that is slow leaves as one does that sends `exit` where its link is to be ended
abbrev pub quitting : ℕ → Cause
quitting e = FromEditor e exit_text

-- the outs of one that is
pub record SlowOuts : Type 0 where
  pub editor : ℕ
  pub outs : List Out

-- of these, one behind the other, each is slow at its place, and its outs have their reasons there
abbrev pub AllSlow : Settings → List Event → List SlowOuts → Type 0
AllSlow settings events [] = Unit {0}
AllSlow settings events (x ∷ xs) = (is_slow settings x.editor events ≡ true) × (AllWhy settings events (quitting x.editor) events x.outs × AllSlow settings (behind events x.outs) xs)

-- the outs of an entry: those of the cause's row, and those of the editors that are slow behind them
pub record HasParts (settings : Settings) (before : List Event) (cause : Cause) (outs : List Out) : Type 0 where
  pub row : List Out
  pub slow : List SlowOuts
  pub parts : outs ≡ row ++ flat_map (λ (x : SlowOuts). x.outs) slow
  pub why : AllWhy settings before cause (with_cause before cause) row
  pub leave : AllSlow settings (behind (with_cause before cause) row) slow

-- and each out of these entries, behind those before them
abbrev pub ReasonsFrom : Settings → List Entry → List Entry → Type 0
ReasonsFrom settings before [] = Unit {0}
ReasonsFrom settings before (entry ∷ rest) = HasParts settings (events_of before) entry.cause entry.outs × ReasonsFrom settings (before ++ entry ∷ []) rest

abbrev pub HasReasons : Settings → List Entry → Type 0
HasReasons settings history = ReasonsFrom settings [] history
