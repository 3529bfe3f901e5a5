-- What holds of every legal history of several editors and groups, and is no rule of a session.
use Rattle.std.specs.Prelude.{◌≡◌, ℕ, ◌+◌, ◌^◌, ◌<◌, ◌≤◌, Bool, true, false, ◌&&◌, ◌||◌, List, [], ◌∷◌, decimal, fold, length, nat_eq, codes, is_some, if◌then◌else◌}
use Rattle.std.specs.Prelude.{Option, Some, None}
use Rattle.std.specs.List.{AllByRecursion, list_any}
use Rattle.std.specs.Option.{option_map_or}
use Rattle.json_text.specs.Json.{Json}
use Rattle.document_model.specs.Orderly.{AllSpelt, Orderly}
use Rattle.document_model.specs.Texts.{Texts}
use Rattle.mux_history.specs.declared.cause.Cause.{Cause}
use Rattle.mux_history.specs.declared.cause.Cause.TheVariants.{EditorGone, FromEditor, FromServer, Joined, ServerGone, StartFailed}
use Rattle.mux_history.specs.declared.out.Out.TheVariants.{ToEditor, ToServer}
use Rattle.rpc_message.specs.Message.{Id, Message, id_bytes, integer, request, message_of, same_id}
use Rattle.rpc_message.specs.ValueTexts.{IsIdText, IsShallowText}
use Rattle.event_model.specs.declared.phase.Phase.{Phase}
use Rattle.event_model.specs.declared.phase.Phase.TheVariants.{Absent, New, Waiting}
use Rattle.event_model.specs.declared.stage.Stage.{Stage}
use Rattle.event_model.specs.declared.stage.Stage.TheVariants.{Unspawned, Spawning, Initializing, Ready, Stopping}
use Rattle.event_model.specs.Event.{Event, took, did, notifies, requests}
use Rattle.event_model.specs.Members.{params_of}
use Rattle.event_model.specs.Phases.{desk_of, editors_of, is_begun, is_there, is_waiting}
use Rattle.event_model.specs.Requests.{answered_id, next_number, is_open, is_own, open_of, with_request, without}
use Rattle.event_model.specs.Settings.{Settings}
use Rattle.event_model.specs.Spawns.{group_of, starts_of}
use Rattle.event_model.specs.Stages.{is_first_result, is_initializing, is_ready, life_of, no_life}
use Rattle.mux_model.specs.Documents.{held_at}
use Rattle.group_words.specs.declared.kept.Kept.{Kept}
use Rattle.group_words.specs.declared.placed.Placed.{Placed}
use Rattle.group_words.specs.declared.placed.Placed.TheVariants.{TooMany}
use Rattle.group_words.specs.Houses.{groups_of, home_of, is_doubled, is_first_error, is_home, places, placed_for, stops}
use Rattle.group_words.specs.Rows.{folders_text, initialize_of, result_of}
use Rattle.group_rows.specs.held_requests.specs.declared.request.Request.{Request}
use Rattle.group_rows.specs.Asks.{Ask, Parked, asks_of, is_patient, is_under, parked_of, waits_under}
use Rattle.group_rows.specs.Created.{Taking, created_of}
use Rattle.group_rows.specs.Earlier.{differs, given_of, was_shown}
use Rattle.group_rows.specs.ExitRows.{ends_group}
use Rattle.group_rows.specs.Forwarded.{Forwarded, forwarding_of}
use Rattle.group_rows.specs.StopRows.{stopped}
use Rattle.group_rows.specs.Reserved.{reserves}
use Rattle.group_rows.specs.Texts.{texts_of}
use Rattle.group_rows.specs.Waiting.{waiting_of}

-- Starts and editors that weren't there yet

-- past the last start that was spawned there is none, and past the last editor that joined no editor
abbrev pub NoStarts : List Event → Type 0
NoStarts events = (s : ℕ) → starts_of events ≤ s → life_of s events ≡ no_life

abbrev pub NoEditors : List Event → Type 0
NoEditors events = (e : ℕ) → editors_of events ≤ e → (desk_of e events).phase ≡ Absent

-- What the events before tell, whatever is sent

-- the message of a body is what the body says
abbrev pub IsMeant : Event → Type 0
IsMeant (took (FromEditor e body) m) = m ≡ message_of body
IsMeant (took (FromServer s body) m) = m ≡ message_of body
IsMeant (did (ToServer s body) m) = m ≡ message_of body
IsMeant other = Unit {0}

abbrev pub Meant : List Event → Type 0
Meant events = AllByRecursion IsMeant events

-- what the editors of each group have open is UTF-8, each document once at an editor
pub record IsOpened (x : Texts) : Type 0 where
  pub spelt : AllSpelt x.opens
  pub orderly : Orderly x

abbrev pub Opened : Settings → List Event → Type 0
Opened settings events = (g : ℕ) → IsOpened (texts_of settings g events)

-- a start isn't to end, and didn't
abbrev pub is_up : Stage → Bool
is_up Unspawned = true
is_up Spawning = true
is_up Initializing = true
is_up Ready = true
is_up other = false

-- what a start gave is a result with id 1, and one that is ready gave one
pub record Results (events : List Event) : Type 0 where
  pub each : (s : ℕ) (body : List ℕ) → result_of s events ≡ Some body → is_first_result (message_of body) ≡ true
  pub given : (s : ℕ) → is_ready (life_of s events).stage ≡ true → is_some (result_of s events) ≡ true

-- the daemon's own `initialize` to the starts of a group is a request with the number 1, and its folders are a value's text
pub record IsWritten (x : Kept) : Type 0 where
  pub params : Option Json
  pub says : message_of (initialize_of x) ≡ request (integer (codes "1")) (codes "initialize") params
  pub folders : Json
  pub listed : IsShallowText 1023 folders (folders_text x.key.folders)

abbrev pub Written : Settings → List Event → Type 0
Written settings events = AllByRecursion IsWritten (groups_of settings events)

-- the group that a start was spawned for is kept
pub record IsHoused (settings : Settings) (s : ℕ) (events : List Event) : Type 0 where
  pub group : ℕ
  pub is : group_of s events ≡ Some group
  pub kept : group < length (groups_of settings events)

abbrev pub Housed : Settings → List Event → Type 0
Housed settings events = (s : ℕ) → s < starts_of events → IsHoused settings s events

-- Starts, by their stages, and their open requests

-- a start whose program doesn't run yet was sent no request
abbrev pub is_unbegun : Stage → Bool
is_unbegun Unspawned = true
is_unbegun Spawning = true
is_unbegun other = false

abbrev pub Unbegun : Settings → List Event → Type 0
Unbegun settings events = (s : ℕ) → is_unbegun (life_of s events).stage ≡ true → (next_number s events ≡ 1) × ((forwarding_of settings s events).next ≡ 2)

-- a start that isn't ready yet holds no document
abbrev pub is_unready : Stage → Bool
is_unready Unspawned = true
is_unready Spawning = true
is_unready Initializing = true
is_unready other = false

abbrev pub Untold : List Event → Type 0
Untold events = (s : ℕ) → is_unready (life_of s events).stage ≡ true → (u : List ℕ) → held_at s u events ≡ None

-- while a start is up, the number of its next request by editors' requests is at most the limit and two, and that by all is no greater
abbrev pub Bounded : Settings → List Event → Type 0
Bounded settings events = (s : ℕ) → is_up (life_of s events).stage ≡ true → (next_number s events ≤ (forwarding_of settings s events).next) × ((forwarding_of settings s events).next ≤ settings.limits.requests + 2)

-- while a start is ready, the next request to it has the same number by the count of all requests as by that of editors' requests
abbrev pub Numbered : Settings → List Event → Type 0
Numbered settings events = (s : ℕ) → (life_of s events).stage ≡ Ready → next_number s events ≡ (forwarding_of settings s events).next

-- and behind `shutdown`, which is no editor's, one more was counted
abbrev pub Stopped : Settings → List Event → Type 0
Stopped settings events = (s : ℕ) → (life_of s events).stage ≡ Stopping → next_number s events ≡ (forwarding_of settings s events).next + 1

-- it is there before its `initialize` is answered, or didn't join
abbrev pub is_early : Phase → Bool
is_early Absent = true
is_early New = true
is_early Waiting = true
is_early _ = false

-- an editor that joined and neither is new nor waits, and the bytes of the id of an open request of it
pub record IsAsker (events : List Event) (e : ℕ) (bytes : List ℕ) : Type 0 where
  pub id : Id
  pub text : IsIdText id bytes
  pub late : is_early (desk_of e events).phase ≡ false
  pub waits : is_open id (open_of e events) ≡ true

abbrev pub IsForwarded : List Event → Forwarded → Type 0
IsForwarded events f = IsAsker events f.editor f.id

abbrev pub AllForwarded : Settings → List Event → Type 0
AllForwarded settings events = (s : ℕ) → AllByRecursion (IsForwarded events) (forwarding_of settings s events).open_requests

-- of one editor under one id there is one open request, at one start
abbrev pub OneRequest : ℕ → Forwarded → ℕ → Forwarded → Type 0
OneRequest s f t g = (id : Id) → g.editor ≡ f.editor → IsIdText id f.id → IsIdText id g.id → (t ≡ s) × (g.number ≡ f.number)

abbrev pub Apart : Settings → List Event → Type 0
Apart settings events = (s : ℕ) → AllByRecursion (λ f. (t : ℕ) → AllByRecursion (OneRequest s f t) (forwarding_of settings t events).open_requests) (forwarding_of settings s events).open_requests

-- no request of e under this id is open at a start
abbrev pub IsAlone : Settings → List Event → ℕ → Id → Type 0
IsAlone settings events e id = (t : ℕ) → AllByRecursion (λ (g : Forwarded). g.editor ≡ e → IsIdText id g.id → ⊥) (forwarding_of settings t events).open_requests

-- Requests that wait

-- a request of an editor of the group that waits there is open, no request of the editor under its id is open at a start, and it may go to one
pub record IsHeld (settings : Settings) (g : ℕ) (events : List Event) (r : Request) : Type 0 where
  pub asker : IsAsker events r.editor r.id
  pub there : is_there (desk_of r.editor events).phase ≡ true
  pub home : home_of settings r.editor events ≡ Some g
  pub alone : IsAlone settings events r.editor asker.id
  pub method : List ℕ
  pub params : Option Json
  pub says : message_of r.body ≡ request asker.id method params
  pub bytes : r.id ≡ id_bytes r.body
  pub other : is_own method ≡ false
  pub free : reserves (params_of r.body) ≡ false

-- no two of an editor have the same id
abbrev pub HasOtherId : Request → Request → Type 0
HasOtherId r q = (id : Id) → q.editor ≡ r.editor → IsIdText id r.id → IsIdText id q.id → ⊥

abbrev pub HaveOtherIds : List Request → Type 0
HaveOtherIds [] = Unit {0}
HaveOtherIds (r ∷ rs) = AllByRecursion (HasOtherId r) rs × HaveOtherIds rs

pub record AreHeld (settings : Settings) (g : ℕ) (events : List Event) : Type 0 where
  pub each : AllByRecursion (IsHeld settings g events) (waiting_of settings g events)
  pub apart : HaveOtherIds (waiting_of settings g events)

abbrev pub AllHeld : Settings → List Event → Type 0
AllHeld settings events = (g : ℕ) → AreHeld settings g events

-- Requests of starts

-- the ids of the requests of start s that are open: each from its own message until a body to s answers it
abbrev pub server_behind : ℕ → List Id → Event → List Id
server_behind s ids (took (FromServer n body) m) = if nat_eq n s then with_request m ids else ids
server_behind s ids (did (ToServer n body) m) = if nat_eq n s then without (answered_id m) ids else ids
server_behind s ids other = ids

abbrev pub asked_by : ℕ → List Event → List Id
asked_by s events = fold (server_behind s) [] events

-- the ids of the requests to editor e that are open: each from its own body until a message of e answers it
abbrev pub editor_behind : ℕ → List Id → Event → List Id
editor_behind e ids (did (ToEditor n body) m) = if nat_eq n e then with_request m ids else ids
editor_behind e ids (took (FromEditor n body) m) = if nat_eq n e then without (answered_id m) ids else ids
editor_behind e ids other = ids

abbrev pub asked_of : ℕ → List Event → List Id
asked_of e events = fold (editor_behind e) [] events

-- an ask of start s: its request is open, and so is that to the editor, under a number that is small
pub record IsAsked (s : ℕ) (events : List Event) (a : Ask) : Type 0 where
  pub text : IsIdText a.id a.bytes
  pub small : a.number < 2 ^ 64
  pub waits : is_open a.id (asked_by s events) ≡ true
  pub unanswered : is_open (integer (decimal a.number)) (asked_of a.editor events) ≡ true

-- no two of them have the same id
abbrev pub AllDiffer : List Ask → Type 0
AllDiffer [] = Unit {0}
AllDiffer (a ∷ asks) = AllByRecursion (λ (b : Ask). same_id a.id b.id ≡ false) asks × AllDiffer asks

-- a request of start s that waits until an editor runs is open, and one that one editor answers
pub record IsParked (s : ℕ) (events : List Event) (p : Parked) : Type 0 where
  pub method : List ℕ
  pub params : Option Json
  pub says : message_of p.body ≡ request p.id method params
  pub patient : is_patient method ≡ true
  pub waits : is_open p.id (asked_by s events) ≡ true

-- no two of these have the same id, nor has one of these asks it
abbrev pub AllApart : List Ask → List Parked → Type 0
AllApart asks [] = Unit {0}
AllApart asks (p ∷ ps) = (list_any (is_under (Some p.id)) asks ≡ false) × ((list_any (waits_under (Some p.id)) ps ≡ false) × AllApart asks ps)

pub record AreAsks (settings : Settings) (s : ℕ) (events : List Event) : Type 0 where
  pub asked : AllByRecursion (IsAsked s events) (asks_of settings s events)
  pub differ : AllDiffer (asks_of settings s events)
  pub parked : AllByRecursion (IsParked s events) (parked_of settings s events)
  pub apart : AllApart (asks_of settings s events) (parked_of settings s events)

abbrev pub Asks : Settings → List Event → Type 0
Asks settings events = (s : ℕ) → AreAsks settings s events

-- an editor was asked to take a token: under a number that is small, and as long as it doesn't answer its request is open
pub record IsTake (events : List Event) (c : Taking) : Type 0 where
  pub small : c.number < 2 ^ 64
  pub waits : c.accepted ≡ false → is_open (integer (decimal c.number)) (asked_of c.editor events) ≡ true

abbrev pub Takes : Settings → List Event → Type 0
Takes settings events = (s : ℕ) → AllByRecursion (IsTake events) (created_of settings s events).takings

-- Editors that wait

-- the `initialize` of an editor that waits, and is open
pub record IsWaiting (events : List Event) (e : ℕ) (id : Id) : Type 0 where
  pub params : Option Json
  pub phase : (desk_of e events).phase ≡ Waiting
  pub asks : message_of (desk_of e events).initialize ≡ request id (codes "initialize") params
  pub waits : is_open id (open_of e events) ≡ true

abbrev pub WaitingAsked : List Event → Type 0
WaitingAsked events = (e : ℕ) → (desk_of e events).phase ≡ Waiting → (id : Id) × IsWaiting events e id

-- S3: the start refuses its `initialize`
abbrev pub is_refusing : List Event → ℕ → Message → Bool
is_refusing before s m = is_first_error m && is_initializing (life_of s before).stage

-- the editor is in the group that start s was spawned for
abbrev pub is_in : Settings → List Event → ℕ → ℕ → Bool
is_in settings before s e = option_map_or (λ g. is_home g (home_of settings e before)) (group_of s before) false

-- behind a stop no editor is there
abbrev pub Quit : List Event → Type 0
Quit events = stopped events ≡ true → (e : ℕ) → is_there (desk_of e events).phase ≡ false

-- the daemon has too many groups for an editor that comes (E7)
abbrev pub is_too_many : Placed → Bool
is_too_many TooMany = true
is_too_many other = false

abbrev pub is_crowded : Settings → List Event → ℕ → List ℕ → ℕ → Bool
is_crowded settings before n body e = nat_eq n e && (places (desk_of n before).phase (message_of body) && is_too_many (placed_for settings before n body (groups_of settings before)))

-- X3: the group of the start ends with it, and the editor is in that
abbrev pub ends_with : Settings → List Event → ℕ → ℕ → Bool
ends_with settings before s e = ends_group settings before s && is_in settings before s e

-- an editor that waits and that this cause turns away: the daemon has too many groups (E7), the start for which it waits refuses its `initialize` (S3), or its group ends with that start (X3), or all is stopped (E6)
abbrev pub turned_away : Settings → List Event → Cause → ℕ → Bool
turned_away settings before (FromEditor n body) e = is_crowded settings before n body e || (stops before n (message_of body) && is_waiting (desk_of e before).phase)
turned_away settings before (FromServer s body) e = is_refusing before s (message_of body) && (is_waiting (desk_of e before).phase && is_in settings before s e)
turned_away settings before (StartFailed s) e = ends_with settings before s e && is_waiting (desk_of e before).phase
turned_away settings before (ServerGone s) e = ends_with settings before s e && is_waiting (desk_of e before).phase
turned_away settings before other e = false

-- an editor of a group whose start refuses its `initialize` (S3)
abbrev pub is_refused : Settings → List Event → ℕ → List ℕ → ℕ → Bool
is_refused settings before s body e = is_refusing before s (message_of body) && (is_begun (desk_of e before).phase && is_in settings before s e)

-- S2: the start gives its result, and editors are shown other capabilities of it than of an earlier start's
abbrev pub is_other : List Event → ℕ → List ℕ → Bool
is_other before s body = is_initializing (life_of s before).stage && (is_first_result (message_of body) && option_map_or (λ g. differs (given_of g before) body) (group_of s before) false)

-- an editor of its group that was shown those
abbrev pub is_parted : Settings → List Event → ℕ → List ℕ → ℕ → Bool
is_parted settings before s body e = is_other before s body && (was_shown (desk_of e before).phase && is_in settings before s e)

-- an editor whose link another one's doing ends: of a group whose start refuses its `initialize` (S3), shows other capabilities than an earlier one (S2), or with whose start it ends (X3); each that is there, where one stops all (E6); and one that joins behind that (J1)
abbrev pub is_put_out : Settings → List Event → Cause → ℕ → Bool
is_put_out settings before (FromServer s body) e = is_refused settings before s body e || is_parted settings before s body e
is_put_out settings before (FromEditor n body) e = stops before n (message_of body) && is_there (desk_of e before).phase
is_put_out settings before (Joined n) e = nat_eq n e && stopped before
is_put_out settings before (StartFailed s) e = ends_with settings before s e && is_begun (desk_of e before).phase
is_put_out settings before (ServerGone s) e = ends_with settings before s e && is_begun (desk_of e before).phase
is_put_out settings before other e = false

-- the program of the start ends by this cause, or couldn't be run
abbrev pub is_exit : Cause → ℕ → Bool
is_exit (StartFailed n) s = nat_eq n s
is_exit (ServerGone n) s = nat_eq n s
is_exit other s = false

-- the message that is at work ends the link of its editor: `exit` (E9), or a request under an id that is open (E3)
abbrev pub is_parting : List Event → ℕ → Message → Bool
is_parting before e m = notifies (codes "exit") m || is_doubled before e m

-- an editor whose link this cause ends
abbrev pub ends_link : Settings → List Event → Cause → ℕ → Bool
ends_link settings before (FromEditor n body) e = turned_away settings before (FromEditor n body) e || ((nat_eq n e && is_parting before n (message_of body)) || is_put_out settings before (FromEditor n body) e)
ends_link settings before other e = is_put_out settings before other e

-- its message is `shutdown`, or its link is gone
abbrev pub shuts : Cause → ℕ → Bool
shuts (FromEditor n body) e = nat_eq n e && requests (codes "shutdown") (message_of body)
shuts (EditorGone n why) e = nat_eq n e
shuts other e = false

abbrev pub leaves : Settings → List Event → Cause → ℕ → Bool
leaves settings before cause e = ends_link settings before cause e || shuts cause e

-- All of it

pub record Known (settings : Settings) (events : List Event) : Type 0 where
  pub starts : NoStarts events
  pub editors : NoEditors events
  pub unbegun : Unbegun settings events
  pub untold : Untold events
  pub bounded : Bounded settings events
  pub asked : stopped events ≡ false → AllForwarded settings events
  pub quit : Quit events
  pub apart : Apart settings events
  pub held : AllHeld settings events
  pub asks : Asks settings events
  pub takes : Takes settings events
  pub housed : Housed settings events
  pub numbered : Numbered settings events
  pub stopped : Stopped settings events
  pub waiting : WaitingAsked events
  pub opened : Opened settings events
  pub results : Results events
  pub written : Written settings events
  pub meant : Meant events
