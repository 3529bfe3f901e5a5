-- When the tables stand for events: one record for each table.
use Rattle.std.specs.Prelude.{◌≡◌, ℕ, ◌<◌, ◌≤◌, ◌^◌, nat_eq, not, ◌⊎◌, Bool, true, false, ◌&&◌, List, [], ◌∷◌, ◌++◌, map, length, nat_lt, is_some, if◌then◌else◌}
use Rattle.std.specs.List.{AllByRecursion, filter, range_with_len}
use Rattle.std.specs.Option.{option_and_then}
use Rattle.std.specs.Prelude.{Option, Some, None, slice_get, slice_set, ◌+◌}
use Rattle.ask_route.specs.declared.ask.Ask as route
use Rattle.ask_route.specs.Tables as asks
use Rattle.json_text.specs.Json.{Json}
use Rattle.rpc_message.specs.Message.{Id, Message, id_bytes, message_of, notification, request, result_bytes, same_id}
use Rattle.rpc_message.specs.ValueTexts.{IsIdText}
use Rattle.event_model.specs.declared.phase.Phase.{Phase}
use Rattle.event_model.specs.declared.phase.Phase.TheVariants.{Absent, Answered, New}
use Rattle.event_model.specs.declared.stage.Stage.{Stage}
use Rattle.event_model.specs.declared.stage.Stage.TheVariants.{Unspawned, Spawning, Initializing, Ready, Stopping, Ended}
use Rattle.event_model.specs.Each.{Each}
use Rattle.event_model.specs.Event.{Event, said}
use Rattle.mux_history.specs.declared.out.Out.TheVariants.{ToEditor}
use Rattle.event_model.specs.Phases.{desk_of, editors_of, needs_server}
use Rattle.event_model.specs.Requests.{answered_id}
use Rattle.event_model.specs.Settings.{Settings}
use Rattle.event_model.specs.Spawns.{starts_of, start_of, group_of}
use Rattle.event_model.specs.Stages.{life_of}
use Rattle.diagnostics_route.specs.declared.last_list.LastList.{LastList}
use Rattle.diagnostics_route.specs.Published.{published}
use Rattle.editor_session.specs.number_index.specs.Numbers.{numbers_under}
use Rattle.editor_session.specs.declared.session.Session.{Session}
use Rattle.editor_session.specs.Sessions.{is_gone, is_of, numbers_of}
use Rattle.group_table.specs.Tables as group_tables
use Rattle.group_words.specs.declared.kept.Kept.{Kept}
use Rattle.group_words.specs.Placing.{changed, ended}
use Rattle.group_words.specs.Houses.{Meant, exit_of, is_home, groups_of, home_of, meant_of, no_meant, time_of}
use Rattle.group_words.specs.Rows.{result_of, shown_of}
use Rattle.id_rewrite.specs.declared.pending.Numbered.{Numbered}
use Rattle.id_rewrite.specs.declared.pending.Pending.{Pending}
use Rattle.id_rewrite.specs.Tables.{Table, IsInOrder}
use Rattle.restart_replay.specs.Standings.{Standing, moved}
use Rattle.mux_tokens.specs.progress_route.specs.Tables.{less}
use Rattle.mux_tokens.specs.Stands.{CreatedStand}
use Rattle.mux_waits.specs.Stands.{WaitingStand}
use Rattle.mux_tables.specs.declared.tables.Start.{Start}
use Rattle.mux_tables.specs.declared.tables.Tables.{Tables}
use Rattle.mux_tables.specs.Names.{NamesStand}
use Rattle.group_laws.specs.group_rows.specs.Asks.{Ask, Parked, asking_next, asking_of, asks_of, is_patient, is_seated, is_under, next_ask, parked_of}
use Rattle.group_laws.specs.group_rows.specs.Forwarded.{Forwarded, Forwarding, first_sender, forwarding_of, names, sender_or}
use Rattle.group_laws.specs.group_rows.specs.ExitRows.{is_full}
use Rattle.group_laws.specs.group_rows.specs.Lists.{is_publishing, lists_next, lists_of}
use Rattle.group_laws.specs.group_rows.specs.Live.{live_next, live_of}
use Rattle.group_laws.specs.group_rows.specs.StopRows.{stopped}
use Rattle.group_laws.specs.group_rows.specs.Ticks.{stop_of, stopping_of}
use Rattle.group_laws.specs.registrations.specs.declared.registration.Registration.{Registration}

-- the editors: how many joined, and of each its phase, its group, the id of its `initialize`, and before that what it meant by `lspmux/open`
abbrev pub phase_in : Option Session → Phase
phase_in None = Absent
phase_in (Some s) = s.phase

abbrev pub group_in : Option Session → Option ℕ
group_in None = None
group_in (Some s) = s.group

-- what is kept of an editor's `lspmux/open`
abbrev pub meant_in : Option Session → Meant
meant_in None = no_meant
meant_in (Some s) = record { opened = s.opened; server = s.server }

-- how often an editor was asked
abbrev pub asked_in : Option Session → ℕ
asked_in None = 0
asked_in (Some s) = s.asks

-- the number of the next request to an editor, unless that one is gone
abbrev pub CountStands : Option Session → ℕ → Type 0
CountStands kept next = is_gone (phase_in kept) ≡ false → next ≡ asked_in kept + 1

-- the documents of which the last list that an editor was sent isn't empty: each is noted by its URI, unless the editor is gone
abbrev pub full_in : Option Session → List (List ℕ × List ℕ)
full_in None = []
full_in (Some s) = s.full

abbrev pub noted_for : Bool → List ℕ
noted_for full = if full then 0 ∷ [] else []

abbrev pub FullStands : Option Session → (List ℕ → Bool) → Type 0
FullStands kept full = is_gone (phase_in kept) ≡ false → (u : List ℕ) → numbers_under u (full_in kept) ≡ noted_for (full u)

pub record EditorsStand (settings : Settings) (sessions : List Session) (events : List Event) : Type 0 where
  pub count : editors_of events ≡ length sessions
  pub phase : (e : ℕ) → (desk_of e events).phase ≡ phase_in (slice_get sessions e)
  pub home : (e : ℕ) → home_of settings e events ≡ group_in (slice_get sessions e)
  pub names : NamesStand settings sessions events
  pub meant : (e : ℕ) → (desk_of e events).phase ≡ New → meant_in (slice_get sessions e) ≡ meant_of settings.servers e events
  pub asked : (e : ℕ) → CountStands (slice_get sessions e) (next_ask e events)
  pub full : (e : ℕ) → FullStands (slice_get sessions e) (λ u. is_full e u events)

-- the groups: the list itself, and its limits
pub record GroupsStand (settings : Settings) (table : group_tables.Table) (events : List Event) : Type 0 where
  pub groups : groups_of settings events ≡ table.groups
  pub limit : settings.limits.groups ≡ table.limit
  pub idle : settings.limits.idle ≡ table.idle

-- the starts, by the numbers of their groups
pub record OriginsStand (origins : List ℕ) (events : List Event) : Type 0 where
  pub count : starts_of events ≡ length origins
  pub group : (s : ℕ) → group_of s events ≡ slice_get origins s

-- the open requests at a start
abbrev pub forwarded_of : Numbered → Forwarded
forwarded_of r = record { number = r.number; editor = r.pending.editor; id = r.pending.id; work = r.pending.work; partial = r.pending.partial; cancelled = r.pending.cancelled }

-- the request of this number
abbrev pub forwarded_as : ℕ → Pending → Forwarded
forwarded_as n p = forwarded_of (record { number = n; pending = p })

pub record IdsAt (limit : ℕ) (x : Forwarding) (ids : Table) : Type 0 where
  pub next : x.next ≡ ids.next
  pub open_requests : x.open_requests ≡ map forwarded_of ids.requests
  pub ends : ids.limit ≡ limit
  pub order : IsInOrder ids

abbrev pub IdsStand : Settings → ℕ → ℕ → Table → List Event → Type 0
IdsStand settings limit s ids events = IdsAt limit (forwarding_of settings s events) ids

-- it gave no result of its `initialize` yet
abbrev pub is_early : Stage → Bool
is_early Unspawned = true
is_early Spawning = true
is_early Initializing = true
is_early _ = false

-- what editors are shown of the body that gave it, by where the start stands: one that is ready gave one
abbrev pub ShownAt : Stage → Option (List ℕ) → Option (List ℕ) → Type 0
ShownAt Unspawned shown given = (shown ≡ None) × (given ≡ None)
ShownAt Spawning shown given = (shown ≡ None) × (given ≡ None)
ShownAt Initializing shown given = (shown ≡ None) × (given ≡ None)
ShownAt Ready shown given = (body : List ℕ) × (given ≡ Some body) × (shown ≡ Some (shown_of (result_bytes body)))
ShownAt other shown given = Unit {0}

-- the moment of its `shutdown`, as it is kept
abbrev pub moment_in : Option (ℕ × ℕ) → Option ℕ
moment_in None = None
moment_in (Some x) = Some x.1

-- and by where the start stands: as long as the answer is awaited
abbrev pub StopAt : Stage → Option (ℕ × ℕ) → Option ℕ → Type 0
StopAt Stopping kept since = moment_in kept ≡ since
StopAt other kept since = Unit {0}

-- an ask, as it is kept
abbrev pub kept_ask : Ask → route.Ask
kept_ask a = asks.asked a.editor a.number a.bytes

-- its bytes are the text of its id
abbrev pub HasText : Ask → Type 0
HasText a = IsIdText a.id a.bytes

-- its number was given to its editor, and is one of 64 bits
abbrev pub WasAsked : List Event → Ask → Type 0
WasAsked events a = (a.number < next_ask a.editor events) × (a.number < 2 ^ 64)

-- no other ask of its editor has its number, and none its id
abbrev pub is_beside : Ask → Ask → Bool
is_beside a b = nat_eq b.editor a.editor && nat_eq b.number a.number

abbrev pub IsOther : Ask → Ask → Type 0
IsOther a b = (is_beside a b ≡ false) × (same_id a.id b.id ≡ false)

abbrev pub AreApart : List Ask → Type 0
AreApart [] = Unit {0}
AreApart (a ∷ qs) = AllByRecursion (IsOther a) qs × AreApart qs

-- what a start that is ready asked
pub record AsksStand (events : List Event) (open_asks : List Ask) (kept : List route.Ask) : Type 0 where
  pub same : kept ≡ map kept_ask open_asks
  pub texts : AllByRecursion HasText open_asks
  pub asked : AllByRecursion (WasAsked events) open_asks
  pub apart : AreApart open_asks

-- by where the start stands: before that it asked nothing, and behind it nothing is kept
abbrev pub AsksAt : Stage → List Event → List Ask → List route.Ask → Type 0
AsksAt Unspawned events open_asks kept = (open_asks ≡ []) × (kept ≡ [])
AsksAt Spawning events open_asks kept = (open_asks ≡ []) × (kept ≡ [])
AsksAt Initializing events open_asks kept = (open_asks ≡ []) × (kept ≡ [])
AsksAt Ready events open_asks kept = AsksStand events open_asks kept
AsksAt other events open_asks kept = Unit {0}

-- what waits until an editor runs, as it is kept
abbrev pub kept_parked : Parked → route.Ask
kept_parked p = asks.parked (id_bytes p.body) p.body

-- it is a request of this id that may wait
abbrev pub MayWait : Parked → Type 0
MayWait p = (method : List ℕ) × (params : Option Json) × (message_of p.body ≡ request p.id method params) × (is_patient method ≡ true)

-- no open ask has its id, and nothing else that waits
abbrev pub IsFree : List Ask → Parked → Type 0
IsFree open_asks p = AllByRecursion (λ (a : Ask). is_under (Some p.id) a ≡ false) open_asks

abbrev pub HasOwnId : Parked → Parked → Type 0
HasOwnId p q = same_id p.id q.id ≡ false

abbrev pub HaveOwnIds : List Parked → Type 0
HaveOwnIds [] = Unit {0}
HaveOwnIds (p ∷ ps) = AllByRecursion (HasOwnId p) ps × HaveOwnIds ps

-- what waits at a start that is ready
pub record ParkedStand (open_asks : List Ask) (waiting : List Parked) (kept : List route.Ask) : Type 0 where
  pub same : kept ≡ map kept_parked waiting
  pub bodies : AllByRecursion MayWait waiting
  pub own : HaveOwnIds waiting
  pub free : AllByRecursion (IsFree open_asks) waiting

-- by where the start stands
abbrev pub ParkedAt : Stage → List Ask → List Parked → List route.Ask → Type 0
ParkedAt Unspawned open_asks waiting kept = (waiting ≡ []) × (kept ≡ [])
ParkedAt Spawning open_asks waiting kept = (waiting ≡ []) × (kept ≡ [])
ParkedAt Initializing open_asks waiting kept = (waiting ≡ []) × (kept ≡ [])
ParkedAt Ready open_asks waiting kept = ParkedStand open_asks waiting kept
ParkedAt other open_asks waiting kept = Unit {0}

-- what is registered at a start, as it is kept, by where it stands: before it is ready nothing is
abbrev pub LiveAt : Stage → List Registration → List Registration → Type 0
LiveAt Unspawned live kept = (live ≡ []) × (kept ≡ [])
LiveAt Spawning live kept = (live ≡ []) × (kept ≡ [])
LiveAt Initializing live kept = (live ≡ []) × (kept ≡ [])
LiveAt Ready live kept = kept ≡ live
LiveAt other live kept = Unit {0}

-- the last lists of a start, as they are kept, by where it stands: before it is ready it has none
abbrev pub ListsAt : Stage → List LastList → List LastList → Type 0
ListsAt Unspawned lists kept = (lists ≡ []) × (kept ≡ [])
ListsAt Spawning lists kept = (lists ≡ []) × (kept ≡ [])
ListsAt Initializing lists kept = (lists ≡ []) × (kept ≡ [])
ListsAt Ready lists kept = kept ≡ lists
ListsAt other lists kept = Unit {0}

-- the tables of one start; a further one is a name here, and a clause
pub data Part : Type 0 where
  of_life of_ids of_shown of_stop of_asks of_parked of_live of_lists : Part

abbrev pub PartStands : Part → Settings → ℕ → Start → List Event → Type 0
PartStands of_life settings limit x events = life_of x.life.start events ≡ record { stage = x.life.stage; started = x.started }
PartStands of_ids settings limit x events = IdsStand settings limit x.life.start x.ids events
PartStands of_shown settings limit x events = ShownAt x.life.stage x.shown (result_of x.life.start events)
PartStands of_stop settings limit x events = StopAt x.life.stage x.life.stopping (stop_of x.life.start events)
PartStands of_asks settings limit x events = AsksAt x.life.stage events (asks_of settings x.life.start events) x.asks
PartStands of_parked settings limit x events = ParkedAt x.life.stage (asks_of settings x.life.start events) (parked_of settings x.life.start events) x.parked
PartStands of_live settings limit x events = LiveAt x.life.stage (live_of settings x.life.start events) x.live
PartStands of_lists settings limit x events = ListsAt x.life.stage (lists_of x.life.start events) x.lists

-- what is kept of the last start of group g stands for what the events say of it
pub record LastStands (settings : Settings) (limit : ℕ) (events : List Event) (g : ℕ) (x : Start) : Type 0 where
  pub start : start_of g events ≡ Some x.life.start
  pub home : group_of x.life.start events ≡ Some g
  pub own : x.life.group ≡ g
  pub parts : (p : Part) → PartStands p settings limit x events

-- the tables of a start that wasn't spawned
abbrev pub blank : ℕ → ℕ → Start
blank limit s = record { life = record { start = s; group = 0; stage = Unspawned; stopping = None }; started = false; ids = record { requests = []; next = 2; limit = limit; spare = 0 }; shown = None; asks = []; parked = []; live = []; lists = [] }

-- its number
abbrev pub number_in : Start → ℕ
number_in x = x.life.start

-- where it stands
abbrev pub stage_in : Start → Stage
stage_in x = x.life.stage

-- the number of its group
abbrev pub house_in : Start → ℕ
house_in x = x.life.group

-- the groups of these rise, from one number on
abbrev pub Rise : ℕ → List Start → Type 0
Rise from [] = Unit {0}
Rise from (x ∷ xs) = (from ≤ x.life.group) × Rise (x.life.group + 1) xs

-- nothing is kept of group g
abbrev pub IsLost : ℕ → List Start → Type 0
IsLost g lasts = (place : ℕ) (x : Start) → slice_get lasts place ≡ Some x → x.life.group ≡ g → ⊥

-- what needn't be kept of group g, whose last start is s: it ended, and has nothing to answer
pub record Lost (settings : Settings) (limit g s : ℕ) (events : List Event) : Type 0 where
  pub last : Start
  pub stands : LastStands settings limit events g last
  pub number : last.life.start ≡ s
  pub ended : last.life.stage ≡ Ended
  pub answered : last.ids.requests ≡ []

-- this start ended, where there is one
abbrev pub HasEnded : Option ℕ → List Event → Type 0
HasEnded start events = (s : ℕ) → start ≡ Some s → (life_of s events).stage ≡ Ended

-- the last starts of the groups, but for some whose last one ended
pub record LastsStand (settings : Settings) (limit : ℕ) (lasts : List Start) (events : List Event) : Type 0 where
  pub rise : Rise 0 lasts
  pub each : Each (λ place x. LastStands settings limit events x.life.group x) lasts
  pub lost : (g s : ℕ) → IsLost g lasts → start_of g events ≡ Some s → Lost settings limit g s events
  pub fresh : (s : ℕ) → starts_of events ≤ s → (p : Part) → PartStands p settings limit (blank limit s) events
  pub old : (s g : ℕ) → group_of s events ≡ Some g → (start_of g events ≡ Some s) ⊎ ((life_of s events).stage ≡ Ended)

-- the editors and their groups, the time, and whether all was stopped
pub record HouseStands (settings : Settings) (t : Tables) (events : List Event) : Type 0 where
  pub editors : EditorsStand settings t.editors events
  pub groups : GroupsStand settings t.groups events
  pub now : time_of events ≡ t.course.time
  pub halted : stopped events ≡ t.course.stopped

pub record Stands (settings : Settings) (t : Tables) (events : List Event) : Type 0 where
  pub house : HouseStands settings t events
  pub origins : OriginsStand t.origins.groups.items events
  pub stopping : stopping_of events ≡ t.origins.stopping.items
  pub created : CreatedStand settings t.origins.created events
  pub waiting : WaitingStand settings t.origins.waiting events
  pub lasts : LastsStand settings t.requests t.lasts.items events
  pub requests : settings.limits.requests ≡ t.requests
  pub range : t.requests < 2 ^ 32

-- the group of this number still has an editor
abbrev pub stays_in : List Session → ℕ → Bool
stays_in sessions g = nat_lt 0 (length (numbers_of (λ s. is_of g s) sessions))

-- these end, one after the other
abbrev pub ends : List ℕ → List Kept → List Kept
ends [] xs = xs
ends (g ∷ gs) xs = ends gs (changed g ended xs)

-- the editors of a group in such a phase
abbrev pub those_in : (Phase → Bool) → List Session → ℕ → List ℕ
those_in test sessions g = filter (λ e. test (phase_in (slice_get sessions e)) && is_home g (group_in (slice_get sessions e))) (range_with_len 0 (length sessions))

abbrev pub any_in : (Phase → Bool) → List Session → ℕ → Bool
any_in test sessions g = nat_lt 0 (length (those_in test sessions g))

-- what the id of a response writes, where it is a number of 32 bits
abbrev pub Names : Option Id → ℕ → Type 0
Names id k = (n : ℕ) → n < 2 ^ 32 → names id n ≡ nat_eq n k

abbrev pub NamesAt : Option Id → Option ℕ → Type 0
NamesAt id None = (n : ℕ) → n < 2 ^ 32 → names id n ≡ false
NamesAt id (Some k) = Names id k

-- the same of a number of 64 bits
abbrev pub NamesAsk : Option Id → Option ℕ → Type 0
NamesAsk id None = (n : ℕ) → n < 2 ^ 64 → names id n ≡ false
NamesAsk id (Some k) = (n : ℕ) → n < 2 ^ 64 → names id n ≡ nat_eq n k

-- an editor's message answers at most asks of start s
abbrev pub AnswersOne : Settings → ℕ → ℕ → Message → List Event → Type 0
AnswersOne settings s e m events = (n : ℕ) → nat_eq s n ≡ false → AllByRecursion (λ (a : Ask). is_seated e (answered_id m) a ≡ false) (asks_of settings n events)

-- its program runs from now on
abbrev pub begun_at : Stage → Standing → Standing
begun_at Spawning life = moved Initializing life
begun_at other life = life

-- a message that is a request, and one that answers a request of an id
abbrev pub is_request : Message → Bool
is_request (request id method params) = true
is_request other = false

-- a message to an editor of which more is kept there than where the editor stands: a request, and a list of diagnostics
abbrev pub is_traced : Message → Bool
is_traced (request id method params) = true
is_traced (notification method params) = is_publishing method
is_traced other = false

abbrev pub is_answer : Message → Bool
is_answer m = is_some (answered_id m)

-- an event leaves the open asks of a start, and what waits there
abbrev pub OpenStay : Settings → ℕ → List Event → Event → Type 0
OpenStay settings s events event = (asking_next settings s events (asking_of settings s events) event).asks ≡ asks_of settings s events

abbrev pub ParkedStay : Settings → ℕ → List Event → Event → Type 0
ParkedStay settings s events event = (asking_next settings s events (asking_of settings s events) event).parked ≡ parked_of settings s events

pub record AsksStay (settings : Settings) (s : ℕ) (events : List Event) (event : Event) : Type 0 where
  pub asks : OpenStay settings s events event
  pub parked : ParkedStay settings s events event

-- and what is registered there
abbrev pub LiveStay : Settings → ℕ → List Event → Event → Type 0
LiveStay settings s events event = live_next settings s events (live_of settings s events) event ≡ live_of settings s events

-- and its last lists
abbrev pub ListsStay : ℕ → List Event → Event → Type 0
ListsStay s events event = lists_next s events (lists_of s events) event ≡ lists_of s events

-- no request of a start is at work that one editor answers, and no editor's message
pub record IsAtRest (settings : Settings) (s : ℕ) (events : List Event) : Type 0 where
  pub asker : (asking_of settings s events).asker ≡ None
  pub runs : (asking_of settings s events).runs ≡ None

-- the message of editor e is at work
pub record IsWorking (settings : Settings) (e s : ℕ) (events : List Event) : Type 0 where
  pub asker : (asking_of settings s events).asker ≡ None
  pub runs : (asking_of settings s events).runs ≡ Some e

-- a message of an editor answers no ask of a start that is ready
abbrev pub AnswersNone : Settings → ℕ → Message → List Event → Type 0
AnswersNone settings e m events = (s : ℕ) → (life_of s events).stage ≡ Ready → AllByRecursion (λ (a : Ask). is_seated e (answered_id m) a ≡ false) (asks_of settings s events)

-- this body is no request, no list of diagnostics, and leaves the editor in its phase
abbrev pub Keeps : ℕ → List ℕ → List Event → Type 0
Keeps e body events = ((desk_of e (events ++ said (ToEditor e body) ∷ [])).phase ≡ (desk_of e events).phase) × (is_traced (message_of body) ≡ false)

-- this body answers its `initialize`, and is neither
abbrev pub Welcomes : ℕ → List ℕ → List Event → Type 0
Welcomes e body events = ((desk_of e (events ++ said (ToEditor e body) ∷ [])).phase ≡ Answered) × (is_traced (message_of body) ≡ false)

-- this body is a list of diagnostics of the document of a URI, which is empty or isn't (LSP 3.17, Publish Diagnostics)
pub record IsListOf (uri : List ℕ) (empty : Bool) (body : List ℕ) : Type 0 where
  pub method : List ℕ
  pub params : Option Json
  pub list : LastList
  pub says : message_of body ≡ notification method params
  pub publishes : is_publishing method ≡ true
  pub given : published 0 body ≡ Some list
  pub document : list.uri ≡ uri
  pub none : list.empty ≡ empty

-- e's request under this id is at work, with these tokens for progress, and goes to start s; or none is, and it is what waits longest
abbrev pub Sends : Settings → ℕ → ℕ → List ℕ → Option (List ℕ) → Option (List ℕ) → List Event → Type 0
Sends settings s e id work partial events = sender_or (forwarding_of settings s events).sender (first_sender settings s events) ≡ Some (record { editor = e; id = id; work = work; partial = partial })

-- the others of these starts
abbrev pub unstopped : ℕ → List ℕ → List ℕ
unstopped s starts = filter (λ n. not (nat_eq s n)) starts

-- the last start of a group, which is z and has this place, ended: it is over and has nothing to answer, and the group counts an exit, or
-- ends
pub record Exits (restarts : ℕ) (t : Tables) (g : ℕ) (z : Start) (u : Tables) : Type 0 where
  pub groups : u.groups ≡ group_tables.with_groups (changed z.life.group (exit_of restarts (any_in needs_server t.editors z.life.group)) t.groups.groups) t.groups
  pub start : Start
  pub lasts : u.lasts.items ≡ slice_set t.lasts.items g start
  pub life : start.life ≡ moved Ended z.life
  pub started : start.started ≡ z.started
  pub requests_gone : start.ids.requests ≡ []
  pub next : start.ids.next ≡ 2
  pub limit : start.ids.limit ≡ t.requests
  pub order : IsInOrder start.ids
  pub editors : u.editors ≡ t.editors
  pub course : u.course ≡ t.course
  pub origins : u.origins.groups ≡ t.origins.groups
  pub created : u.origins.created ≡ less z.life.start t.origins.created
  pub waiting : u.origins.waiting ≡ t.origins.waiting
  pub stopping : u.origins.stopping.items ≡ unstopped z.life.start t.origins.stopping.items
  pub requests : u.requests ≡ t.requests

-- its place among those that are kept; where there is none, nothing is kept of the group
abbrev pub IsPlace : List Start → Option ℕ → Option ℕ → Type 0
IsPlace lasts home None = (g : ℕ) → home ≡ Some g → Rise 0 lasts → IsLost g lasts
IsPlace lasts home (Some place) = (place < length lasts) × ((x : Start) → slice_get lasts place ≡ Some x → home ≡ Some x.life.group)

-- no group from this number on has a start
abbrev pub IsNew : ℕ → List Event → Type 0
IsNew g events = (h : ℕ) → g ≤ h → start_of h events ≡ None

-- no such start was spawned, or its program ended or couldn't be run
abbrev pub is_over : Stage → Bool
is_over Unspawned = true
is_over Ended = true
is_over _ = false

-- the last start of an editor's group
abbrev pub start_for : Settings → ℕ → List Event → Option ℕ
start_for settings e events = option_and_then (λ g. start_of g events) (home_of settings e events)
