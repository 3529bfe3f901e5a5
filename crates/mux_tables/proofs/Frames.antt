-- An event leaves alone what it doesn't name: one lemma for each word, by cases of the event, and one for each table.
use Rattle.std.proofs.Common.{◌≡◌, ℕ, ◌+◌, Bool, true, false, not, ◌&&◌, List, [], ◌∷◌, ◌++◌, refl, ap, sym, subst, append-nil, ◌∙◌, nat_eq, arith}
use Rattle.std.specs.Prelude.{Option, Some, None, codes, slice_get, if◌then◌else◌}
use Rattle.std.proofs.lemmas.Bool.Decides.{nat_tests}
use Rattle.mux_history.specs.declared.cause.Cause.TheVariants.{Joined, FromEditor, EditorGone, Started, StartFailed, FromServer, ServerGone, Tick}
use Rattle.mux_history.specs.declared.out.Out.TheVariants.{ToEditor, ToServer, Spawn, CloseEditor, EndServer}
use Rattle.rpc_message.specs.Message.{Message, request, notification}
use Rattle.event_model.specs.declared.settings.Server.{Server}
use Rattle.event_model.specs.declared.stage.Stage.{Stage}
use Rattle.event_model.specs.declared.stage.Stage.TheVariants.{Initializing, Ready}
use Rattle.event_model.specs.Event.{Event, took, did, requests}
use Rattle.event_model.specs.Phases.{Desk, desk_behind, desk_hears, desk_of, editors_behind}
use Rattle.event_model.specs.Requests.{answered_id, is_own}
use Rattle.event_model.specs.Settings.{Settings}
use Rattle.event_model.specs.Spawns.{starts_behind, start_behind, group_behind}
use Rattle.event_model.specs.Stages.{Life, is_ready, life_behind, life_of, is_first_result, stage_hears, stage_told}
use Rattle.event_model.proofs.Frames.{one_more, never}
use Rattle.diagnostics_route.specs.declared.last_list.LastList.{LastList}
use Rattle.editor_session.specs.declared.session.Session.{Session}
use Rattle.group_table.specs.Tables as group_tables
use Rattle.group_words.specs.Houses.{Meant, meant_behind, time_behind, time_of, meant_of, server_asked}
use Rattle.group_words.specs.Rows.{result_behind, result_of}
use Rattle.group_words.proofs.Frames.{touches_groups, names_home, groups_stay, home_stays, past_more}
use Rattle.id_rewrite.specs.Tables.{Table}
use Rattle.mux_tokens.proofs.Stays.{is_notification, passes_by}
use Rattle.mux_tables.specs.declared.tables.Start.{Start}
use Rattle.group_laws.specs.group_rows.specs.Asks.{Asking, asked_behind, asker_of, asking_next, asking_of, idle_asking, next_ask, parks}
use Rattle.group_laws.specs.group_rows.specs.Forwarded.{Forwarding, Sender, first_sender, forwarding_next, forwarding_of, forwards, moves_ids, numbered, sender_or}
use Rattle.group_laws.specs.group_rows.proofs.Frames.{forwarding_more, touches_waiting}
use Rattle.mux_tables.specs.Stands.{EditorsStand, GroupsStand, OriginsStand, IdsAt, IdsStand, Part, of_life, of_ids, of_shown, PartStands, LastStands, ShownAt, of_stop, StopAt, of_asks, of_parked, of_live, of_lists, AsksStay, ListsStay, LiveStay, OpenStay, is_answer, is_request}
use Rattle.mux_tables.proofs.Asking.{asks_by, parked_by, told_asking, unanswered, unhanded, unwaited}
use Rattle.group_laws.specs.group_rows.specs.ExitRows.{full_behind, is_full}
use Rattle.mux_tables.proofs.Counted.{counted_same, next_more}
use Rattle.mux_tables.proofs.Fulls.{full_more, full_same}
use Rattle.mux_tables.proofs.Named.{goes_so, meant_by, named_by}
use Rattle.mux_tables.proofs.Publishing.{lists_by_stay, silent_lists}
use Rattle.mux_tables.proofs.Registering.{live_by_stay, silent_live}
use Rattle.group_laws.specs.group_rows.specs.Lists.{lists_next, lists_of}
use Rattle.group_laws.specs.group_rows.specs.Live.{live_next, live_of}
use Rattle.group_laws.specs.group_rows.specs.Ticks.{stop_next, stop_of}
use Rattle.group_laws.specs.registrations.specs.declared.registration.Registration.{Registration}

pub itself : (n : ℕ) → nat_eq n n ≡ true
itself n = grind (arith, nat_tests)

-- the event speaks of start s, of an editor, of a start that is spawned, of the time
abbrev pub names_start : ℕ → Event → Bool
names_start s (took (Started n) m) = nat_eq n s
names_start s (took (StartFailed n) m) = nat_eq n s
names_start s (took (FromServer n body) m) = nat_eq n s
names_start s (took (ServerGone n) m) = nat_eq n s
names_start s (did (ToServer n body) m) = nat_eq n s
names_start s (did (Spawn n g) m) = nat_eq n s
names_start s (did (EndServer n) m) = nat_eq n s
names_start s other = false

abbrev pub names_editor : Event → Bool
names_editor (took (Joined n) m) = true
names_editor (took (FromEditor n body) m) = true
names_editor (took (EditorGone n why) m) = true
names_editor (did (ToEditor n body) m) = true
names_editor (did (CloseEditor n) m) = true
names_editor other = false

abbrev pub spawns : Event → Bool
spawns (did (Spawn n g) m) = true
spawns other = false

abbrev pub ticks : Event → Bool
ticks (took (Tick t) m) = true
ticks other = false

-- what names no start and no editor leaves what waits
pub waits_quiet : (ev : Event) → names_editor ev ≡ false → ((n : ℕ) → names_start n ev ≡ false) → touches_waiting ev ≡ false
waits_quiet (took (FromEditor e body) m) h k = never h
waits_quiet (took (EditorGone e why) m) h k = never h
waits_quiet (did (ToEditor e body) m) h k = never h
waits_quiet (did (ToServer n body) m) h k = never (sym (itself n) ∙ k n)
waits_quiet (did (CloseEditor e) m) h k = never h
waits_quiet other h k = refl

-- what speaks of no editor and not of this start leaves what it created
pub passes_quiet : (s : ℕ) (ev : Event) → names_editor ev ≡ false → names_start s ev ≡ false → passes_by s ev ≡ true
passes_quiet s (took (FromEditor n body) m) e h = never e
passes_quiet s (took (EditorGone n why) m) e h = never e
passes_quiet s (took (StartFailed n) m) e h = ap not h
passes_quiet s (took (FromServer n body) m) e h = ap not h
passes_quiet s (took (ServerGone n) m) e h = ap not h
passes_quiet s (did (ToEditor n body) m) e h = never e
passes_quiet s (did (CloseEditor n) m) e h = never e
passes_quiet s other e h = refl

-- the words of editors
pub editors_alone : (n : ℕ) (ev : Event) → names_editor ev ≡ false → editors_behind n ev ≡ n
editors_alone n (took (Joined e) m) h = never h
editors_alone n other h = refl

pub desk_alone : (e : ℕ) (d : Desk) (ev : Event) → names_editor ev ≡ false → desk_behind e d ev ≡ d
desk_alone e d (took (Joined n) m) h = never h
desk_alone e d (took (FromEditor n body) m) h = never h
desk_alone e d (took (EditorGone n why) m) h = never h
desk_alone e d (did (ToEditor n body) m) h = never h
desk_alone e d (did (CloseEditor n) m) h = never h
desk_alone e d other h = refl

meant_alone : (servers : List Server) (e : ℕ) (x : Meant) (ev : Event) → names_editor ev ≡ false → meant_behind servers e x ev ≡ x
meant_alone servers e x (took (Joined n) m) h = never h
meant_alone servers e x (took (FromEditor n body) m) h = never h
meant_alone servers e x other h = refl

full_alone : (e : ℕ) (u : List ℕ) (full : Bool) (ev : Event) → names_editor ev ≡ false → full_behind e u full ev ≡ full
full_alone e u full (did (ToEditor k body) m) h = never h
full_alone e u full other h = refl

asked_alone : (e n : ℕ) (ev : Event) → names_editor ev ≡ false → asked_behind e n ev ≡ n
asked_alone e n (did (ToEditor k body) m) h = never h
asked_alone e n other h = refl

-- another editor's message
pub desk_apart : (e n : ℕ) (body : List ℕ) (m : Message) (events : List Event) → nat_eq e n ≡ false → desk_of n (events ++ took (FromEditor e body) m ∷ []) ≡ desk_of n events
desk_apart e n body m events h = one_more (desk_behind n) _ _ events (took (FromEditor e body) m) refl
    ∙ ap (λ b. if b then desk_hears (desk_of n events).phase (desk_of n events).initialize body m else desk_of n events) h

pub meant_apart : (servers : List Server) (e n : ℕ) (body : List ℕ) (m : Message) (events : List Event) → nat_eq e n ≡ false → meant_of servers n (events ++ took (FromEditor e body) m ∷ []) ≡ meant_of servers n events
meant_apart servers e n body m events h = one_more (meant_behind servers n) _ _ events (took (FromEditor e body) m) refl
    ∙ ap (λ b. if b && (requests (codes "lspmux/open") m && not (meant_of servers n events).opened) then record { opened = true; server = server_asked servers body } else meant_of servers n events) h

homeless : (n : ℕ) (ev : Event) → names_editor ev ≡ false → names_home n ev ≡ false
homeless n (took (FromEditor e body) m) h = never h
homeless n (took (EditorGone e why) m) h = never h
homeless n other h = refl

-- the time
pub time_alone : (now : ℕ) (ev : Event) → ticks ev ≡ false → time_behind now ev ≡ now
time_alone now (took (Tick t) m) h = never h
time_alone now other h = refl

-- the words of which starts there are
pub starts_alone : (n : ℕ) (ev : Event) → spawns ev ≡ false → starts_behind n ev ≡ n
starts_alone n (did (Spawn s g) m) h = never h
starts_alone n other h = refl

pub start_alone : (g : ℕ) (o : Option ℕ) (ev : Event) → spawns ev ≡ false → start_behind g o ev ≡ o
start_alone g o (did (Spawn s h) m) k = never k
start_alone g o other k = refl

pub group_alone : (s : ℕ) (o : Option ℕ) (ev : Event) → spawns ev ≡ false → group_behind s o ev ≡ o
group_alone s o (did (Spawn n g) m) k = never k
group_alone s o other k = refl

pub group_apart : (s : ℕ) (o : Option ℕ) (ev : Event) → names_start s ev ≡ false → group_behind s o ev ≡ o
group_apart s o (did (Spawn n g) m) h = rw h refl
group_apart s o other h = refl

-- the words of a start
pub life_alone : (s : ℕ) (x : Life) (ev : Event) → names_start s ev ≡ false → life_behind s x ev ≡ x
life_alone s x (took (Started n) m) h = rw h refl
life_alone s x (took (StartFailed n) m) h = rw h refl
life_alone s x (took (FromServer n body) m) h = rw h refl
life_alone s x (took (ServerGone n) m) h = rw h refl
life_alone s x (did (ToServer n body) m) h = rw h refl
life_alone s x (did (Spawn n g) m) h = rw h refl
life_alone s x (did (EndServer n) m) h = rw h refl
life_alone s x other h = refl

-- beside whose request is at work
pub record SameForwarding (a b : Forwarding) : Type 0 where
  pub next : a.next ≡ b.next
  pub open_requests : a.open_requests ≡ b.open_requests

pub forwarding_alone : (settings : Settings) (s : ℕ) (before : List Event) (x : Forwarding) (ev : Event) → names_start s ev ≡ false → SameForwarding (forwarding_next settings s before x ev) x
forwarding_alone settings s before x (took (FromServer n body) m) h = rw h (record { next = refl; open_requests = refl })
forwarding_alone settings s before x (took (StartFailed n) m) h = rw h (record { next = refl; open_requests = refl })
forwarding_alone settings s before x (took (ServerGone n) m) h = rw h (record { next = refl; open_requests = refl })
forwarding_alone settings s before x (did (ToServer n body) m) h = rw h (record { next = refl; open_requests = refl })
forwarding_alone settings s before x other h = record { next = refl; open_requests = refl }

-- the tables of which there is one
pub editors_stand : (settings : Settings) (t : List Session) (events : List Event) (ev : Event) → names_editor ev ≡ false → EditorsStand settings t events → EditorsStand settings t (events ++ ev ∷ [])
editors_stand settings t events ev h s = record {
  count = one_more editors_behind _ _ events ev s.count ∙ editors_alone _ ev h;
  phase = λ e. ap (λ (d : Desk). d.phase) (one_more (desk_behind e) _ _ events ev refl ∙ desk_alone e _ ev h) ∙ s.phase e;
  home = λ e. home_stays settings e events ev (homeless e ev h) ∙ s.home e;
  names = λ e. named_by (goes_so (one_more (desk_behind e) _ _ events ev refl ∙ desk_alone e _ ev h)) (home_stays settings e events ev (homeless e ev h)) refl (s.names e);
  meant = λ e. meant_by (goes_so (one_more (desk_behind e) _ _ events ev refl ∙ desk_alone e _ ev h)) refl (one_more (meant_behind settings.servers e) _ _ events ev refl ∙ meant_alone settings.servers e _ ev h) (s.meant e);
  asked = λ e. counted_same (slice_get t e) (next_ask e events) (next_ask e (events ++ ev ∷ [])) (next_more e events ev ∙ asked_alone e (next_ask e events) ev h) (s.asked e);
  full = λ e. full_same (slice_get t e) (λ u. is_full e u events) (λ u. is_full e u (events ++ ev ∷ [])) (λ u. full_more e u events ev ∙ full_alone e u (is_full e u events) ev h) (s.full e);
}

pub groups_stand : (settings : Settings) (t : group_tables.Table) (events : List Event) (ev : Event) → touches_groups ev ≡ false → GroupsStand settings t events → GroupsStand settings t (events ++ ev ∷ [])
groups_stand settings t events ev h s = record { groups = groups_stay settings events ev h ∙ s.groups; limit = s.limit; idle = s.idle }

pub origins_stand : (t : List ℕ) (events : List Event) (ev : Event) → spawns ev ≡ false → OriginsStand t events → OriginsStand t (events ++ ev ∷ [])
origins_stand t events ev h s = record {
  count = one_more starts_behind _ _ events ev s.count ∙ starts_alone _ ev h;
  group = λ n. one_more (group_behind n) _ _ events ev (s.group n) ∙ group_alone n _ ev h;
}

-- the tables of a start: the events that each speaks of
abbrev pub touches : Part → Event → Bool
touches of_life (took (Started n) m) = true
touches of_life (took (StartFailed n) m) = true
touches of_life (took (FromServer n body) m) = is_first_result m
touches of_life (took (ServerGone n) m) = true
touches of_life (did (ToServer n body) m) = requests (codes "shutdown") m
touches of_life (did (Spawn n g) m) = true
touches of_life (did (EndServer n) m) = true
touches of_life other = false
touches of_ids (took (StartFailed n) m) = true
touches of_ids (took (FromServer n body) m) = true
touches of_ids (took (ServerGone n) m) = true
touches of_ids (did (ToServer n body) m) = moves_ids m
touches of_ids other = false
touches of_shown (took (FromServer n body) m) = is_first_result m
touches of_shown other = false
touches of_stop (did (ToServer n body) m) = requests (codes "shutdown") m
touches of_stop other = false
touches of_asks (took (FromEditor e body) m) = is_answer m
touches of_asks (took (StartFailed n) m) = true
touches of_asks (took (ServerGone n) m) = true
touches of_asks (did (ToEditor e body) m) = is_request m
touches of_asks (did (ToServer n body) m) = is_answer m
touches of_asks other = false
touches of_parked (took (FromEditor e body) m) = is_answer m
touches of_parked (took (FromServer n body) m) = is_request m
touches of_parked (took (StartFailed n) m) = true
touches of_parked (took (ServerGone n) m) = true
touches of_parked (did (ToEditor e body) m) = is_request m
touches of_parked (did (ToServer n body) m) = is_answer m
touches of_parked other = false
touches of_live (took (FromServer n body) m) = is_request m
touches of_live (took (StartFailed n) m) = true
touches of_live (took (ServerGone n) m) = true
touches of_live other = false
touches of_lists (took (FromServer n body) m) = is_notification m
touches of_lists (took (StartFailed n) m) = true
touches of_lists (took (ServerGone n) m) = true
touches of_lists other = false

hears_quiet : (g : Stage) (m : Message) → is_first_result m ≡ false → stage_hears g m ≡ g
hears_quiet Initializing m h = rw h refl
hears_quiet other m h = refl

told_quiet : (g : Stage) (m : Message) → requests (codes "shutdown") m ≡ false → stage_told g m ≡ g
told_quiet Ready m h = rw h refl
told_quiet other m h = refl

same_life : (b : Bool) (x : Life) (g : Stage) → g ≡ x.stage → (if b then record { stage = g; started = x.started } else x) ≡ x
same_life true x g e = ap (λ z. record { stage = z; started = x.started }) e
same_life false x g e = refl

life_quiet : (s : ℕ) (x : Life) (ev : Event) → touches of_life ev ≡ false → life_behind s x ev ≡ x
life_quiet s x (took (Started n) m) h = never h
life_quiet s x (took (StartFailed n) m) h = never h
life_quiet s x (took (FromServer n body) m) h = same_life (nat_eq n s) x _ (hears_quiet x.stage m h)
life_quiet s x (took (ServerGone n) m) h = never h
life_quiet s x (did (ToServer n body) m) h = same_life (nat_eq n s) x _ (told_quiet x.stage m h)
life_quiet s x (did (Spawn n g) m) h = never h
life_quiet s x (did (EndServer n) m) h = never h
life_quiet s x other h = refl

forwards_quiet : (b : Bool) (first : Option Sender) (x : Forwarding) (m : Message) → moves_ids m ≡ false → SameForwarding (if b then forwards first x m else x) x
forwards_quiet false first x m h = record { next = refl; open_requests = refl }
forwards_quiet true first x (request id method ps) h = go (is_own method) h
  where
    go : (b : Bool) → not b ≡ false → SameForwarding (if b then x else record { sender = x.sender; next = x.next + 1; open_requests = x.open_requests ++ numbered (sender_or x.sender first) x.next }) x
    go true h = record { next = refl; open_requests = refl }
    go false h = never h
forwards_quiet true first x (notification method ps) h = rw h (record { next = refl; open_requests = refl })
forwards_quiet true first x other h = record { next = refl; open_requests = refl }

forwarding_quiet : (settings : Settings) (s : ℕ) (before : List Event) (x : Forwarding) (ev : Event) → touches of_ids ev ≡ false → SameForwarding (forwarding_next settings s before x ev) x
forwarding_quiet settings s before x (took (FromServer n body) m) h = never h
forwarding_quiet settings s before x (took (StartFailed n) m) h = never h
forwarding_quiet settings s before x (took (ServerGone n) m) h = never h
forwarding_quiet settings s before x (did (ToServer n body) m) h = forwards_quiet (nat_eq n s) (first_sender settings s before) x m h
forwarding_quiet settings s before x other h = record { next = refl; open_requests = refl }

-- the result of its `initialize`
result_alone : (s : ℕ) (o : Option (List ℕ)) (ev : Event) → names_start s ev ≡ false → result_behind s o ev ≡ o
result_alone s None (took (FromServer n body) m) h = rw h refl
result_alone s None other h = refl
result_alone s (Some b) ev h = refl

either_way : {A : Type 0} (b : Bool) (x : A) → (if b then x else x) ≡ x
either_way true x = refl
either_way false x = refl

pub result_quiet : (s : ℕ) (o : Option (List ℕ)) (ev : Event) → touches of_shown ev ≡ false → result_behind s o ev ≡ o
result_quiet s None (took (FromServer n body) m) h = rw h (either_way (nat_eq n s) None)
result_quiet s None other h = refl
result_quiet s (Some b) ev h = refl

-- the moment of its `shutdown`
pub stop_more : (s : ℕ) (events : List Event) (ev : Event) → stop_of s (events ++ ev ∷ []) ≡ stop_next s events (stop_of s events) ev
stop_more s events ev = past_more (stop_next s) [] None events ev

stop_alone : (s : ℕ) (events : List Event) (o : Option ℕ) (ev : Event) → names_start s ev ≡ false → stop_next s events o ev ≡ o
stop_alone s events o (did (ToServer n body) m) h = rw h refl
stop_alone s events o other h = refl

stop_quiet : (s : ℕ) (events : List Event) (o : Option ℕ) (ev : Event) → touches of_stop ev ≡ false → stop_next s events o ev ≡ o
stop_quiet s events o (did (ToServer n body) m) h = ap (λ b. if nat_eq n s && (is_ready (life_of s events).stage && b) then Some (time_of events) else o) h ∙ go (nat_eq n s) (is_ready (life_of s events).stage)
  where
    go : (a b : Bool) → (if a && (b && false) then Some (time_of events) else o) ≡ o
    go true true = refl
    go true false = refl
    go false b = refl
stop_quiet s events o other h = refl

stop_by : (settings : Settings) (limit : ℕ) (x : Start) (events : List Event) (ev : Event) → stop_next x.life.start events (stop_of x.life.start events) ev ≡ stop_of x.life.start events → PartStands of_stop settings limit x events → PartStands of_stop settings limit x (events ++ ev ∷ [])
stop_by settings limit x events ev same s = subst (λ o. StopAt x.life.stage x.life.stopping o) (sym (stop_more x.life.start events ev ∙ same)) s

-- what editors were asked for a start
open_alone : (settings : Settings) (s : ℕ) (events : List Event) (x : Asking) (ev : Event) → names_editor ev ≡ false → names_start s ev ≡ false → (asking_next settings s events x ev).asks ≡ x.asks
open_alone settings s events x (took (FromEditor e body) m) k h = never k
open_alone settings s events x (took (FromServer n body) m) k h = rw h refl
open_alone settings s events x (took (StartFailed n) m) k h = rw h refl
open_alone settings s events x (took (ServerGone n) m) k h = rw h refl
open_alone settings s events x (did (ToEditor e body) m) k h = never k
open_alone settings s events x (did (ToServer n body) m) k h = rw h refl
open_alone settings s events x other k h = refl

parked_alone : (settings : Settings) (s : ℕ) (events : List Event) (x : Asking) (ev : Event) → names_editor ev ≡ false → names_start s ev ≡ false → (asking_next settings s events x ev).parked ≡ x.parked
parked_alone settings s events x (took (FromEditor e body) m) k h = never k
parked_alone settings s events x (took (FromServer n body) m) k h = rw h refl
parked_alone settings s events x (took (StartFailed n) m) k h = rw h refl
parked_alone settings s events x (took (ServerGone n) m) k h = rw h refl
parked_alone settings s events x (did (ToEditor e body) m) k h = never k
parked_alone settings s events x (did (ToServer n body) m) k h = rw h refl
parked_alone settings s events x other k h = refl

pub asks_alone : (settings : Settings) (s : ℕ) (events : List Event) (ev : Event) → names_editor ev ≡ false → names_start s ev ≡ false → AsksStay settings s events ev
asks_alone settings s events ev k h = record { asks = open_alone settings s events (asking_of settings s events) ev k h; parked = parked_alone settings s events (asking_of settings s events) ev k h }

-- an editor that is asked nothing
unasked : (settings : Settings) (s e : ℕ) (body : List ℕ) (events : List Event) (x : Asking) (m : Message) → is_request m ≡ false → asking_next settings s events x (did (ToEditor e body) m) ≡ x
unasked settings s e body events x (request id method ps) h = never h
unasked settings s e body events x other h = refl

open_quiet : (settings : Settings) (s : ℕ) (events : List Event) (x : Asking) (ev : Event) → touches of_asks ev ≡ false → (asking_next settings s events x ev).asks ≡ x.asks
open_quiet settings s events x (took (FromEditor e body) m) h = unanswered e x.asks (answered_id m) h
open_quiet settings s events x (took (FromServer n body) m) h = go (nat_eq n s)
  where
    go : (b : Bool) → (if b then record { asker = asker_of body m; runs = None; asks = x.asks; parked = x.parked ++ parks settings s events x body m } else idle_asking x).asks ≡ x.asks
    go true = refl
    go false = refl
open_quiet settings s events x (took (StartFailed n) m) h = never h
open_quiet settings s events x (took (ServerGone n) m) h = never h
open_quiet settings s events x (did (ToEditor e body) m) h = ap (λ (w : Asking). w.asks) (unasked settings s e body events x m h)
open_quiet settings s events x (did (ToServer n body) m) h = go (nat_eq n s)
  where
    go : (b : Bool) → (told_asking (answered_id m) x b).asks ≡ x.asks
    go true = unhanded x.asks (answered_id m) h
    go false = refl
open_quiet settings s events x other h = refl

pub open_stay : (settings : Settings) (s : ℕ) (events : List Event) (ev : Event) → touches of_asks ev ≡ false → OpenStay settings s events ev
open_stay settings s events ev h = open_quiet settings s events (asking_of settings s events) ev h

parks_none : (settings : Settings) (s : ℕ) (events : List Event) (x : Asking) (body : List ℕ) (m : Message) → is_request m ≡ false → parks settings s events x body m ≡ []
parks_none settings s events x body (request id method ps) h = never h
parks_none settings s events x body other h = refl

parked_quiet : (settings : Settings) (s : ℕ) (events : List Event) (x : Asking) (ev : Event) → touches of_parked ev ≡ false → (asking_next settings s events x ev).parked ≡ x.parked
parked_quiet settings s events x (took (FromServer n body) m) h = go (nat_eq n s)
  where
    go : (b : Bool) → (if b then record { asker = asker_of body m; runs = None; asks = x.asks; parked = x.parked ++ parks settings s events x body m } else idle_asking x).parked ≡ x.parked
    go true = ap (λ ps. x.parked ++ ps) (parks_none settings s events x body m h) ∙ append-nil x.parked
    go false = refl
parked_quiet settings s events x (took (StartFailed n) m) h = never h
parked_quiet settings s events x (took (ServerGone n) m) h = never h
parked_quiet settings s events x (did (ToEditor e body) m) h = ap (λ (w : Asking). w.parked) (unasked settings s e body events x m h)
parked_quiet settings s events x (did (ToServer n body) m) h = go (nat_eq n s)
  where
    go : (b : Bool) → (told_asking (answered_id m) x b).parked ≡ x.parked
    go true = unwaited x.parked (answered_id m) h
    go false = refl
parked_quiet settings s events x other h = refl

either_open : (ev : Event) → touches of_parked ev ≡ false → touches of_asks ev ≡ false
either_open (took (FromEditor e body) m) h = h
either_open (took (StartFailed n) m) h = h
either_open (took (ServerGone n) m) h = h
either_open (did (ToEditor e body) m) h = h
either_open (did (ToServer n body) m) h = h
either_open other h = refl

pub asks_stay : (settings : Settings) (s : ℕ) (events : List Event) (ev : Event) → touches of_parked ev ≡ false → AsksStay settings s events ev
asks_stay settings s events ev h = record { asks = open_stay settings s events ev (either_open ev h); parked = parked_quiet settings s events (asking_of settings s events) ev h }

-- what is registered at a start
live_alone : (settings : Settings) (s : ℕ) (events : List Event) (live : List Registration) (ev : Event) → names_start s ev ≡ false → live_next settings s events live ev ≡ live
live_alone settings s events live (took (FromServer n body) (request id method ps)) h = rw h refl
live_alone settings s events live (took (StartFailed n) m) h = rw h refl
live_alone settings s events live (took (ServerGone n) m) h = rw h refl
live_alone settings s events live other h = refl

live_quiet : (settings : Settings) (s : ℕ) (events : List Event) (live : List Registration) (ev : Event) → touches of_live ev ≡ false → live_next settings s events live ev ≡ live
live_quiet settings s events live (took (FromServer n body) m) h = silent_live settings s n events live body m h
live_quiet settings s events live (took (StartFailed n) m) h = never h
live_quiet settings s events live (took (ServerGone n) m) h = never h
live_quiet settings s events live other h = refl

pub live_stay : (settings : Settings) (s : ℕ) (events : List Event) (ev : Event) → touches of_live ev ≡ false → LiveStay settings s events ev
live_stay settings s events ev h = live_quiet settings s events (live_of settings s events) ev h

-- its last lists
lists_alone : (s : ℕ) (events : List Event) (lists : List LastList) (ev : Event) → names_start s ev ≡ false → lists_next s events lists ev ≡ lists
lists_alone s events lists (took (FromServer n body) (notification method ps)) h = rw h refl
lists_alone s events lists (took (StartFailed n) m) h = rw h refl
lists_alone s events lists (took (ServerGone n) m) h = rw h refl
lists_alone s events lists other h = refl

lists_quiet : (s : ℕ) (events : List Event) (lists : List LastList) (ev : Event) → touches of_lists ev ≡ false → lists_next s events lists ev ≡ lists
lists_quiet s events lists (took (FromServer n body) m) h = silent_lists s n events lists body m h
lists_quiet s events lists (took (StartFailed n) m) h = never h
lists_quiet s events lists (took (ServerGone n) m) h = never h
lists_quiet s events lists other h = refl

pub lists_stay : (s : ℕ) (events : List Event) (ev : Event) → touches of_lists ev ≡ false → ListsStay s events ev
lists_stay s events ev h = lists_quiet s events (lists_of s events) ev h

-- an event of another start, and an event of another kind
ids_by : (settings : Settings) (limit s : ℕ) (t : Table) (events : List Event) (ev : Event) → SameForwarding (forwarding_next settings s events (forwarding_of settings s events) ev) (forwarding_of settings s events) → IdsStand settings limit s t events → IdsStand settings limit s t (events ++ ev ∷ [])
ids_by settings limit s t events ev same i = subst (λ x. IdsAt limit x t) (sym (forwarding_more settings s events ev)) (record { next = same.next ∙ i.next; open_requests = same.open_requests ∙ i.open_requests; ends = i.ends; order = i.order })

shown_by : (settings : Settings) (limit : ℕ) (x : Start) (events : List Event) (ev : Event) → result_behind x.life.start (result_of x.life.start events) ev ≡ result_of x.life.start events → PartStands of_shown settings limit x events → PartStands of_shown settings limit x (events ++ ev ∷ [])
shown_by settings limit x events ev same s = subst (λ o. ShownAt x.life.stage x.shown o) (sym (one_more (result_behind x.life.start) _ _ events ev refl ∙ same)) s

pub part_apart : (p : Part) (settings : Settings) (limit : ℕ) (x : Start) (events : List Event) (ev : Event) → names_start x.life.start ev ≡ false → AsksStay settings x.life.start events ev → PartStands p settings limit x events → PartStands p settings limit x (events ++ ev ∷ [])
part_apart of_life settings limit x events ev h a s = one_more (life_behind x.life.start) _ _ events ev s ∙ life_alone x.life.start _ ev h
part_apart of_ids settings limit x events ev h a s = ids_by settings limit x.life.start x.ids events ev (forwarding_alone settings x.life.start events (forwarding_of settings x.life.start events) ev h) s
part_apart of_shown settings limit x events ev h a s = shown_by settings limit x events ev (result_alone x.life.start (result_of x.life.start events) ev h) s
part_apart of_stop settings limit x events ev h a s = stop_by settings limit x events ev (stop_alone x.life.start events (stop_of x.life.start events) ev h) s
part_apart of_asks settings limit x events ev h a s = asks_by settings limit x events ev a.asks s
part_apart of_parked settings limit x events ev h a s = parked_by settings limit x events ev a s
part_apart of_live settings limit x events ev h a s = live_by_stay settings limit x events ev (live_alone settings x.life.start events (live_of settings x.life.start events) ev h) s
part_apart of_lists settings limit x events ev h a s = lists_by_stay settings limit x events ev (lists_alone x.life.start events (lists_of x.life.start events) ev h) s

pub part_quiet : (p : Part) (settings : Settings) (limit : ℕ) (x : Start) (events : List Event) (ev : Event) → touches p ev ≡ false → PartStands p settings limit x events → PartStands p settings limit x (events ++ ev ∷ [])
part_quiet of_life settings limit x events ev h s = one_more (life_behind x.life.start) _ _ events ev s ∙ life_quiet x.life.start _ ev h
part_quiet of_ids settings limit x events ev h s = ids_by settings limit x.life.start x.ids events ev (forwarding_quiet settings x.life.start events (forwarding_of settings x.life.start events) ev h) s
part_quiet of_shown settings limit x events ev h s = shown_by settings limit x events ev (result_quiet x.life.start (result_of x.life.start events) ev h) s
part_quiet of_stop settings limit x events ev h s = stop_by settings limit x events ev (stop_quiet x.life.start events (stop_of x.life.start events) ev h) s
part_quiet of_asks settings limit x events ev h s = asks_by settings limit x events ev (open_stay settings x.life.start events ev h) s
part_quiet of_parked settings limit x events ev h s = parked_by settings limit x events ev (asks_stay settings x.life.start events ev h) s
part_quiet of_live settings limit x events ev h s = live_by_stay settings limit x events ev (live_stay settings x.life.start events ev h) s
part_quiet of_lists settings limit x events ev h s = lists_by_stay settings limit x events ev (lists_stay x.life.start events ev h) s

-- the last start of a group, where the event doesn't name it, and no start is spawned for the group
pub last_stands : (settings : Settings) (limit : ℕ) (events : List Event) (ev : Event) (g : ℕ) (x : Start) → names_start x.life.start ev ≡ false → AsksStay settings x.life.start events ev → ((o : Option ℕ) → start_behind g o ev ≡ o) → LastStands settings limit events g x → LastStands settings limit (events ++ ev ∷ []) g x
last_stands settings limit events ev g x h a k s = record {
  start = one_more (start_behind g) _ _ events ev s.start ∙ k _;
  home = one_more (group_behind x.life.start) _ _ events ev s.home ∙ group_apart x.life.start _ ev h;
  own = s.own;
  parts = λ p. part_apart p settings limit x events ev h a (s.parts p);
}
