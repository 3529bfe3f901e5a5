-- The last start of one group moves, as the code has it.
use Rattle.std.proofs.Common.{◌≡◌, ℕ, zero, suc, ◌<◌, Bool, true, false, List, [], ◌∷◌, ◌++◌, map, length, get_or, refl, ap, sym, subst, ◌∙◌, arith, nat_eq, ◌&&◌}
use Rattle.std.specs.Prelude.{Option, Some, None, slice_get, slice_set}
use Rattle.std.proofs.lemmas.Option.{slice_get_read}
use Rattle.mux_history.specs.declared.cause.Cause.TheVariants.{FromServer}
use Rattle.rpc_message.specs.Message.{Message}
use Rattle.event_model.specs.declared.stage.Stage.{Stage}
use Rattle.event_model.specs.declared.stage.Stage.TheVariants.{Unspawned, Spawning, Initializing, Ready, Stopping, Ending, Ended}
use Rattle.event_model.specs.Event.{Event, took}
use Rattle.event_model.specs.Settings.{Settings}
use Rattle.event_model.specs.Stages.{life_behind, life_of, is_initializing}
use Rattle.event_model.proofs.Frames.{never, one_more}
use Rattle.event_model.proofs.Places.{same_item}
use Rattle.group_words.specs.Houses.{is_first_error}
use Rattle.group_words.specs.Rows.{result_behind, result_of}
use Rattle.group_words.proofs.Frames.{groups_more}
use Rattle.group_table.specs.Tables as group_tables
use Rattle.restart_replay.specs.Standings.{Standing}
use Rattle.mux_tables.specs.declared.tables.Start.{Start}
use Rattle.mux_tables.specs.declared.tables.Tables.{Tables}
use Rattle.group_laws.specs.group_rows.specs.Forwarded.{forwarding_next, forwarding_of}
use Rattle.group_laws.specs.group_rows.specs.Ticks.{is_stopping, stop_of}
use Rattle.ask_route.specs.declared.ask.Ask as route
use Rattle.group_laws.specs.group_rows.specs.Asks.{Ask, Parked, asks_of, parked_of}
use Rattle.diagnostics_route.specs.declared.last_list.LastList.{LastList}
use Rattle.group_laws.specs.group_rows.specs.Lists.{lists_of}
use Rattle.group_laws.specs.group_rows.specs.Live.{live_of}
use Rattle.group_laws.specs.registrations.specs.declared.registration.Registration.{Registration}
use Rattle.mux_tables.specs.Refusals.{asks_in}
use Rattle.mux_tables.specs.Stands.{AsksAt, GroupsStand, IdsAt, IdsStand, Part, of_life, of_ids, of_shown, of_stop, of_asks, of_parked, of_live, of_lists, ListsAt, LiveAt, ParkedAt, PartStands, ShownAt, StopAt, Stands, house_in, number_in, stage_in}
use Rattle.mux_tables.proofs.Frames.{names_start, names_editor, spawns, ticks, touches, part_quiet}
use Rattle.mux_tables.proofs.IdMoves.{ids_more}
use Rattle.mux_tables.proofs.TokenMoves.{KeptMove}
use Rattle.mux_tables.proofs.Moves.{parts_move}
use Rattle.mux_tables.proofs.Awaited.{StopsMove}

pub read_here : (xs : List Start) (g : ℕ) (z : Start) → g < length xs → z ≡ get_or xs g z → slice_get xs g ≡ Some z
read_here xs g z within read = slice_get_read xs (length xs) g z refl within read

pub read_back : (xs : List Start) (g : ℕ) (z : Start) → slice_get xs g ≡ Some z → z ≡ get_or xs g z
read_back [] g z h = refl
read_back (x ∷ xs) zero z h = sym (same_item h)
read_back (x ∷ xs) (suc g) z h = read_back xs g z h

pub read_same : (xs : List Start) (g : ℕ) (z x : Start) → g < length xs → z ≡ get_or xs g z → slice_get xs g ≡ Some x → z ≡ x
read_same xs g z x within read at = same_item (sym (read_here xs g z within read) ∙ at)

pub start_at_place : (xs : List Start) (g s : ℕ) (z : Start) → slice_get xs g ≡ Some z → slice_get (map number_in xs) g ≡ Some s → z.life.start ≡ s
start_at_place [] g s z h k = absurd (none z h)
  where
    none : (z : Start) → ◌≡◌ {A = Option Start} None (Some z) → ⊥
    none z h = cc
start_at_place (x ∷ xs) zero s z h k = ap number_in (sym (same_item h)) ∙ same_item k
start_at_place (x ∷ xs) (suc g) s z h k = start_at_place xs g s z h k

pub start_there : (xs : List Start) (g : ℕ) → g < length xs → (s : ℕ) × (slice_get (map number_in xs) g ≡ Some s)
start_there [] g h = absurd (omega arith)
start_there (x ∷ xs) zero h = (x.life.start, refl)
start_there (x ∷ xs) (suc g) h = start_there xs g (omega arith)

pub starts_stay : (xs : List Start) (g : ℕ) (z y : Start) → g < length xs → z ≡ get_or xs g z → y.life.start ≡ z.life.start → map number_in (slice_set xs g y) ≡ map number_in xs
starts_stay [] g z y h e k = absurd (omega arith)
starts_stay (x ∷ xs) zero z y h e k = ap (λ n. n ∷ map number_in xs) (k ∙ ap number_in e)
starts_stay (x ∷ xs) (suc g) z y h e k = ap (λ ns. x.life.start ∷ ns) (starts_stay xs g z y (omega arith) e k)

pub stages_stay : (xs : List Start) (g : ℕ) (z y : Start) → g < length xs → z ≡ get_or xs g z → y.life.stage ≡ z.life.stage → map stage_in (slice_set xs g y) ≡ map stage_in xs
stages_stay [] g z y h e k = absurd (omega arith)
stages_stay (x ∷ xs) zero z y h e k = ap (λ n. n ∷ map stage_in xs) (k ∙ ap stage_in e)
stages_stay (x ∷ xs) (suc g) z y h e k = ap (λ ns. x.life.stage ∷ ns) (stages_stay xs g z y (omega arith) e k)

pub asks_kept : (xs : List Start) (g : ℕ) (z y : Start) → g < length xs → z ≡ get_or xs g z → y.asks ≡ z.asks → map asks_in (slice_set xs g y) ≡ map asks_in xs
asks_kept [] g z y h e k = absurd (omega arith)
asks_kept (x ∷ xs) zero z y h e k = ap (λ n. n ∷ map asks_in xs) (k ∙ ap asks_in e)
asks_kept (x ∷ xs) (suc g) z y h e k = ap (λ ns. x.asks ∷ ns) (asks_kept xs g z y (omega arith) e k)

pub houses_stay : (xs : List Start) (g : ℕ) (z y : Start) → g < length xs → z ≡ get_or xs g z → y.life.group ≡ z.life.group → map house_in (slice_set xs g y) ≡ map house_in xs
houses_stay [] g z y h e k = absurd (omega arith)
houses_stay (x ∷ xs) zero z y h e k = ap (λ n. n ∷ map house_in xs) (k ∙ ap house_in e)
houses_stay (x ∷ xs) (suc g) z y h e k = ap (λ ns. x.life.group ∷ ns) (houses_stay xs g z y (omega arith) e k)

-- its stage goes on
pub part_life : (settings : Settings) (limit : ℕ) (events : List Event) (ev : Event) (x y : Start) → y.life.start ≡ x.life.start → life_behind x.life.start (record { stage = x.life.stage; started = x.started }) ev ≡ record { stage = y.life.stage; started = y.started }
    → PartStands of_life settings limit x events → PartStands of_life settings limit y (events ++ ev ∷ [])
part_life settings limit events ev x y own step s = subst (λ n. life_of n (events ++ ev ∷ []) ≡ record { stage = y.life.stage; started = y.started }) (sym own) (one_more (life_behind x.life.start) _ _ events ev s ∙ step)

-- its open requests go on
pub part_ids : (settings : Settings) (limit : ℕ) (events : List Event) (ev : Event) (x y : Start) → y.life.start ≡ x.life.start → (IdsAt limit (forwarding_of settings x.life.start events) x.ids → IdsAt limit (forwarding_next settings x.life.start events (forwarding_of settings x.life.start events) ev) y.ids)
    → PartStands of_ids settings limit x events → PartStands of_ids settings limit y (events ++ ev ∷ [])
part_ids settings limit events ev x y own go s = subst (λ n. IdsStand settings limit n y.ids (events ++ ev ∷ [])) (sym own) (ids_more settings limit x.life.start x.ids y.ids events ev go s)

-- what editors are shown goes on
pub part_shown : (settings : Settings) (limit : ℕ) (events : List Event) (ev : Event) (x y : Start) → y.life.start ≡ x.life.start → (ShownAt x.life.stage x.shown (result_of x.life.start events) → ShownAt y.life.stage y.shown (result_behind x.life.start (result_of x.life.start events) ev))
    → PartStands of_shown settings limit x events → PartStands of_shown settings limit y (events ++ ev ∷ [])
part_shown settings limit events ev x y own go s = subst (λ n. ShownAt y.life.stage y.shown (result_of n (events ++ ev ∷ []))) (sym own)
    (subst (λ o. ShownAt y.life.stage y.shown o) (sym (one_more (result_behind x.life.start) _ _ events ev refl)) (go s))

-- a part that the event doesn't touch, where the table keeps it
pub still_life : (settings : Settings) (limit : ℕ) (events : List Event) (ev : Event) (x y : Start) → y.life ≡ x.life → y.started ≡ x.started → touches of_life ev ≡ false → PartStands of_life settings limit x events → PartStands of_life settings limit y (events ++ ev ∷ [])
still_life settings limit events ev x y l b q s =
    subst (λ c. life_of y.life.start (events ++ ev ∷ []) ≡ record { stage = y.life.stage; started = c }) (sym b)
    (subst (λ (z : Standing). life_of z.start (events ++ ev ∷ []) ≡ record { stage = z.stage; started = x.started }) (sym l) (part_quiet of_life settings limit x events ev q s))

pub still_ids : (settings : Settings) (limit : ℕ) (events : List Event) (ev : Event) (x y : Start) → y.life.start ≡ x.life.start → y.ids ≡ x.ids → touches of_ids ev ≡ false → PartStands of_ids settings limit x events → PartStands of_ids settings limit y (events ++ ev ∷ [])
still_ids settings limit events ev x y own i q s =
    subst (λ n. IdsStand settings limit n y.ids (events ++ ev ∷ [])) (sym own) (subst (λ ids. IdsStand settings limit x.life.start ids (events ++ ev ∷ [])) (sym i) (part_quiet of_ids settings limit x events ev q s))

pub still_shown : (settings : Settings) (limit : ℕ) (events : List Event) (ev : Event) (x y : Start) → y.life ≡ x.life → y.shown ≡ x.shown → touches of_shown ev ≡ false → PartStands of_shown settings limit x events → PartStands of_shown settings limit y (events ++ ev ∷ [])
still_shown settings limit events ev x y l b q s =
    subst (λ c. ShownAt y.life.stage c (result_of y.life.start (events ++ ev ∷ []))) (sym b)
    (subst (λ (z : Standing). ShownAt z.stage x.shown (result_of z.start (events ++ ev ∷ []))) (sym l) (part_quiet of_shown settings limit x events ev q s))

pub still_stop : (settings : Settings) (limit : ℕ) (events : List Event) (ev : Event) (x y : Start) → y.life ≡ x.life → touches of_stop ev ≡ false → PartStands of_stop settings limit x events → PartStands of_stop settings limit y (events ++ ev ∷ [])
still_stop settings limit events ev x y l q s = subst (λ (z : Standing). StopAt z.stage z.stopping (stop_of z.start (events ++ ev ∷ []))) (sym l) (part_quiet of_stop settings limit x events ev q s)

pub still_asks : (settings : Settings) (limit : ℕ) (events : List Event) (ev : Event) (x y : Start) → y.life ≡ x.life → y.asks ≡ x.asks → touches of_asks ev ≡ false → PartStands of_asks settings limit x events → PartStands of_asks settings limit y (events ++ ev ∷ [])
still_asks settings limit events ev x y l k q s =
    subst (λ qs. AsksAt y.life.stage (events ++ ev ∷ []) (asks_of settings y.life.start (events ++ ev ∷ [])) qs) (sym k)
    (subst (λ (z : Standing). AsksAt z.stage (events ++ ev ∷ []) (asks_of settings z.start (events ++ ev ∷ [])) x.asks) (sym l) (part_quiet of_asks settings limit x events ev q s))

pub still_parked : (settings : Settings) (limit : ℕ) (events : List Event) (ev : Event) (x y : Start) → y.life ≡ x.life → y.parked ≡ x.parked → touches of_parked ev ≡ false → PartStands of_parked settings limit x events → PartStands of_parked settings limit y (events ++ ev ∷ [])
still_parked settings limit events ev x y l k q s =
    subst (λ ks. ParkedAt y.life.stage (asks_of settings y.life.start (events ++ ev ∷ [])) (parked_of settings y.life.start (events ++ ev ∷ [])) ks) (sym k)
    (subst (λ (z : Standing). ParkedAt z.stage (asks_of settings z.start (events ++ ev ∷ [])) (parked_of settings z.start (events ++ ev ∷ [])) x.parked) (sym l) (part_quiet of_parked settings limit x events ev q s))

pub still_live : (settings : Settings) (limit : ℕ) (events : List Event) (ev : Event) (x y : Start) → y.life ≡ x.life → y.live ≡ x.live → touches of_live ev ≡ false → PartStands of_live settings limit x events → PartStands of_live settings limit y (events ++ ev ∷ [])
still_live settings limit events ev x y l k q s =
    subst (λ ks. LiveAt y.life.stage (live_of settings y.life.start (events ++ ev ∷ [])) ks) (sym k)
    (subst (λ (z : Standing). LiveAt z.stage (live_of settings z.start (events ++ ev ∷ [])) x.live) (sym l) (part_quiet of_live settings limit x events ev q s))

pub still_lists : (settings : Settings) (limit : ℕ) (events : List Event) (ev : Event) (x y : Start) → y.life ≡ x.life → y.lists ≡ x.lists → touches of_lists ev ≡ false → PartStands of_lists settings limit x events → PartStands of_lists settings limit y (events ++ ev ∷ [])
still_lists settings limit events ev x y l k q s =
    subst (λ (kept : List LastList). ListsAt y.life.stage (lists_of y.life.start (events ++ ev ∷ [])) kept) (sym k)
    (subst (λ (z : Standing). ListsAt z.stage (lists_of z.start (events ++ ev ∷ [])) x.lists) (sym l) (part_quiet of_lists settings limit x events ev q s))

-- one whose answer to `shutdown` isn't awaited
stop_at : (stage : Stage) (kept : Option (ℕ × ℕ)) (since : Option ℕ) → is_stopping stage ≡ false → StopAt stage kept since
stop_at Stopping kept since h = never h
stop_at other kept since h = tt

pub no_stop : (settings : Settings) (limit : ℕ) (events : List Event) (y : Start) → is_stopping y.life.stage ≡ false → PartStands of_stop settings limit y events
no_stop settings limit events y h = stop_at y.life.stage y.life.stopping (stop_of y.life.start events) h

-- nothing is kept of one that is over, or is to be
abbrev pub is_late : Stage → Bool
is_late Stopping = true
is_late Ending = true
is_late Ended = true
is_late _ = false

shown_late : (stage : Stage) (shown given : Option (List ℕ)) → is_late stage ≡ true → ShownAt stage shown given
shown_late Stopping shown given h = tt
shown_late Ending shown given h = tt
shown_late Ended shown given h = tt
shown_late Unspawned shown given h = never (sym h)
shown_late Spawning shown given h = never (sym h)
shown_late Initializing shown given h = never (sym h)
shown_late Ready shown given h = never (sym h)

pub late_shown : (settings : Settings) (limit : ℕ) (events : List Event) (y : Start) → is_late y.life.stage ≡ true → PartStands of_shown settings limit y events
late_shown settings limit events y h = shown_late y.life.stage y.shown (result_of y.life.start events) h

asks_late : (stage : Stage) (events : List Event) (asked : List Ask) (kept : List route.Ask) → is_late stage ≡ true → AsksAt stage events asked kept
asks_late Stopping events asked kept h = tt
asks_late Ending events asked kept h = tt
asks_late Ended events asked kept h = tt
asks_late Unspawned events asked kept h = never (sym h)
asks_late Spawning events asked kept h = never (sym h)
asks_late Initializing events asked kept h = never (sym h)
asks_late Ready events asked kept h = never (sym h)

pub late_asks : (settings : Settings) (limit : ℕ) (events : List Event) (y : Start) → is_late y.life.stage ≡ true → PartStands of_asks settings limit y events
late_asks settings limit events y h = asks_late y.life.stage events (asks_of settings y.life.start events) y.asks h

parked_late : (stage : Stage) (asked : List Ask) (waiting : List Parked) (kept : List route.Ask) → is_late stage ≡ true → ParkedAt stage asked waiting kept
parked_late Stopping asked waiting kept h = tt
parked_late Ending asked waiting kept h = tt
parked_late Ended asked waiting kept h = tt
parked_late Unspawned asked waiting kept h = never (sym h)
parked_late Spawning asked waiting kept h = never (sym h)
parked_late Initializing asked waiting kept h = never (sym h)
parked_late Ready asked waiting kept h = never (sym h)

pub late_parked : (settings : Settings) (limit : ℕ) (events : List Event) (y : Start) → is_late y.life.stage ≡ true → PartStands of_parked settings limit y events
late_parked settings limit events y h = parked_late y.life.stage (asks_of settings y.life.start events) (parked_of settings y.life.start events) y.parked h

live_late : (stage : Stage) (live kept : List Registration) → is_late stage ≡ true → LiveAt stage live kept
live_late Stopping live kept h = tt
live_late Ending live kept h = tt
live_late Ended live kept h = tt
live_late Unspawned live kept h = never (sym h)
live_late Spawning live kept h = never (sym h)
live_late Initializing live kept h = never (sym h)
live_late Ready live kept h = never (sym h)

pub late_live : (settings : Settings) (limit : ℕ) (events : List Event) (y : Start) → is_late y.life.stage ≡ true → PartStands of_live settings limit y events
late_live settings limit events y h = live_late y.life.stage (live_of settings y.life.start events) y.live h

lists_late : (stage : Stage) (lists kept : List LastList) → is_late stage ≡ true → ListsAt stage lists kept
lists_late Stopping lists kept h = tt
lists_late Ending lists kept h = tt
lists_late Ended lists kept h = tt
lists_late Unspawned lists kept h = never (sym h)
lists_late Spawning lists kept h = never (sym h)
lists_late Initializing lists kept h = never (sym h)
lists_late Ready lists kept h = never (sym h)

pub late_lists : (settings : Settings) (limit : ℕ) (events : List Event) (y : Start) → is_late y.life.stage ≡ true → PartStands of_lists settings limit y events
late_lists settings limit events y h = lists_late y.life.stage (lists_of y.life.start events) y.lists h

-- the event `ev n` names start n alone, and start s is the last one of group g, which goes from z to y
module _ (settings : Settings) (t u : Tables) (events : List Event) (ev : ℕ → Event) (g s : ℕ) (z y : Start) (at : slice_get (map number_in t.lasts.items) g ≡ Some s) (within : g < length t.lasts.items) (read : z ≡ get_or t.lasts.items g z)
    (set : u.lasts.items ≡ slice_set t.lasts.items g y) (own : y.life.start ≡ z.life.start) (group : y.life.group ≡ z.life.group) (es : u.editors ≡ t.editors) (now : u.course ≡ t.course) (os : u.origins.groups ≡ t.origins.groups) (r : u.requests ≡ t.requests)
    (e : (n : ℕ) → names_editor (ev n) ≡ false) (w : (n : ℕ) → ticks (ev n) ≡ false) (k : (n : ℕ) → spawns (ev n) ≡ false) (one : (n m : ℕ) → names_start m (ev n) ≡ nat_eq n m) where
  pub start_moves : ((n : ℕ) → n ≡ s → GroupsStand settings t.groups events → GroupsStand settings u.groups (events ++ ev n ∷ [])) → ((n : ℕ) → n ≡ s → StopsMove t u events (ev n)) → ((n : ℕ) → n ≡ s → KeptMove settings t u events (ev n)) → ((p : Part) → PartStands p settings t.requests z events → PartStands p settings t.requests y (events ++ ev z.life.start ∷ []))
      → Stands settings t events → Stands settings u (events ++ ev s ∷ [])
  start_moves groups stops tokens parts st =
      let here : slice_get t.lasts.items g ≡ Some z = read_here t.lasts.items g z within read in
      let is : z.life.start ≡ s = start_at_place t.lasts.items g s z here at in
      subst (λ n. Stands settings u (events ++ ev n ∷ [])) is
      (parts_move settings t u events (ev z.life.start) g z (e z.life.start) (groups z.life.start is) (w z.life.start) (k z.life.start) (one z.life.start) here es now os (stops z.life.start is) (tokens z.life.start is) r y own group set parts st)

-- what a start says doesn't end its group, where it isn't answering its `initialize`
pub not_refused : (settings : Settings) (t : group_tables.Table) (events : List Event) (n : ℕ) (body : List ℕ) (m : Message) → (is_first_error m && is_initializing (life_of n events).stage) ≡ false → GroupsStand settings t events → GroupsStand settings t (events ++ took (FromServer n body) m ∷ [])
not_refused settings t events n body m stays s = record { groups = groups_more settings events (took (FromServer n body) m) ∙ (rw stays refl ∙ s.groups); limit = s.limit; idle = s.idle }

-- groups that stay, where the event doesn't speak of them
pub groups_kept : (settings : Settings) (t u : group_tables.Table) (events : List Event) (ev : Event) → u ≡ t → (GroupsStand settings t events → GroupsStand settings t (events ++ ev ∷ [])) → GroupsStand settings t events → GroupsStand settings u (events ++ ev ∷ [])
groups_kept settings t u events ev e go s = subst (λ g. GroupsStand settings g (events ++ ev ∷ [])) (sym e) (go s)
