-- What the tables do when a cause about a start comes, as the code has it.
use Rattle.std.proofs.Common.{◌≡◌, ℕ, ◌<◌, ◌^◌, Bool, true, false, not, ◌&&◌, List, [], ◌∷◌, ◌++◌, map, length, get_or, refl, ap, sym, subst, ◌∙◌, nat_eq}
use Rattle.std.specs.Prelude.{Option, Some, None, MatchOption, slice_get, slice_set, find, option_map}
use Rattle.mux_history.specs.declared.cause.Cause.TheVariants.{FromServer, ServerGone, StartFailed, Started}
use Rattle.rpc_message.specs.Message.{Message, request, notification, result, error, not_json, not_message, message_of, result_bytes}
use Rattle.event_model.specs.declared.stage.Stage.{Stage}
use Rattle.event_model.specs.declared.stage.Stage.TheVariants.{Unspawned, Spawning, Initializing, Ready, Stopping, Ending, Ended}
use Rattle.event_model.specs.Event.{Event, took}
use Rattle.event_model.specs.Requests.{answered_id}
use Rattle.event_model.specs.Settings.{Settings}
use Rattle.event_model.specs.Spawns.{group_of}
use Rattle.event_model.specs.Stages.{Life, life_behind, is_first_result, life_of, stage_hears, stage_started, is_initializing}
use Rattle.event_model.proofs.Frames.{never}
use Rattle.event_model.proofs.Places.{item_at, same_item}
use Rattle.group_table.specs.Tables.{with_groups}
use Rattle.group_words.specs.Placing.{changed, ended}
use Rattle.group_words.specs.Houses.{House, groups_lose, groups_next, is_first_error}
use Rattle.group_words.specs.Rows.{result_behind, result_of, shown_of}
use Rattle.id_rewrite.specs.declared.pending.Pending.{Pending}
use Rattle.id_rewrite.specs.declared.pending.Numbered.{Numbered}
use Rattle.id_rewrite.specs.Tables.{Table, IsInOrder, pending_of, without}
use Rattle.restart_replay.specs.Standings.{Standing, moved}
use Rattle.group_laws.specs.group_rows.specs.Ticks.{is_stopping, stop_of}
use Rattle.mux_tables.specs.declared.tables.Start.{Start}
use Rattle.mux_tables.specs.declared.tables.Tables.{Tables}
use Rattle.ask_route.specs.declared.ask.Ask as route
use Rattle.group_laws.specs.group_rows.specs.Forwarded.{Forwarding, forwarding_next, forwarding_of, is_under}
use Rattle.group_laws.specs.group_rows.specs.Asks.{Ask, asks_of, parked_of}
use Rattle.diagnostics_route.specs.declared.last_list.LastList.{LastList}
use Rattle.group_laws.specs.group_rows.specs.Lists.{lists_of}
use Rattle.group_laws.specs.group_rows.specs.Live.{live_of}
use Rattle.group_laws.specs.registrations.specs.declared.registration.Registration.{Registration}
use Rattle.mux_tables.specs.Stands.{AsksAt, Exits, IdsAt, NamesAt, Part, of_life, of_ids, of_shown, of_stop, of_asks, of_parked, of_live, of_lists, ListsAt, ListsStay, LiveAt, LiveStay, ParkedAt, ParkedStay, PartStands, ShownAt, Stands, StopAt, begun_at, forwarded_as, is_early, is_request, number_in, unstopped}
use Rattle.mux_tables.proofs.Asking.{begun_asks, begun_parked, first_asks, first_parked, parked_by}
use Rattle.mux_tables.proofs.Exits.{lost_groups, refused_groups}
use Rattle.mux_tables.proofs.Frames.{itself, groups_stand, names_editor, names_start, open_stay, part_quiet, result_quiet, spawns, stop_more, ticks}
use Rattle.mux_tables.proofs.IdMoves.{answered_ids, ended_ids, failed_ids, unanswered_ids, found_seen}
use Rattle.mux_tokens.specs.progress_route.specs.Tables.{less}
use Rattle.mux_tokens.specs.Rows.{Rows}
use Rattle.mux_tokens.specs.Stands.{CreatedStand}
use Rattle.mux_tokens.proofs.Rows.{num_back}
use Rattle.mux_tokens.proofs.Standing.{over_moves as ended_tokens}
use Rattle.mux_tokens.proofs.Stays.{passes_by, passes_stay}
use Rattle.group_laws.specs.group_rows.specs.Created.{Created, created_next, created_of, no_created}
use Rattle.mux_tables.proofs.TokenMoves.{CreatedMove, KeptMove, OriginsMove, first_error_tokens, first_result_tokens, origins_stay, same_created, same_waits}
use Rattle.mux_tables.proofs.Publishing.{begun_lists, error_tells, first_lists, lists_by_stay, result_tells}
use Rattle.mux_tables.proofs.Registering.{begun_live, first_live, live_by_stay}
use Rattle.mux_tables.proofs.Starts.{groups_kept, is_late, late_asks, late_lists, late_live, late_parked, late_shown, no_stop, not_refused, part_ids, part_life, part_shown, read_back, read_here, start_at_place, start_moves, still_asks, still_ids, still_lists, still_live, still_parked, still_shown, still_stop}
use Rattle.mux_tables.proofs.Awaited.{StopsMove, hears_same, same_either, started_same, stopping_less, stops_kept}
use Rattle.mux_waits.proofs.Moves.{quiet_waits}
use Rattle.group_laws.specs.group_rows.proofs.Frames.{touches_waiting}

-- the program runs
pub begun_start : (g : Stage) (l : Standing) → (begun_at g l).start ≡ l.start
begun_start Spawning l = refl
begun_start other l = refl

begun_group : (g : Stage) (l : Standing) → (begun_at g l).group ≡ l.group
begun_group Spawning l = refl
begun_group other l = refl

begun_stage : (g : Stage) (l : Standing) → l.stage ≡ g → stage_started g ≡ (begun_at g l).stage
begun_stage Spawning l h = refl
begun_stage Unspawned l h = sym h
begun_stage Initializing l h = sym h
begun_stage Ready l h = sym h
begun_stage Stopping l h = sym h
begun_stage Ending l h = sym h
begun_stage Ended l h = sym h

begun_shown : (g : Stage) (l : Standing) (shown given : Option (List ℕ)) → l.stage ≡ g → ShownAt g shown given → ShownAt (begun_at g l).stage shown given
begun_shown Spawning l shown given h s = s
begun_shown Unspawned l shown given h s = rw h s
begun_shown Initializing l shown given h s = rw h s
begun_shown Ready l shown given h s = rw h s
begun_shown Stopping l shown given h s = rw h s
begun_shown Ending l shown given h s = rw h s
begun_shown Ended l shown given h s = rw h s

begun_stop : (g : Stage) (l : Standing) (since : ℕ → Option ℕ) → l.stage ≡ g → StopAt l.stage l.stopping (since l.start) → StopAt (begun_at g l).stage (begun_at g l).stopping (since (begun_at g l).start)
begun_stop Spawning l since h s = tt
begun_stop Unspawned l since h s = s
begun_stop Initializing l since h s = s
begun_stop Ready l since h s = s
begun_stop Stopping l since h s = s
begun_stop Ending l since h s = s
begun_stop Ended l since h s = s

pub started_moves : (settings : Settings) (t u : Tables) (events : List Event) (g s : ℕ) (z : Start) (life : Standing) → slice_get (map number_in t.lasts.items) g ≡ Some s → g < length t.lasts.items → z ≡ get_or t.lasts.items g z → life ≡ begun_at z.life.stage z.life
    → u.lasts.items ≡ slice_set t.lasts.items g (record z { life = life; started = true }) → u.editors ≡ t.editors → u.groups ≡ t.groups → u.course ≡ t.course → u.origins ≡ t.origins → u.requests ≡ t.requests
    → Stands settings t events → Stands settings u (events ++ took (Started s) not_message ∷ [])
started_moves settings t u events g s z life at within read is set es gs now os r =
    let y : Start = record z { life = life; started = true } in
    let own : life.start ≡ z.life.start = ap (λ (l : Standing). l.start) is ∙ begun_start z.life.stage z.life in
    start_moves settings t u events (λ n. took (Started n) not_message) g s z y at within read set own (ap (λ (l : Standing). l.group) is ∙ begun_group z.life.stage z.life) es now (ap (λ v. v.groups) os) r (λ n. refl) (λ n. refl) (λ n. refl) (λ n m. refl)
    (λ n _ h. groups_kept settings t.groups u.groups events (took (Started n) not_message) gs (groups_stand settings t.groups events (took (Started n) not_message) refl) h)
    (λ n _. stops_kept t u events (took (Started n) not_message) (ap (λ v. v.stopping) os) refl
    (λ m. same_either (nat_eq n m) (record { stage = stage_started (life_of m events).stage; started = true }) (life_of m events) (started_same (life_of m events).stage))) (λ n _. record { created = same_created settings t u events (took (Started n) not_message) (ap (λ v. v.created) os) (λ m. refl); waiting = same_waits settings t.origins u.origins events (took (Started n) not_message) (ap (λ v. v.waiting) os) (λ rows. quiet_waits settings rows events (took (Started n) not_message) refl) }) (part own)
  where
    part : life.start ≡ z.life.start → (p : Part) → PartStands p settings t.requests z events → PartStands p settings t.requests (record z { life = life; started = true }) (events ++ took (Started z.life.start) not_message ∷ [])
    part own of_life h = part_life settings t.requests events (took (Started z.life.start) not_message) z (record z { life = life; started = true }) own
        (rw (itself z.life.start) (ap (λ k. record { stage = k; started = true }) (begun_stage z.life.stage z.life refl ∙ ap (λ (l : Standing). l.stage) (sym is)))) h
    part own of_ids h = still_ids settings t.requests events (took (Started z.life.start) not_message) z (record z { life = life; started = true }) own refl refl h
    part own of_shown h = part_shown settings t.requests events (took (Started z.life.start) not_message) z (record z { life = life; started = true }) own
        (λ s. subst (λ (l : Standing). ShownAt l.stage z.shown (result_behind z.life.start (result_of z.life.start events) (took (Started z.life.start) not_message))) (sym is)
        (begun_shown z.life.stage z.life z.shown _ refl (subst (λ o. ShownAt z.life.stage z.shown o) (sym (result_quiet z.life.start (result_of z.life.start events) (took (Started z.life.start) not_message) refl)) s))) h
    part own of_stop h = subst (λ (l : Standing). StopAt l.stage l.stopping (stop_of l.start (events ++ took (Started z.life.start) not_message ∷ []))) (sym is)
        (begun_stop z.life.stage z.life (λ n. stop_of n (events ++ took (Started z.life.start) not_message ∷ [])) refl (part_quiet of_stop settings t.requests z events (took (Started z.life.start) not_message) refl h))
    part own of_asks h = subst (λ (l : Standing). AsksAt l.stage (events ++ took (Started z.life.start) not_message ∷ []) (asks_of settings l.start (events ++ took (Started z.life.start) not_message ∷ [])) z.asks) (sym is)
        (begun_asks z.life.stage z.life (events ++ took (Started z.life.start) not_message ∷ []) (λ n. asks_of settings n (events ++ took (Started z.life.start) not_message ∷ [])) z.asks refl (part_quiet of_asks settings t.requests z events (took (Started z.life.start) not_message) refl h))
    part own of_parked h = subst (λ (l : Standing). ParkedAt l.stage (asks_of settings l.start (events ++ took (Started z.life.start) not_message ∷ [])) (parked_of settings l.start (events ++ took (Started z.life.start) not_message ∷ [])) z.parked) (sym is)
        (begun_parked z.life.stage z.life (λ n. asks_of settings n (events ++ took (Started z.life.start) not_message ∷ [])) (λ n. parked_of settings n (events ++ took (Started z.life.start) not_message ∷ [])) z.parked refl (part_quiet of_parked settings t.requests z events (took (Started z.life.start) not_message) refl h))
    part own of_live h = subst (λ (l : Standing). LiveAt l.stage (live_of settings l.start (events ++ took (Started z.life.start) not_message ∷ [])) z.live) (sym is)
        (begun_live z.life.stage z.life (λ n. live_of settings n (events ++ took (Started z.life.start) not_message ∷ [])) z.live refl (part_quiet of_live settings t.requests z events (took (Started z.life.start) not_message) refl h))
    part own of_lists h = subst (λ (l : Standing). ListsAt l.stage (lists_of l.start (events ++ took (Started z.life.start) not_message ∷ [])) z.lists) (sym is)
        (begun_lists z.life.stage z.life (λ n. lists_of n (events ++ took (Started z.life.start) not_message ∷ [])) z.lists refl (part_quiet of_lists settings t.requests z events (took (Started z.life.start) not_message) refl h))

-- the start answers a request, or none
same_table : (limit : ℕ) (x : Forwarding) (t u : Table) → u.requests ≡ t.requests → u.next ≡ t.next → u.limit ≡ t.limit → (IsInOrder t → IsInOrder u) → IdsAt limit x t → IdsAt limit x u
same_table limit x t u r n l o i = record { next = i.next ∙ sym n; open_requests = i.open_requests ∙ ap (map _) (sym r); ends = l ∙ i.ends; order = o i.order }

answered_any : (settings : Settings) (before : List Event) (limit s : ℕ) (t u : Table) (x : Forwarding) (body : List ℕ) (m : Message) (n : Option ℕ) → limit < 2 ^ 32 → NamesAt (answered_id m) n → MatchOption n (u.requests ≡ t.requests) (λ k. u.requests ≡ without k t.requests) → u.next ≡ t.next → u.limit ≡ t.limit → (IsInOrder t → IsInOrder u)
    → IdsAt limit x t → IdsAt limit (forwarding_next settings s before x (took (FromServer s body) m)) u
answered_any settings before limit s t u x body m None h named taken next same order i = same_table limit (forwarding_next settings s before x (took (FromServer s body) m)) t u taken next same order (unanswered_ids settings before limit s t x body m h named i)
answered_any settings before limit s t u x body m (Some k) h named taken next same order i = answered_ids settings before limit s t u x body m k h named taken next same (order i.order) i.order i

pub hears_answer : (g : Stage) (m : Message) → (is_first_result m && is_initializing g) ≡ false → stage_hears g m ≡ g
hears_answer Initializing m h = rw (left (is_first_result m) h) refl
  where
    left : (a : Bool) → (a && true) ≡ false → a ≡ false
    left true h = h
    left false h = refl
hears_answer other m h = refl

stage_seen : (settings : Settings) (t : Tables) (events : List Event) (g n : ℕ) (z : Start) → Stands settings t events → slice_get t.lasts.items g ≡ Some z → n ≡ z.life.start → (life_of n events).stage ≡ z.life.stage
stage_seen settings t events g n z st here e = ap (λ k. (life_of k events).stage) e ∙ ap (λ (l : Life). l.stage) ((st.lasts.each g z here).parts of_life)

heard_stops : (t u : Tables) (events : List Event) (s : ℕ) (body : List ℕ) → u.origins.stopping ≡ t.origins.stopping → StopsMove t u events (took (FromServer s body) (message_of body))
heard_stops t u events s body os = stops_kept t u events (took (FromServer s body) (message_of body)) os refl
    (λ m. same_either (nat_eq s m) (record { stage = stage_hears (life_of m events).stage (message_of body); started = (life_of m events).started }) (life_of m events) (hears_same (life_of m events).stage (message_of body)))

module _ (settings : Settings) (t u : Tables) (events : List Event) (g s : ℕ) (z : Start) (body : List ℕ) (n : Option ℕ) (life : Standing) (ids : Table) (shown : Option (List ℕ)) (parked : List route.Ask) (live : List Registration) (lists : List LastList) (at : slice_get (map number_in t.lasts.items) g ≡ Some s) (within : g < length t.lasts.items) (read : z ≡ get_or t.lasts.items g z)
    (awaits : StopAt z.life.stage z.life.stopping (stop_of z.life.start events) → StopAt life.stage life.stopping (stop_of z.life.start events))
    (gives : ShownAt z.life.stage z.shown (result_of z.life.start events) → ShownAt life.stage shown (result_behind z.life.start (result_of z.life.start events) (took (FromServer z.life.start body) (message_of body))))
    (goes_on : (later : List Event) (asked : List Ask) → AsksAt z.life.stage later asked z.asks → AsksAt life.stage later asked z.asks)
    (waits : Stands settings t events → PartStands of_parked settings t.requests z events
    → ParkedAt life.stage (asks_of settings z.life.start (events ++ took (FromServer z.life.start body) (message_of body) ∷ [])) (parked_of settings z.life.start (events ++ took (FromServer z.life.start body) (message_of body) ∷ [])) parked)
    (registers : Stands settings t events → PartStands of_live settings t.requests z events → LiveAt life.stage (live_of settings z.life.start (events ++ took (FromServer z.life.start body) (message_of body) ∷ [])) live)
    (publishes : Stands settings t events → PartStands of_lists settings t.requests z events → ListsAt life.stage (lists_of z.life.start (events ++ took (FromServer z.life.start body) (message_of body) ∷ [])) lists)
    (own : life.start ≡ z.life.start) (group : life.group ≡ z.life.group) (hears : stage_hears z.life.stage (message_of body) ≡ life.stage) (refuses : (is_first_error (message_of body) && is_initializing z.life.stage) ≡ false) (named : NamesAt (answered_id (message_of body)) n)
    (taken : MatchOption n (ids.requests ≡ z.ids.requests) (λ k. ids.requests ≡ without k z.ids.requests)) (next : ids.next ≡ z.ids.next) (limit : ids.limit ≡ z.ids.limit) (order : IsInOrder z.ids → IsInOrder ids)
    (set : u.lasts.items ≡ slice_set t.lasts.items g (record z { life = life; ids = ids; shown = shown; parked = parked; live = live; lists = lists })) (es : u.editors ≡ t.editors) (gs : u.groups ≡ t.groups) (now : u.course ≡ t.course) (os : OriginsMove settings t.origins u.origins events (took (FromServer s body) (message_of body))) (r : u.requests ≡ t.requests) where
  pub server_moves : Stands settings t events → Stands settings u (events ++ took (FromServer s body) (message_of body) ∷ [])
  server_moves st = start_moves settings t u events (λ k. took (FromServer k body) (message_of body)) g s z y at within read set own group es now os.groups r (λ k. refl) (λ k. refl) (λ k. refl) (λ k m. refl)
      (λ k e h. groups_kept settings t.groups u.groups events (took (FromServer k body) (message_of body)) gs (not_refused settings t.groups events k body (message_of body) (ap (λ a. is_first_error (message_of body) && is_initializing a) (stage_seen settings t events g k z st here (e ∙ sym (start_at_place t.lasts.items g s z here at))) ∙ refuses)) h)
      (λ k e. heard_stops t u events k body os.stopping) (λ k e. subst (λ j. KeptMove settings t u events (took (FromServer j body) (message_of body))) (sym e) (record { created = os.created; waiting = os.waiting })) (part st) st
    where
      y : Start
      y = record z { life = life; ids = ids; shown = shown; parked = parked; live = live; lists = lists }

      here : slice_get t.lasts.items g ≡ Some z
      here = read_here t.lasts.items g z within read

      part : Stands settings t events → (p : Part) → PartStands p settings t.requests z events → PartStands p settings t.requests y (events ++ took (FromServer z.life.start body) (message_of body) ∷ [])
      part st of_life h = part_life settings t.requests events (took (FromServer z.life.start body) (message_of body)) z y own (rw (itself z.life.start) (ap (λ k. record { stage = k; started = z.started }) hears)) h
      part st of_ids h = part_ids settings t.requests events (took (FromServer z.life.start body) (message_of body)) z y own
          (answered_any settings events t.requests z.life.start z.ids ids (forwarding_of settings z.life.start events) body (message_of body) n st.range named taken next limit order) h
      part st of_shown h = part_shown settings t.requests events (took (FromServer z.life.start body) (message_of body)) z y own gives h
      part st of_stop h = subst (λ k. StopAt life.stage life.stopping (stop_of k (events ++ took (FromServer z.life.start body) (message_of body) ∷ []))) (sym own)
          (subst (λ o. StopAt life.stage life.stopping o) (sym (stop_more z.life.start events (took (FromServer z.life.start body) (message_of body)))) (awaits h))
      part st of_asks h = subst (λ k. AsksAt life.stage (events ++ took (FromServer z.life.start body) (message_of body) ∷ []) (asks_of settings k (events ++ took (FromServer z.life.start body) (message_of body) ∷ [])) z.asks) (sym own)
          (goes_on (events ++ took (FromServer z.life.start body) (message_of body) ∷ []) (asks_of settings z.life.start (events ++ took (FromServer z.life.start body) (message_of body) ∷ [])) (part_quiet of_asks settings t.requests z events (took (FromServer z.life.start body) (message_of body)) refl h))
      part st of_parked h = subst (λ k. ParkedAt life.stage (asks_of settings k (events ++ took (FromServer z.life.start body) (message_of body) ∷ [])) (parked_of settings k (events ++ took (FromServer z.life.start body) (message_of body) ∷ [])) parked) (sym own) (waits st h)
      part st of_live h = subst (λ k. LiveAt life.stage (live_of settings k (events ++ took (FromServer z.life.start body) (message_of body) ∷ [])) live) (sym own) (registers st h)
      part st of_lists h = subst (λ k. ListsAt life.stage (lists_of k (events ++ took (FromServer z.life.start body) (message_of body) ∷ [])) lists) (sym own) (publishes st h)

-- what was given stays; one that is late keeps nothing
later_given : (n : ℕ) (o : Option (List ℕ)) (body : List ℕ) (m : Message) → is_first_result m ≡ false → result_behind n o (took (FromServer n body) m) ≡ o
later_given n o body m h = result_quiet n o (took (FromServer n body) m) h

no_first : (a : Bool) → (a && true) ≡ false → a ≡ false
no_first true h = h
no_first false h = refl

pub later_shown : (n : ℕ) (g : Stage) (shown given : Option (List ℕ)) (body : List ℕ) (m : Message) → (is_first_result m && is_early g) ≡ false → ShownAt g shown given → ShownAt g shown (result_behind n given (took (FromServer n body) m))
later_shown n Unspawned shown given body m h s = (s.0, later_given n given body m (no_first (is_first_result m) h) ∙ s.1)
later_shown n Spawning shown given body m h s = (s.0, later_given n given body m (no_first (is_first_result m) h) ∙ s.1)
later_shown n Initializing shown given body m h s = (s.0, later_given n given body m (no_first (is_first_result m) h) ∙ s.1)
later_shown n Ready shown given body m h s = (s.0, ap (λ o. result_behind n o (took (FromServer n body) m)) s.1 ∙ refl, s.2)
later_shown n other shown given body m h s = tt

later_begun : (a : Bool) (g : Stage) → (a && is_early g) ≡ false → (a && is_initializing g) ≡ false
later_begun false g h = refl
later_begun true Initializing h = h
later_begun true other h = refl

-- S5, and all else that isn't the answer to `initialize`
pub answer_moves : (settings : Settings) (t u : Tables) (events : List Event) (g s : ℕ) (x z : Start) (body : List ℕ) (n : Option ℕ) (ids : Table) → slice_get t.lasts.items g ≡ Some x → slice_get (map number_in t.lasts.items) g ≡ Some s → g < length t.lasts.items → z ≡ get_or t.lasts.items g z
    → (is_first_result (message_of body) && is_early x.life.stage) ≡ false → (is_first_error (message_of body) && is_initializing x.life.stage) ≡ false → ParkedStay settings s events (took (FromServer s body) (message_of body)) → LiveStay settings s events (took (FromServer s body) (message_of body)) → ListsStay s events (took (FromServer s body) (message_of body)) → NamesAt (answered_id (message_of body)) n
    → MatchOption n (ids.requests ≡ z.ids.requests) (λ k. ids.requests ≡ without k z.ids.requests) → ids.next ≡ z.ids.next → ids.limit ≡ z.ids.limit → (IsInOrder z.ids → IsInOrder ids)
    → u.lasts.items ≡ slice_set t.lasts.items g (record z { ids = ids }) → u.editors ≡ t.editors → u.groups ≡ t.groups → u.course ≡ t.course → OriginsMove settings t.origins u.origins events (took (FromServer s body) (message_of body)) → u.requests ≡ t.requests
    → Stands settings t events → Stands settings u (events ++ took (FromServer s body) (message_of body) ∷ [])
answer_moves settings t u events g s x z body n ids is at within read no_result no_failure still stays keeps named taken next limit order set es gs now os r =
    let same : x ≡ z = same_item (sym is ∙ read_here t.lasts.items g z within read) in
    let later : (is_first_result (message_of body) && is_early z.life.stage) ≡ false = ap (λ (w : Start). is_first_result (message_of body) && is_early w.life.stage) (sym same) ∙ no_result in
    server_moves settings t u events g s z body n z.life ids z.shown z.parked z.live z.lists at within read (λ h. h) (later_shown z.life.start z.life.stage z.shown (result_of z.life.start events) body (message_of body) later) (λ es asked h. h)
    (λ st h. parked_by settings t.requests z events (took (FromServer z.life.start body) (message_of body)) (record {
      asks = open_stay settings z.life.start events (took (FromServer z.life.start body) (message_of body)) refl;
      parked = subst (λ k. ParkedStay settings k events (took (FromServer k body) (message_of body))) (sym (start_at_place t.lasts.items g s z (read_here t.lasts.items g z within read) at)) still;
    }) h)
    (λ st h. live_by_stay settings t.requests z events (took (FromServer z.life.start body) (message_of body))
    (subst (λ k. LiveStay settings k events (took (FromServer k body) (message_of body))) (sym (start_at_place t.lasts.items g s z (read_here t.lasts.items g z within read) at)) stays) h)
    (λ st h. lists_by_stay settings t.requests z events (took (FromServer z.life.start body) (message_of body))
    (subst (λ k. ListsStay k events (took (FromServer k body) (message_of body))) (sym (start_at_place t.lasts.items g s z (read_here t.lasts.items g z within read) at)) keeps) h) refl refl
    (hears_answer z.life.stage (message_of body) (later_begun (is_first_result (message_of body)) z.life.stage later))
    (ap (λ (w : Start). is_first_error (message_of body) && is_initializing w.life.stage) (sym same) ∙ no_failure) named taken next limit order set es gs now os r

no_error : (m : Message) → is_first_result m ≡ true → (b : Bool) → (is_first_error m && b) ≡ false
no_error m h b = ap (λ a. a && b) (only m h)
  where
    only : (m : Message) → is_first_result m ≡ true → is_first_error m ≡ false
    only (result id r) h = refl
    only (error id e) h = never (sym h)
    only (request id method ps) h = refl
    only (notification method ps) h = refl
    only not_json h = refl
    only not_message h = refl

first_given : (n : ℕ) (body : List ℕ) (m : Message) → is_first_result m ≡ true → result_behind n None (took (FromServer n body) m) ≡ Some body
first_given n body m h = rw (itself n, h) refl

first_shown : (n : ℕ) (g : Stage) (shown given : Option (List ℕ)) (body text : List ℕ) (m : Message) (life z : Standing) → life ≡ moved Ready z → g ≡ Initializing → is_first_result m ≡ true → text ≡ shown_of (result_bytes body)
    → ShownAt g shown given → ShownAt life.stage (Some text) (result_behind n given (took (FromServer n body) m))
first_shown n g shown given body text m life z is stage first shows s =
    let none : given ≡ None = (subst (λ k. ShownAt k shown given) stage s).1 in
    subst (λ (l : Standing). ShownAt l.stage (Some text) (result_behind n given (took (FromServer n body) m))) (sym is)
    (body, ap (λ o. result_behind n o (took (FromServer n body) m)) none ∙ first_given n body m first, ap (λ w. Some w) shows)

result_asks : (m : Message) → is_first_result m ≡ true → is_request m ≡ false
result_asks (request id method ps) h = never (sym h)
result_asks other h = refl

error_asks : (m : Message) → is_first_error m ≡ true → is_request m ≡ false
error_asks (request id method ps) h = never (sym h)
error_asks other h = refl

-- S2
pub result_moves : (settings : Settings) (t u : Tables) (events : List Event) (g s : ℕ) (z : Start) (body : List ℕ) (n : Option ℕ) (life : Standing) (ids : Table) (shown : List ℕ) → slice_get (map number_in t.lasts.items) g ≡ Some s → g < length t.lasts.items → z ≡ get_or t.lasts.items g z
    → z.life.stage ≡ Initializing → is_first_result (message_of body) ≡ true → NamesAt (answered_id (message_of body)) n → shown ≡ shown_of (result_bytes body) → life ≡ moved Ready z.life
    → MatchOption n (ids.requests ≡ z.ids.requests) (λ k. ids.requests ≡ without k z.ids.requests) → ids.next ≡ z.ids.next → ids.limit ≡ z.ids.limit → (IsInOrder z.ids → IsInOrder ids)
    → u.lasts.items ≡ slice_set t.lasts.items g (record z { life = life; ids = ids; shown = Some shown }) → u.editors ≡ t.editors → u.groups ≡ t.groups → u.course ≡ t.course → u.origins ≡ t.origins → u.requests ≡ t.requests
    → Stands settings t events → Stands settings u (events ++ took (FromServer s body) (message_of body) ∷ [])
result_moves settings t u events g s z body n life ids shown at within read stage first named shows is taken next limit order set es gs now os r =
    server_moves settings t u events g s z body n life ids (Some shown) z.parked z.live z.lists at within read (λ _. subst (λ (l : Standing). StopAt l.stage l.stopping (stop_of z.life.start events)) (sym is) tt) (first_shown z.life.start z.life.stage z.shown (result_of z.life.start events) body shown (message_of body) life z.life is stage first shows)
    (λ es asked h. first_asks z.life.stage life z.life es asked z.asks is stage h)
    (λ st h. first_parked z.life.stage life z.life (asks_of settings z.life.start (events ++ took (FromServer z.life.start body) (message_of body) ∷ [])) (parked_of settings z.life.start (events ++ took (FromServer z.life.start body) (message_of body) ∷ [])) z.parked is stage
    (part_quiet of_parked settings t.requests z events (took (FromServer z.life.start body) (message_of body)) (result_asks (message_of body) first) h))
    (λ st h. first_live z.life.stage life z.life (live_of settings z.life.start (events ++ took (FromServer z.life.start body) (message_of body) ∷ [])) z.live is stage
    (part_quiet of_live settings t.requests z events (took (FromServer z.life.start body) (message_of body)) (result_asks (message_of body) first) h))
    (λ st h. first_lists z.life.stage life z.life (lists_of z.life.start (events ++ took (FromServer z.life.start body) (message_of body) ∷ [])) z.lists is stage
    (part_quiet of_lists settings t.requests z events (took (FromServer z.life.start body) (message_of body)) (result_tells (message_of body) first) h))
    (ap (λ (l : Standing). l.start) is) (ap (λ (l : Standing). l.group) is)
    (rw (stage, first) refl ∙ ap (λ (l : Standing). l.stage) (sym is)) (no_error (message_of body) first (is_initializing z.life.stage)) named taken next limit order set es gs now (origins_stay settings t.origins u.origins events (took (FromServer s body) (message_of body)) os (λ m. first_result_tokens settings m s events (created_of settings m events) body (message_of body) first) (λ rows. quiet_waits settings rows events (took (FromServer s body) (message_of body)) refl)) r

pub answer_found : (settings : Settings) (t : Tables) (events : List Event) (g s k : ℕ) (z : Start) (o : Option Pending) → slice_get (map number_in t.lasts.items) g ≡ Some s → g < length t.lasts.items → z ≡ get_or t.lasts.items g z → o ≡ pending_of k z.ids.requests
    → Stands settings t events → find (is_under k) (forwarding_of settings s events).open_requests ≡ option_map (forwarded_as k) o
answer_found settings t events g s k z o at within read is st =
    let here = read_here t.lasts.items g z within read in
    subst (λ n. find (is_under k) (forwarding_of settings n events).open_requests ≡ option_map (forwarded_as k) o) (start_at_place t.lasts.items g s z here at) (found_seen settings t.requests z.life.start z.ids events k o is ((st.lasts.each g z here).parts of_ids))

pub found_of : (n : Option ℕ) (k : ℕ) (o : Option Pending) (rs : List Numbered) → n ≡ Some k → MatchOption n (o ≡ None) (λ j. o ≡ pending_of j rs) → o ≡ pending_of k rs
found_of n k o rs is h = subst (λ (m : Option ℕ). MatchOption m (o ≡ None) (λ j. o ≡ pending_of j rs)) is h

-- S3
pub refusal_moves : (settings : Settings) (t u : Tables) (events : List Event) (g s : ℕ) (z : Start) (body : List ℕ) (n : Option ℕ) (ids : Table) → slice_get (map number_in t.lasts.items) g ≡ Some s → g < length t.lasts.items → z ≡ get_or t.lasts.items g z
    → z.life.stage ≡ Initializing → is_first_error (message_of body) ≡ true → NamesAt (answered_id (message_of body)) n
    → MatchOption n (ids.requests ≡ z.ids.requests) (λ k. ids.requests ≡ without k z.ids.requests) → ids.next ≡ z.ids.next → ids.limit ≡ z.ids.limit → (IsInOrder z.ids → IsInOrder ids)
    → u.lasts.items ≡ slice_set t.lasts.items g (record z { ids = ids }) → u.editors ≡ t.editors → u.groups ≡ with_groups (changed z.life.group ended t.groups.groups) t.groups → u.course ≡ t.course → u.origins ≡ t.origins → u.requests ≡ t.requests
    → Stands settings t events → Stands settings u (events ++ took (FromServer s body) (message_of body) ∷ [])
refusal_moves settings t u events g s z body n ids at within read stage refuses named taken next limit order set es gs now os r st =
    start_moves settings t u events (λ k. took (FromServer k body) (message_of body)) g s z y at within read set refl refl es now (ap (λ v. v.groups) os) r (λ k. refl) (λ k. refl) (λ k. refl) (λ k m. refl)
    (λ k e h. refused_groups settings events k z.life.group body (message_of body) t.groups u.groups refuses (ap is_initializing (stage_seen settings t events g k z st here (e ∙ sym is)) ∙ ap is_initializing stage) (subst (λ m. group_of m events ≡ Some z.life.group) (is ∙ sym e) (st.lasts.each g z here).home)
    (ap (λ w. w.limit) gs) (ap (λ w. w.idle) gs) (ap (λ w. w.groups) gs) h) (λ k e. heard_stops t u events k body (ap (λ v. v.stopping) os)) (λ k e. record { created = same_created settings t u events (took (FromServer k body) (message_of body)) (ap (λ v. v.created) os) (λ m. first_error_tokens settings m k events (created_of settings m events) body (message_of body) refuses); waiting = same_waits settings t.origins u.origins events (took (FromServer k body) (message_of body)) (ap (λ v. v.waiting) os) (λ rows. quiet_waits settings rows events (took (FromServer k body) (message_of body)) refl) }) part st
  where
    y : Start
    y = record z { ids = ids }

    here : slice_get t.lasts.items g ≡ Some z
    here = read_here t.lasts.items g z within read

    is : z.life.start ≡ s
    is = start_at_place t.lasts.items g s z here at

    no_result : (m : Message) → is_first_error m ≡ true → (b : Bool) → (is_first_result m && b) ≡ false
    no_result (error id x) h b = refl
    no_result (result id x) h b = never (sym h)
    no_result (request id method ps) h b = refl
    no_result (notification method ps) h b = refl
    no_result not_json h b = refl
    no_result not_message h b = refl

    part : (p : Part) → PartStands p settings t.requests z events → PartStands p settings t.requests y (events ++ took (FromServer z.life.start body) (message_of body) ∷ [])
    part of_life h = part_life settings t.requests events (took (FromServer z.life.start body) (message_of body)) z y refl (rw (itself z.life.start) (ap (λ k. record { stage = k; started = z.started }) (hears_answer z.life.stage (message_of body) (no_result (message_of body) refuses (is_initializing z.life.stage))))) h
    part of_ids h = part_ids settings t.requests events (took (FromServer z.life.start body) (message_of body)) z y refl
        (answered_any settings events t.requests z.life.start z.ids ids (forwarding_of settings z.life.start events) body (message_of body) n st.range named taken next limit order) h
    part of_shown h = still_shown settings t.requests events (took (FromServer z.life.start body) (message_of body)) z y refl refl (no_first (is_first_result (message_of body)) (no_result (message_of body) refuses true)) h
    part of_stop h = still_stop settings t.requests events (took (FromServer z.life.start body) (message_of body)) z y refl refl h
    part of_asks h = still_asks settings t.requests events (took (FromServer z.life.start body) (message_of body)) z y refl refl refl h
    part of_parked h = still_parked settings t.requests events (took (FromServer z.life.start body) (message_of body)) z y refl refl (error_asks (message_of body) refuses) h
    part of_live h = still_live settings t.requests events (took (FromServer z.life.start body) (message_of body)) z y refl refl (error_asks (message_of body) refuses) h
    part of_lists h = still_lists settings t.requests events (took (FromServer z.life.start body) (message_of body)) z y refl refl (error_tells (message_of body) refuses) h

-- X1 to X3
module _ (settings : Settings) (t u : Tables) (events : List Event) (g s : ℕ) (z : Start) (ev : ℕ → Event) (at : slice_get (map number_in t.lasts.items) g ≡ Some s) (within : g < length t.lasts.items) (here : slice_get t.lasts.items g ≡ Some z) (x : Exits settings.limits.restarts t g z u)
    (one : (n m : ℕ) → names_start m (ev n) ≡ nat_eq n m) (editor : (n : ℕ) → names_editor (ev n) ≡ false) (time : (n : ℕ) → ticks (ev n) ≡ false) (spawn : (n : ℕ) → spawns (ev n) ≡ false)
    (loses : (n : ℕ) (h : House) → groups_next settings events h (ev n) ≡ groups_lose settings events n h)
    (over : (n : ℕ) (l : Life) → life_behind n l (ev n) ≡ record { stage = Ended; started = l.started })
    (clears : (n : ℕ) (f : Forwarding) → IdsAt t.requests (forwarding_next settings n events f (ev n)) x.start.ids)
    (drops : (n : ℕ) (w : Created) → created_next settings n events w (ev n) ≡ no_created) (passes : (n m : ℕ) → nat_eq n m ≡ false → passes_by m (ev n) ≡ true) (waits : (n : ℕ) → touches_waiting (ev n) ≡ false) where
  pub over_moves : Stands settings t events → Stands settings u (events ++ ev s ∷ [])
  over_moves st =
      let own : x.start.life.start ≡ z.life.start = ap (λ (l : Standing). l.start) x.life in
      start_moves settings t u events ev g s z x.start at within (read_back t.lasts.items g z here) x.lasts own (ap (λ (l : Standing). l.group) x.life) x.editors x.course x.origins x.requests editor time spawn one
      (λ n e h. lost_groups settings events (ev n) n z.life.group (loses n) (t.groups) u.groups t.editors (subst (λ m. group_of m events ≡ Some z.life.group) (start_at_place t.lasts.items g s z here at ∙ sym e) (st.lasts.each g z here).home) st.house.editors x.groups h)
      (λ n e h. stopping_less events (ev n) n (spawn n) (one n) (ap (λ (l : Life). is_stopping l.stage) (over n (life_of n events))) ∙ ap (unstopped n) h
      ∙ ap (λ k. unstopped k t.origins.stopping.items) (e ∙ sym (start_at_place t.lasts.items g s z here at)) ∙ sym x.stopping) (λ n e. record { created = tokens n (e ∙ sym (start_at_place t.lasts.items g s z here at)); waiting = same_waits settings t.origins u.origins events (ev n) x.waiting (λ rows. quiet_waits settings rows events (ev n) (waits n)) }) (part own) st
    where
      tokens : (n : ℕ) → n ≡ z.life.start → CreatedMove settings t u events (ev n)
      tokens n own h = subst (λ (rows : Rows). CreatedStand settings rows (events ++ ev n ∷ [])) (sym (x.created ∙ ap (λ k. less k t.origins.created) (sym own)))
          (ended_tokens settings t.origins.created events (ev n) n (drops n (created_of settings n events)) (λ m away. passes_stay settings m events (created_of settings m events) (ev n) (passes n m (num_back n m ∙ away))) h)

      part : x.start.life.start ≡ z.life.start → (p : Part) → PartStands p settings t.requests z events → PartStands p settings t.requests x.start (events ++ ev z.life.start ∷ [])
      part own of_life h = part_life settings t.requests events (ev z.life.start) z x.start own (over z.life.start (record { stage = z.life.stage; started = z.started })
          ∙ (ap (λ k. record { stage = k; started = z.started }) (ap (λ (l : Standing). l.stage) (sym x.life)) ∙ ap (λ b. record { stage = x.start.life.stage; started = b }) (sym x.started))) h
      part own of_ids h = part_ids settings t.requests events (ev z.life.start) z x.start own (λ _. clears z.life.start (forwarding_of settings z.life.start events)) h
      part own of_shown h = late_shown settings t.requests (events ++ ev z.life.start ∷ []) x.start (ap (λ (l : Standing). is_late l.stage) x.life)
      part own of_stop h = no_stop settings t.requests (events ++ ev z.life.start ∷ []) x.start (ap (λ (l : Standing). is_stopping l.stage) x.life)
      part own of_asks h = late_asks settings t.requests (events ++ ev z.life.start ∷ []) x.start (ap (λ (l : Standing). is_late l.stage) x.life)
      part own of_parked h = late_parked settings t.requests (events ++ ev z.life.start ∷ []) x.start (ap (λ (l : Standing). is_late l.stage) x.life)
      part own of_live h = late_live settings t.requests (events ++ ev z.life.start ∷ []) x.start (ap (λ (l : Standing). is_late l.stage) x.life)
      part own of_lists h = late_lists settings t.requests (events ++ ev z.life.start ∷ []) x.start (ap (λ (l : Standing). is_late l.stage) x.life)

gone_clears : (settings : Settings) (before : List Event) (limit n : ℕ) (f : Forwarding) (ids : Table) → ids.requests ≡ [] → ids.next ≡ 2 → ids.limit ≡ limit → IsInOrder ids → IdsAt limit (forwarding_next settings n before f (took (ServerGone n) not_message)) ids
gone_clears settings before limit n f ids r k l o = ended_ids settings before limit n ids f not_message (r, k, l, o)

failed_clears : (settings : Settings) (before : List Event) (limit n : ℕ) (f : Forwarding) (ids : Table) → ids.requests ≡ [] → ids.next ≡ 2 → ids.limit ≡ limit → IsInOrder ids → IdsAt limit (forwarding_next settings n before f (took (StartFailed n) not_message)) ids
failed_clears settings before limit n f ids r k l o = failed_ids settings before limit n ids f not_message (r, k, l, o)

pub exit_heard : (settings : Settings) (t u : Tables) (events : List Event) (g s restarts : ℕ) → settings.limits.restarts ≡ restarts → slice_get (map number_in t.lasts.items) g ≡ Some s → g < length t.lasts.items → ((z : Start) → slice_get t.lasts.items g ≡ Some z → Exits restarts t g z u)
    → Stands settings t events → Stands settings u (events ++ took (ServerGone s) not_message ∷ [])
exit_heard settings t u events g s restarts e at within f =
    let z = item_at t.lasts.items g within in
    let x : Exits settings.limits.restarts t g z.0 u = subst (λ n. Exits n t g z.0 u) (sym e) (f z.0 z.1) in
    over_moves settings t u events g s z.0 (λ n. took (ServerGone n) not_message) at within z.1 x (λ n m. refl) (λ n. refl) (λ n. refl) (λ n. refl) (λ n h. refl) (λ n l. rw (itself n) refl)
    (λ n h. gone_clears settings events t.requests n h x.start.ids x.requests_gone x.next x.limit x.order) (λ n w. rw (itself n) refl) (λ n m h. ap not h) (λ n. refl)

pub failure_heard : (settings : Settings) (t u : Tables) (events : List Event) (g s restarts : ℕ) → settings.limits.restarts ≡ restarts → slice_get (map number_in t.lasts.items) g ≡ Some s → g < length t.lasts.items → ((z : Start) → slice_get t.lasts.items g ≡ Some z → Exits restarts t g z u)
    → Stands settings t events → Stands settings u (events ++ took (StartFailed s) not_message ∷ [])
failure_heard settings t u events g s restarts e at within f =
    let z = item_at t.lasts.items g within in
    let x : Exits settings.limits.restarts t g z.0 u = subst (λ n. Exits n t g z.0 u) (sym e) (f z.0 z.1) in
    over_moves settings t u events g s z.0 (λ n. took (StartFailed n) not_message) at within z.1 x (λ n m. refl) (λ n. refl) (λ n. refl) (λ n. refl) (λ n h. refl) (λ n l. rw (itself n) refl)
    (λ n h. failed_clears settings events t.requests n h x.start.ids x.requests_gone x.next x.limit x.order) (λ n w. rw (itself n) refl) (λ n m h. ap not h) (λ n. refl)
