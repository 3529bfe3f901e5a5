-- S12: a request waits until an editor runs.
use Rattle.std.proofs.Common.{◌≡◌, ℕ, ◌<◌, Bool, true, false, not, ◌&&◌, List, [], ◌∷◌, ◌++◌, map, length, get_or, refl, ap, sym, subst, ◌∙◌, append-nil, if◌then◌else◌}
use Rattle.std.specs.Prelude.{Option, Some, None, slice_get, slice_set}
use Rattle.std.specs.List.{AllByRecursion, list_any}
use Rattle.std.proofs.lemmas.List.{map-append}
use Rattle.json_text.specs.Json.{Json}
use Rattle.ask_route.specs.declared.ask.Ask as route
use Rattle.ask_route.specs.Tables as asks
use Rattle.mux_history.specs.declared.cause.Cause.TheVariants.{FromServer}
use Rattle.rpc_message.specs.Message.{Id, Message, id_bytes, message_of, request}
use Rattle.event_model.specs.declared.stage.Stage.{Stage}
use Rattle.event_model.specs.declared.stage.Stage.TheVariants.{Ready, Spawning}
use Rattle.event_model.specs.Event.{Event, took}
use Rattle.event_model.specs.Requests.{answered_id}
use Rattle.event_model.specs.Settings.{Settings}
use Rattle.event_model.specs.Stages.{Life, is_first_result, is_initializing, is_ready, life_of}
use Rattle.group_words.specs.Houses.{is_first_error}
use Rattle.group_laws.specs.group_rows.specs.Asks.{Ask, Asking, Parked, asker_of, asking_of, asks_of, has_running, idle_asking, is_patient, is_taken, is_under, parked_of, parks, waits_under}
use Rattle.mux_tables.specs.declared.tables.Start.{Start}
use Rattle.mux_tables.specs.declared.tables.Tables.{Tables}
use Rattle.mux_tables.specs.Stands.{HasOwnId, HaveOwnIds, IsFree, MayWait, NamesAt, ParkedAt, ParkedStand, ParkedStay, PartStands, Stands, is_early, number_in, of_life, of_parked}
use Rattle.group_laws.specs.group_rows.specs.Created.{created_next, created_of}
use Rattle.mux_tokens.specs.Stands.{CreatedStay}
use Rattle.mux_tokens.proofs.Stays.{is_notification, other_request}
use Rattle.mux_tables.proofs.TokenMoves.{heard_all, origins_stay, patient_creates}
use Rattle.mux_tables.proofs.Apart.{id_flip}
use Rattle.mux_tables.proofs.Asking.{asking_more, asks_more}
use Rattle.mux_tables.proofs.Frames.{itself, open_stay}
use Rattle.mux_tables.proofs.Publishing.{lists_by_stay, quiet_lists}
use Rattle.mux_tables.proofs.Registering.{live_by_stay, other_live, patient_quiet}
use Rattle.mux_tables.proofs.Served.{hears_answer, later_shown, server_moves}
use Rattle.mux_tables.proofs.Starts.{read_here, read_same, start_at_place}
use Rattle.mux_tables.proofs.Waiting.{all_so, all_then, none_any, none_either, ready_parked}
use Rattle.mux_waits.proofs.Moves.{quiet_waits}

-- a body of a start, by whether it is this one's
abbrev pub heard_asking : Settings → ℕ → List Event → List ℕ → Message → Asking → Bool → Asking
heard_asking settings s events body m x b = if b then record { asker = asker_of body m; runs = None; asks = x.asks; parked = x.parked ++ parks settings s events x body m } else idle_asking x

-- a message by which nothing waits
pub parks_stay : (settings : Settings) (s : ℕ) (events : List Event) (body : List ℕ) (m : Message) → parks settings s events (asking_of settings s events) body m ≡ [] → ParkedStay settings s events (took (FromServer s body) m)
parks_stay settings s events body m none = ap (λ b. (heard_asking settings s events body m (asking_of settings s events) b).parked) (itself s)
    ∙ (ap (λ ps. parked_of settings s events ++ ps) none ∙ append-nil (parked_of settings s events))

-- one more waits, under an id that is new
own_then : (p : Parked) (ps : List Parked) → HaveOwnIds ps → AllByRecursion (λ q. HasOwnId q p) ps → HaveOwnIds (ps ++ p ∷ [])
own_then p [] h k = (tt, tt)
own_then p (q ∷ ps) h k = (all_then (HasOwnId q) ps p h.0 k.0, own_then p ps h.1 k.1)

parked_then : (p : Parked) (qs : List Ask) (ps : List Parked) (kept : List route.Ask) → MayWait p → list_any (is_under (Some p.id)) qs ≡ false → list_any (waits_under (Some p.id)) ps ≡ false → ParkedStand qs ps kept
    → ParkedStand qs (ps ++ p ∷ []) (kept ++ asks.parked (id_bytes p.body) p.body ∷ [])
parked_then p qs ps kept may unasked untaken s = record {
  same = ap (λ ks. ks ++ asks.parked (id_bytes p.body) p.body ∷ []) s.same ∙ sym (map-append _ ps (p ∷ []));
  bodies = all_then MayWait ps p s.bodies may;
  own = own_then p ps s.own (all_so (λ (q : Parked). waits_under (Some p.id) q ≡ false) (λ q. HasOwnId q p) ps (λ q k. id_flip q.id p.id k) (none_any (waits_under (Some p.id)) ps untaken));
  free = all_then (IsFree qs) ps p s.free (none_any (is_under (Some p.id)) qs unasked);
}

module _ (settings : Settings) (t u : Tables) (events : List Event) (g s : ℕ) (z : Start) (body method : List ℕ) (id : Id) (params : Option Json) (kept : List route.Ask) (at : slice_get (map number_in t.lasts.items) g ≡ Some s) (within : g < length t.lasts.items) (read : z ≡ get_or t.lasts.items g z)
    (ready : z.life.stage ≡ Ready) (says : message_of body ≡ request id method params) (patient : is_patient method ≡ true) (untaken : is_taken (Some id) (asking_of settings s events) ≡ false) (none_runs : has_running settings events s ≡ false)
    (puts : kept ≡ z.parked ++ asks.parked (id_bytes body) body ∷ [])
    (set : u.lasts.items ≡ slice_set t.lasts.items g (record z { parked = kept })) (es : u.editors ≡ t.editors) (gs : u.groups ≡ t.groups) (now : u.course ≡ t.course) (os : u.origins ≡ t.origins) (r : u.requests ≡ t.requests) where
  abbrev p : Parked
  p = record { id = id; body = body }

  abbrev ev : Event
  ev = took (FromServer z.life.start body) (message_of body)

  here : slice_get t.lasts.items g ≡ Some z
  here = read_here t.lasts.items g z within read

  is : z.life.start ≡ s
  is = start_at_place t.lasts.items g s z here at

  taken_off : is_taken (Some id) (asking_of settings z.life.start events) ≡ false
  taken_off = ap (λ n. is_taken (Some id) (asking_of settings n events)) is ∙ untaken

  parts_off : (list_any (is_under (Some id)) (asks_of settings z.life.start events) ≡ false) × (list_any (waits_under (Some id)) (parked_of settings z.life.start events) ≡ false)
  parts_off = none_either (list_any (is_under (Some id)) (asks_of settings z.life.start events)) (list_any (waits_under (Some id)) (parked_of settings z.life.start events)) taken_off

  parks_it : (life_of z.life.start events).stage ≡ Ready → parks settings z.life.start events (asking_of settings z.life.start events) body (message_of body) ≡ p ∷ []
  parks_it stage = ap (λ m. parks settings z.life.start events (asking_of settings z.life.start events) body m) says
      ∙ (ap (λ b. if b && (is_ready (life_of z.life.start events).stage && (not (is_taken (Some id) (asking_of settings z.life.start events)) && not (has_running settings events z.life.start))) then p ∷ [] else []) patient
      ∙ (ap (λ k. if is_ready k && (not (is_taken (Some id) (asking_of settings z.life.start events)) && not (has_running settings events z.life.start)) then p ∷ [] else []) stage
      ∙ (ap (λ b. if not b && not (has_running settings events z.life.start) then p ∷ [] else []) taken_off
      ∙ ap (λ b. if not b then p ∷ [] else []) (ap (has_running settings events) is ∙ none_runs))))

  more : (life_of z.life.start events).stage ≡ Ready → parked_of settings z.life.start (events ++ ev ∷ []) ≡ parked_of settings z.life.start events ++ p ∷ []
  more stage = ap (λ (x : Asking). x.parked) (asking_more settings z.life.start events ev)
      ∙ (ap (λ b. (heard_asking settings z.life.start events body (message_of body) (asking_of settings z.life.start events) b).parked) (itself z.life.start)
      ∙ ap (λ ps. parked_of settings z.life.start events ++ ps) (parks_it stage))

  waits : Stands settings t events → PartStands of_parked settings t.requests z events → ParkedAt z.life.stage (asks_of settings z.life.start (events ++ ev ∷ [])) (parked_of settings z.life.start (events ++ ev ∷ [])) kept
  waits st h =
      let stage : (life_of z.life.start events).stage ≡ Ready = ap (λ (l : Life). l.stage) ((st.lasts.each g z here).parts of_life) ∙ ready in
      let was = ready_parked z.life.stage (asks_of settings z.life.start events) (parked_of settings z.life.start events) z.parked ready h in
      subst (λ k. ParkedAt k (asks_of settings z.life.start (events ++ ev ∷ [])) (parked_of settings z.life.start (events ++ ev ∷ [])) kept) (sym ready)
      (subst (λ qs. ParkedStand qs (parked_of settings z.life.start (events ++ ev ∷ [])) kept) (sym (asks_more settings z.life.start events ev (open_stay settings z.life.start events ev refl)))
      (subst (λ ps. ParkedStand (asks_of settings z.life.start events) ps kept) (sym (more stage))
      (subst (λ ks. ParkedStand (asks_of settings z.life.start events) (parked_of settings z.life.start events ++ p ∷ []) ks) (sym puts)
      (parked_then p (asks_of settings z.life.start events) (parked_of settings z.life.start events) z.parked (method, params, says, patient) parts_off.0 parts_off.1 was))))

  no_result : (b : Bool) → (is_first_result (message_of body) && b) ≡ false
  no_result b = ap (λ m. is_first_result m && b) says

  no_failure : (b : Bool) → (is_first_error (message_of body) && b) ≡ false
  no_failure b = ap (λ m. is_first_error m && b) says

  stays_created : CreatedStay settings s events (took (FromServer s body) (message_of body))
  stays_created = ap (λ m. created_next settings s events (created_of settings s events) (took (FromServer s body) m)) says ∙ other_request settings s s events (created_of settings s events) body id method params (patient_creates method patient)

  pub park_moves : Stands settings t events → Stands settings u (events ++ took (FromServer s body) (message_of body) ∷ [])
  park_moves st = server_moves settings t u events g s z body None z.life z.ids z.shown kept z.live z.lists at within read (λ h. h) (later_shown z.life.start z.life.stage z.shown _ body (message_of body) (no_result (is_early z.life.stage)))
      (λ later asked h. h) waits (λ st h. live_by_stay settings t.requests z events ev (other_live settings z.life.start z.life.start events body method (message_of body) id params says (patient_quiet method patient)) h)
      (λ st h. lists_by_stay settings t.requests z events ev (quiet_lists z.life.start z.life.start events body (message_of body) (ap is_notification says)) h) refl refl (hears_answer z.life.stage (message_of body) (no_result (is_initializing z.life.stage))) (no_failure (is_initializing z.life.stage))
      (subst (λ m. NamesAt (answered_id m) None) (sym says) (λ n small. refl)) refl refl refl (λ o. o) set es gs now (origins_stay settings t.origins u.origins events (took (FromServer s body) (message_of body)) os (heard_all settings s events body (message_of body) stays_created) (λ rows. quiet_waits settings rows events (took (FromServer s body) (message_of body)) refl)) r st

-- the same, as the code has it
pub park_by : (settings : Settings) (t u : Tables) (events : List Event) (g s : ℕ) (x z : Start) (body method : List ℕ) (id : Id) (params : Option Json) (kept : List route.Ask) → slice_get t.lasts.items g ≡ Some x → slice_get (map number_in t.lasts.items) g ≡ Some s → g < length t.lasts.items → z ≡ get_or t.lasts.items g z
    → x.life.stage ≡ Ready → message_of body ≡ request id method params → is_patient method ≡ true → is_taken (Some id) (asking_of settings s events) ≡ false → has_running settings events s ≡ false → kept ≡ z.parked ++ asks.parked (id_bytes body) body ∷ []
    → u.lasts.items ≡ slice_set t.lasts.items g (record z { parked = kept }) → u.editors ≡ t.editors → u.groups ≡ t.groups → u.course ≡ t.course → u.origins ≡ t.origins → u.requests ≡ t.requests → Stands settings t events → Stands settings u (events ++ took (FromServer s body) (message_of body) ∷ [])
park_by settings t u events g s x z body method id params kept is at within read ready says patient untaken none_runs puts set es gs now os r st =
    park_moves settings t u events g s z body method id params kept at within read (ap (λ (w : Start). w.life.stage) (read_same t.lasts.items g z x within read is) ∙ ready) says patient untaken none_runs puts set es gs now os r st

pub request_no_result : (m : Message) (id : Id) (method : List ℕ) (params : Option Json) (b : Bool) → m ≡ request id method params → (is_first_result m && b) ≡ false
request_no_result m id method params b says = ap (λ n. is_first_result n && b) says

pub not_spawning : (stage : Stage) → stage ≡ Ready → stage ≡ Spawning → ⊥
not_spawning stage ready spawning = clash (sym ready ∙ spawning)
  where
    clash : Ready ≡ Spawning → ⊥
    clash e = cc

-- by what a request doesn't wait
module _ (settings : Settings) (s : ℕ) (events : List Event) (body method : List ℕ) (m : Message) (id : Id) (params : Option Json) (says : m ≡ request id method params) where
  abbrev waits_if : Bool → List Parked
  waits_if b = if b then record { id = id; body = body } ∷ [] else []

  abbrev tests : Bool → Bool → Bool → Bool → Bool
  tests patient ready taken runs = patient && (ready && (not taken && not runs))

  by_tests : (b : Bool) → b ≡ false → tests (is_patient method) (is_ready (life_of s events).stage) (is_taken (Some id) (asking_of settings s events)) (has_running settings events s) ≡ b → ParkedStay settings s events (took (FromServer s body) m)
  by_tests b off is = parks_stay settings s events body m (ap (parks settings s events (asking_of settings s events) body) says ∙ ap waits_if (is ∙ off))

  and_off : (a : Bool) → (a && false) ≡ false
  and_off true = refl
  and_off false = refl

  -- its class isn't Lowest
  pub impatient_stay : is_patient method ≡ false → ParkedStay settings s events (took (FromServer s body) m)
  impatient_stay h = by_tests false refl (ap (λ b. tests b (is_ready (life_of s events).stage) (is_taken (Some id) (asking_of settings s events)) (has_running settings events s)) h)

  -- its start isn't ready
  pub unready_stay : is_ready (life_of s events).stage ≡ false → ParkedStay settings s events (took (FromServer s body) m)
  unready_stay h = by_tests false refl (ap (λ b. tests (is_patient method) b (is_taken (Some id) (asking_of settings s events)) (has_running settings events s)) h ∙ and_off (is_patient method))

  -- its id is taken
  pub taken_stay : is_taken (Some id) (asking_of settings s events) ≡ true → ParkedStay settings s events (took (FromServer s body) m)
  taken_stay h = by_tests false refl (ap (λ b. tests (is_patient method) (is_ready (life_of s events).stage) b (has_running settings events s)) h
      ∙ (ap (λ b. is_patient method && b) (and_off (is_ready (life_of s events).stage)) ∙ and_off (is_patient method)))

  -- an editor runs
  pub running_stay : has_running settings events s ≡ true → ParkedStay settings s events (took (FromServer s body) m)
  running_stay h = by_tests false refl (ap (λ b. tests (is_patient method) (is_ready (life_of s events).stage) (is_taken (Some id) (asking_of settings s events)) b) h
      ∙ (ap (λ b. is_patient method && (is_ready (life_of s events).stage && b)) (and_off (not (is_taken (Some id) (asking_of settings s events))))
      ∙ (ap (λ b. is_patient method && b) (and_off (is_ready (life_of s events).stage)) ∙ and_off (is_patient method))))
