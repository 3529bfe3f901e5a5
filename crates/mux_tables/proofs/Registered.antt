-- A start registers something or takes it back (S6, S7), and editors are told of it, as the code has it.
use Rattle.std.proofs.Common.{◌≡◌, ℕ, ◌<◌, Bool, true, false, ◌&&◌, List, [], ◌∷◌, ◌++◌, map, length, get_or, refl, ap, sym, subst, ◌∙◌, if◌then◌else◌}
use Rattle.std.specs.Prelude.{Option, Some, None, slice_get, slice_set}
use Rattle.std.specs.Option.{option_and_then}
use Rattle.json_text.specs.Json.{Json}
use Rattle.lsp_method.specs.Class.{class_of}
use Rattle.lsp_method.specs.declared.variants.Class.{Class}
use Rattle.lsp_method.specs.declared.variants.Class.TheVariants.{Register, Unregister}
use Rattle.lsp_method.specs.declared.variants.Origin.TheVariants.{Server}
use Rattle.mux_history.specs.declared.cause.Cause.TheVariants.{FromServer}
use Rattle.mux_history.specs.declared.out.Out.{Out}
use Rattle.mux_history.specs.declared.out.Out.TheVariants.{ToEditor}
use Rattle.rpc_message.specs.Message.{Id, message_of, request}
use Rattle.event_model.specs.declared.stage.Stage.TheVariants.{Ready}
use Rattle.event_model.specs.Does.{Does}
use Rattle.event_model.specs.Event.{Event, behind, said, took}
use Rattle.event_model.specs.Phases.{desk_of, is_running}
use Rattle.event_model.specs.Requests.{answered_id}
use Rattle.event_model.specs.Row.{Row, send}
use Rattle.event_model.specs.Settings.{Settings}
use Rattle.event_model.specs.Stages.{Life, is_first_result, is_initializing, life_of}
use Rattle.event_model.proofs.Frames.{never}
use Rattle.event_model.proofs.Turns.{does_knowing}
use Rattle.editor_session.specs.Sessions as sessions
use Rattle.editor_session.specs.Sessions.{session_of, unless_gone, with_session}
use Rattle.group_words.specs.Houses.{is_first_error}
use Rattle.group_laws.specs.group_rows.specs.Asks.{asking_of, is_patient, is_taken, may_wait, next_ask}
use Rattle.group_laws.specs.group_rows.specs.Live.{if_live, live_by, live_of, with_registered, without_these}
use Rattle.group_laws.specs.registrations.specs.declared.registration.Registration.{Registration}
use Rattle.group_laws.specs.registrations.specs.Items.{are_live, others, registered, unregistered}
use Rattle.mux_tables.specs.declared.tables.Start.{Start}
use Rattle.mux_tables.specs.declared.tables.Tables.{Tables}
use Rattle.mux_tables.specs.Puts.{IsNextAsk}
use Rattle.mux_tables.specs.Stands.{LiveAt, NamesAt, Stands, is_early, is_request, number_in, of_life, of_live}
use Rattle.mux_tables.proofs.Asking.{parked_by}
use Rattle.mux_tables.proofs.Frames.{open_stay}
use Rattle.group_laws.specs.group_rows.specs.Created.{created_next, created_of, is_creating, names_create}
use Rattle.mux_tokens.specs.Stands.{CreatedStay}
use Rattle.mux_tokens.proofs.Stays.{called_stays, is_notification, other_request}
use Rattle.mux_tables.proofs.TokenMoves.{heard_all, origins_stay}
use Rattle.mux_tables.proofs.Moves.{house_moves}
use Rattle.mux_tables.proofs.Parking.{impatient_stay}
use Rattle.mux_tables.proofs.Putting.{asked_so, none_left}
use Rattle.mux_tables.proofs.Publishing.{lists_by_stay, quiet_lists}
use Rattle.mux_tables.proofs.Registering.{heard_live, ready_live}
use Rattle.mux_tables.proofs.Said.{called_stay, does_send, told_house}
use Rattle.mux_tables.proofs.Served.{hears_answer, later_shown, server_moves}
use Rattle.mux_tables.proofs.Starts.{read_here, read_same, start_at_place}
use Rattle.mux_waits.proofs.Moves.{quiet_waits, silent_waits}

-- what is kept of a start that is ready
pub live_seen : (settings : Settings) (t : Tables) (events : List Event) (g : ℕ) (x z : Start) → slice_get t.lasts.items g ≡ Some x → g < length t.lasts.items → z ≡ get_or t.lasts.items g z → x.life.stage ≡ Ready → Stands settings t events → z.live ≡ live_of settings x.life.start events
live_seen settings t events g x z at within read ready st =
    ap (λ (w : Start). w.live) (read_same t.lasts.items g z x within read at) ∙ ready_live x.life.stage (live_of settings x.life.start events) x.live ready ((st.lasts.each g x at).parts of_live)

-- a request of these classes doesn't wait
impatient : (c d : Class) → c ≡ d → may_wait d ≡ false → may_wait c ≡ false
impatient c d is h = ap may_wait is ∙ h

module _ (settings : Settings) (t u : Tables) (events : List Event) (g s : ℕ) (z : Start) (body method : List ℕ) (id : Id) (params : Option Json) (kept : List Registration) (at : slice_get (map number_in t.lasts.items) g ≡ Some s) (within : g < length t.lasts.items) (read : z ≡ get_or t.lasts.items g z)
    (ready : z.life.stage ≡ Ready) (says : message_of body ≡ request id method params) (quiet : is_patient method ≡ false) (creates : is_creating method ≡ false) (untaken : is_taken (Some id) (asking_of settings s events) ≡ false)
    (keeps : z.live ≡ live_of settings z.life.start events → kept ≡ live_by (class_of method Server false) body (live_of settings z.life.start events))
    (set : u.lasts.items ≡ slice_set t.lasts.items g (record z { live = kept })) (es : u.editors ≡ t.editors) (gs : u.groups ≡ t.groups) (now : u.course ≡ t.course) (os : u.origins ≡ t.origins) (r : u.requests ≡ t.requests) where
  abbrev ev : Event
  ev = took (FromServer z.life.start body) (message_of body)

  here : slice_get t.lasts.items g ≡ Some z
  here = read_here t.lasts.items g z within read

  is : z.life.start ≡ s
  is = start_at_place t.lasts.items g s z here at

  registers : Stands settings t events → LiveAt z.life.stage (live_of settings z.life.start (events ++ ev ∷ [])) kept
  registers st =
      let stage : (life_of z.life.start events).stage ≡ Ready = ap (λ (l : Life). l.stage) ((st.lasts.each g z here).parts of_life) ∙ ready in
      subst (λ k. LiveAt k (live_of settings z.life.start (events ++ ev ∷ [])) kept) (sym ready)
      (keeps (live_seen settings t events g z z here within read ready st)
      ∙ sym (heard_live settings z.life.start z.life.start events body method (message_of body) id params says refl stage (ap (λ n. is_taken (Some id) (asking_of settings n events)) is ∙ untaken)))

  no_result : (b : Bool) → (is_first_result (message_of body) && b) ≡ false
  no_result b = ap (λ m. is_first_result m && b) says

  no_failure : (b : Bool) → (is_first_error (message_of body) && b) ≡ false
  no_failure b = ap (λ m. is_first_error m && b) says

  stays : CreatedStay settings s events (took (FromServer s body) (message_of body))
  stays = ap (λ m. created_next settings s events (created_of settings s events) (took (FromServer s body) m)) says ∙ other_request settings s s events (created_of settings s events) body id method params creates

  pub registered_moves : Stands settings t events → Stands settings u (events ++ took (FromServer s body) (message_of body) ∷ [])
  registered_moves st = server_moves settings t u events g s z body None z.life z.ids z.shown z.parked kept z.lists at within read (λ h. h) (later_shown z.life.start z.life.stage z.shown _ body (message_of body) (no_result (is_early z.life.stage)))
      (λ later asked h. h)
      (λ st h. parked_by settings t.requests z events ev (record { asks = open_stay settings z.life.start events ev refl; parked = impatient_stay settings z.life.start events body method (message_of body) id params says quiet }) h)
      (λ st h. registers st) (λ st h. lists_by_stay settings t.requests z events ev (quiet_lists z.life.start z.life.start events body (message_of body) (ap is_notification says)) h) refl refl (hears_answer z.life.stage (message_of body) (no_result (is_initializing z.life.stage))) (no_failure (is_initializing z.life.stage))
      (subst (λ m. NamesAt (answered_id m) None) (sym says) (λ n small. refl)) refl refl refl (λ o. o) set es gs now (origins_stay settings t.origins u.origins events (took (FromServer s body) (message_of body)) os (heard_all settings s events body (message_of body) stays) (λ rows. quiet_waits settings rows events (took (FromServer s body) (message_of body)) refl)) r st

-- S6
pub register_by : (settings : Settings) (t u : Tables) (events : List Event) (g s : ℕ) (x z : Start) (body method : List ℕ) (id : Id) (params : Option Json) (kept items : List Registration) → slice_get t.lasts.items g ≡ Some x → slice_get (map number_in t.lasts.items) g ≡ Some s → g < length t.lasts.items → z ≡ get_or t.lasts.items g z
    → x.life.stage ≡ Ready → message_of body ≡ request id method params → class_of method Server false ≡ Register → is_taken (Some id) (asking_of settings s events) ≡ false → registered body ≡ Some items → kept ≡ others items z.live ++ items
    → u.lasts.items ≡ slice_set t.lasts.items g (record z { live = kept }) → u.editors ≡ t.editors → u.groups ≡ t.groups → u.course ≡ t.course → u.origins ≡ t.origins → u.requests ≡ t.requests → Stands settings t events → Stands settings u (events ++ took (FromServer s body) (message_of body) ∷ [])
register_by settings t u events g s x z body method id params kept items is at within read ready says class untaken names left set es gs now os r st =
    registered_moves settings t u events g s z body method id params kept at within read (ap (λ (w : Start). w.life.stage) (read_same t.lasts.items g z x within read is) ∙ ready) says (impatient (class_of method Server false) Register class refl) (ap names_create class) untaken
    (λ was. left ∙ ap (λ rs. others items rs ++ items) was ∙ sym (ap (λ c. live_by c body (live_of settings z.life.start events)) class ∙ ap (λ o. with_registered o (live_of settings z.life.start events)) names)) set es gs now os r st

-- S7
taken_so : (live items : List Registration) (b : Bool) → without_these (if b then Some items else None) live ≡ (if b then others items live else live)
taken_so live items true = refl
taken_so live items false = refl

pub unregister_by : (settings : Settings) (t u : Tables) (events : List Event) (g s : ℕ) (x z : Start) (body method : List ℕ) (id : Id) (params : Option Json) (kept items : List Registration) → slice_get t.lasts.items g ≡ Some x → slice_get (map number_in t.lasts.items) g ≡ Some s → g < length t.lasts.items → z ≡ get_or t.lasts.items g z
    → x.life.stage ≡ Ready → message_of body ≡ request id method params → class_of method Server false ≡ Unregister → is_taken (Some id) (asking_of settings s events) ≡ false → unregistered body ≡ Some items → kept ≡ (if are_live items z.live then others items z.live else z.live)
    → u.lasts.items ≡ slice_set t.lasts.items g (record z { live = kept }) → u.editors ≡ t.editors → u.groups ≡ t.groups → u.course ≡ t.course → u.origins ≡ t.origins → u.requests ≡ t.requests → Stands settings t events → Stands settings u (events ++ took (FromServer s body) (message_of body) ∷ [])
unregister_by settings t u events g s x z body method id params kept items is at within read ready says class untaken names left set es gs now os r st =
    let live : List Registration = live_of settings z.life.start events in
    registered_moves settings t u events g s z body method id params kept at within read (ap (λ (w : Start). w.life.stage) (read_same t.lasts.items g z x within read is) ∙ ready) says (impatient (class_of method Server false) Unregister class refl) (ap names_create class) untaken
    (λ was. left ∙ ap (λ rs. if are_live items rs then others items rs else rs) was
    ∙ sym (ap (λ c. live_by c body live) class ∙ (ap (λ o. without_these (option_and_then (if_live live) o) live) names ∙ taken_so live items (are_live items live)))) set es gs now os r st

module _ (settings : Settings) (t u : Tables) (base : List Event) (xs : List Out) (e : ℕ) (text method : List ℕ) (ps : Option Json) (l : e < length t.editors) (runs : is_running (desk_of e (behind base xs)).phase ≡ true) (asks_next : IsNextAsk e (behind base xs) method ps text) where
  -- a number is left
  pub uncalled_does : {row : Row} (ys : List Out) → ◌≡◌ {A = Option ℕ} None (sessions.next_ask (session_of t.editors e)) → Does (λ t events. Stands settings t events) row base t xs u ys
  uncalled_does ys is = does_knowing {Stands = λ t events. Stands settings t events} (λ st. never (sym asks_next.left ∙ none_left settings t.editors (behind base xs) e l runs st.house.editors is))

  pub call_does : (ys : List Out) (n : ℕ) → is_patient method ≡ false → is_creating method ≡ false → ((s : ℕ) → (asking_of settings s (behind base xs)).asker ≡ None) → Some n ≡ sessions.next_ask (session_of t.editors e)
      → u.editors ≡ with_session t.editors e (unless_gone sessions.asked (session_of t.editors e)) → u.groups ≡ t.groups → u.course ≡ t.course → u.lasts ≡ t.lasts → u.origins ≡ t.origins → u.requests ≡ t.requests → ys ≡ xs ++ ToEditor e text ∷ []
      → Does (λ t events. Stands settings t events) (send (ToEditor e text)) base t xs u ys
  call_does ys n quiet creates none is set gs time ls os r said_so = does_send settings (ToEditor e text) base t u xs ys said_so
      (house_moves settings t u (behind base xs) (said (ToEditor e text)) (λ m. refl) (λ m. called_stay settings m e (behind base xs) text method _ ps asks_next.says quiet (none m)) refl (ap (λ v. v.items) ls)
      (origins_stay settings t.origins u.origins (behind base xs) (said (ToEditor e text)) os (λ m. called_stays settings m e (behind base xs) (created_of settings m (behind base xs)) text method (message_of text) _ ps asks_next.says creates) (λ rows. silent_waits settings (behind base xs) e text (message_of text) rows (ap answered_id asks_next.says))) r
      (λ h. told_house settings (behind base xs) e text t u (asked_so settings t.editors (behind base xs) e l runs h.editors u.editors text n is (ap is_request asks_next.says) set) gs time h))
