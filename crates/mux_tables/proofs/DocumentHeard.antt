-- The documents of all groups, where a cause comes that changes none.
use Rattle.std.proofs.Common.{◌≡◌, ℕ, ◌<◌, Bool, true, false, ◌&&◌, ◌||◌, List, [], ◌∷◌, ◌++◌, length, map, get_or, codes, refl, sym, ap, subst, ◌∙◌, arith}
use Rattle.std.specs.Prelude.{Option, Some, None, MatchOption, bytes_eq, slice_get, slice_set}
use Rattle.std.proofs.lemmas.Bool.{ne_eqb}
use Rattle.std.proofs.lemmas.Slice.Eq.{bytes_eq-Decides}
use Rattle.mux_history.specs.declared.cause.Cause.TheVariants.{Joined, FromEditor, FromServer, Started, Drained}
use Rattle.ask_route.specs.declared.ask.Ask.{Ask}
use Rattle.rpc_message.specs.Message.{Message, error, result, request, notification, not_json, not_message, message_of}
use Rattle.document_model.specs.Sayings.{saying_of, speaks}
use Rattle.event_model.specs.declared.phase.Phase.TheVariants.{New}
use Rattle.event_model.specs.declared.stage.Stage.{Stage}
use Rattle.event_model.specs.declared.stage.Stage.TheVariants.{Spawning, Initializing}
use Rattle.event_model.specs.Event.{Event, requests, took}
use Rattle.event_model.specs.Phases.{desk_of, is_served}
use Rattle.event_model.specs.Settings.{Settings}
use Rattle.event_model.specs.Spawns.{starts_of}
use Rattle.event_model.specs.Stages.{Life, is_first_result, is_initializing, life_of}
use Rattle.event_model.proofs.Frames.{never}
use Rattle.editor_session.specs.declared.session.Session.{Session}
use Rattle.focus_switch.specs.Documents.{Documents}
use Rattle.group_words.specs.Houses.{is_first_error, stops}
use Rattle.group_laws.specs.group_rows.proofs.Frames.{encoding_stays, texts_stay}
use Rattle.restart_replay.specs.Standings.{Standing}
use Rattle.id_rewrite.specs.Tables.{without}
use Rattle.mux_tables.specs.declared.tables.Start.{Start}
use Rattle.mux_tables.specs.declared.tables.Tables.{Tables}
use Rattle.mux_tables.specs.Documents.{DocumentsStand, Owed, SharedStands, StartTold, changes_documents}
use Rattle.mux_tables.specs.Notes.{NotesStand, has_left}
use Rattle.mux_tables.specs.Stands.{LastStands, Stands, begun_at, number_in, of_life, phase_in}
use Rattle.mux_tables.proofs.DocumentEvents.{heard_encoding, heard_texts, shared_heard, shared_other, shared_own, shared_quiet}
use Rattle.mux_tables.proofs.DocumentFrames.{owner_served, sent_stays, sent_unheard}
use Rattle.mux_tables.proofs.DocumentMoves.{Rest, documents_all, documents_last, founds_kept, quiet_documents, rest_quiet, starts_kept}
use Rattle.mux_tables.proofs.Lasts.{apart, known}
use Rattle.mux_tables.proofs.Placed.{groups_apart}
use Rattle.mux_tables.proofs.Noting.{joined_left, left_stays, moment_stays, notes_answered}
use Rattle.mux_tables.proofs.Starts.{read_here, read_same, start_at_place}

past_none : {X : Type 0} (xs : List X) → slice_get xs (length xs) ≡ None
past_none [] = refl
past_none (x ∷ xs) = past_none xs

-- J1
pub joined_documents : (settings : Settings) (owed : Owed) (t u : Tables) (events : List Event) (e : ℕ) → e ≡ length t.editors → u.lasts ≡ t.lasts → u.documents ≡ t.documents → u.versions ≡ t.versions → Stands settings t events
    → DocumentsStand settings owed t events → DocumentsStand settings owed u (events ++ took (Joined e) not_message ∷ [])
joined_documents settings owed t u events e next ls ds vs st = quiet_documents settings owed t u events (took (Joined e) not_message) refl refl (ap (λ v. v.items) ls) (ap (λ v. v.items) ds) vs (λ g o k. ne_eqb e o.editor (λ q. never (sym (owner_served settings events g o k) ∙ absent o.editor (sym q ∙ next))))
    (joined_left events e not_message (ap has_left (st.house.editors.phase e) ∙ ap (λ (o : Option Session). has_left (phase_in o)) (ap (slice_get t.editors) next ∙ past_none t.editors)))
  where
    absent : (n : ℕ) → n ≡ length t.editors → is_served (desk_of n events).phase ≡ false
    absent n is = ap is_served (st.house.editors.phase n) ∙ ap (λ (o : Option Session). is_served (phase_in o)) (ap (slice_get t.editors) is ∙ past_none t.editors)

-- X6
pub drained_documents : (settings : Settings) (owed : Owed) (t : Tables) (events : List Event) (e k : ℕ) → DocumentsStand settings owed t events → DocumentsStand settings owed t (events ++ took (Drained e k) not_message ∷ [])
drained_documents settings owed t events e k ds = quiet_documents settings owed t t events (took (Drained e k) not_message) refl refl refl refl refl (λ g o at. refl) (left_stays events (took (Drained e k) not_message) refl) ds

-- a message of an editor
pub rest_heard : (settings : Settings) (t : Tables) (events : List Event) (e : ℕ) (body : List ℕ) (m : Message) → changes_documents events e m ≡ false → Rest settings t events (events ++ took (FromEditor e body) m ∷ [])
rest_heard settings t events e body m q = record {
  texts = λ g l h. heard_texts settings g e body m events q ∙ h;
  encoding = λ g l. encoding_stays g events (took (FromEditor e body) m) refl;
  founds = founds_kept events (took (FromEditor e body) m) refl;
  starts = starts_kept events (took (FromEditor e body) m) refl;
  sent = λ s l. sent_stays s events (took (FromEditor e body) m) refl;
  moments = λ g x n p at there. moment_stays settings x.life.start n events (took (FromEditor e body) m) refl;
  left = left_stays events (took (FromEditor e body) m) refl;
}

pub heard_documents : (settings : Settings) (owed : Owed) (t u : Tables) (events : List Event) (e : ℕ) (body : List ℕ) (m : Message) → changes_documents events e m ≡ false → u.lasts ≡ t.lasts → u.documents ≡ t.documents → u.versions ≡ t.versions
    → DocumentsStand settings owed t events → DocumentsStand settings owed u (events ++ took (FromEditor e body) m ∷ [])
heard_documents settings owed t u events e body m q ls ds vs = documents_all settings owed owed t u events (events ++ took (FromEditor e body) m ∷ []) (rest_heard settings t events e body m q) vs (ap (λ v. v.items) ls) (ap (λ v. v.items) ds)
    (λ g x d at h. shared_heard settings events (owed x.life.group) x.life.group x.life.start x.life.stage d e body m q h)

-- a response, with what is kept of what its start asked
pub reply_documents : (settings : Settings) (owed : Owed) (t u : Tables) (events : List Event) (g e : ℕ) (z : Start) (left : List Ask) (body : List ℕ) → slice_get t.lasts.items g ≡ Some z → changes_documents events e (message_of body) ≡ false
    → u.lasts.items ≡ slice_set t.lasts.items g (record z { asks = left }) → u.documents ≡ t.documents → u.versions ≡ t.versions → DocumentsStand settings owed t events → DocumentsStand settings owed u (events ++ took (FromEditor e body) (message_of body) ∷ [])
reply_documents settings owed t u events g e z left body at q ls ds vs = documents_last settings owed owed t u events (events ++ took (FromEditor e body) (message_of body) ∷ []) (rest_heard settings t events e body (message_of body) q) vs g z (record z { asks = left }) at ls (ap (λ v. v.items) ds) (λ n. n)
    (λ d h. shared_heard settings events (owed z.life.group) z.life.group z.life.start z.life.stage d e body (message_of body) q h) (λ j w c away there h. shared_heard settings events (owed w.life.group) w.life.group w.life.start w.life.stage c e body (message_of body) q h)

-- its `initialize`, and one that stops all
pub first_unchanged : (settings : Settings) (t : Tables) (events : List Event) (e : ℕ) (x : Session) (m : Message) → slice_get t.editors e ≡ Some x → x.phase ≡ New → Stands settings t events → changes_documents events e m ≡ false
first_unchanged settings t events e x m at new st = ap (λ p. is_served p && (requests (codes "shutdown") m || speaks (saying_of m))) (st.house.editors.phase e ∙ (ap phase_in at ∙ new))

and_off : (b : Bool) → (b && false) ≡ false
and_off true = refl
and_off false = refl

and_first : (a b : Bool) → (a && b) ≡ true → a ≡ true
and_first true b h = refl
and_first false b h = never (sym h)

pub stop_unchanged : (before : List Event) (e : ℕ) (m : Message) → stops before e m ≡ true → changes_documents before e m ≡ false
stop_unchanged before e m h = ap (λ b. is_served (desk_of e before).phase && b) (named m (and_first (requests (codes "lspmux/stop") m) _ h)) ∙ and_off (is_served (desk_of e before).phase)
  where
    other : (method : List ℕ) → codes "lspmux/stop" ≡ method → bytes_eq (codes "shutdown") method ≡ false
    other method is = subst (λ w. bytes_eq (codes "shutdown") w ≡ false) is refl

    named : (m : Message) → requests (codes "lspmux/stop") m ≡ true → (requests (codes "shutdown") m || speaks (saying_of m)) ≡ false
    named (request id method ps) k = ap (λ b. b || false) (other method ((bytes_eq-Decides (codes "lspmux/stop") method).0 k))
    named other k = never (sym k)

-- the program runs
begun_told : (g : Stage) (life : Standing) (s : ℕ) (owed : List (List ℕ)) (d : Documents) (events : List Event) → life.stage ≡ g → StartTold life.stage s owed d events → StartTold (begun_at g life).stage s owed d events
begun_told Spawning life s owed d events is h = subst (λ (k : Stage). StartTold k s owed d events) is h
begun_told other life s owed d events is h = h

begun_number : (g : Stage) (life : Standing) → (begun_at g life).start ≡ life.start
begun_number Spawning life = refl
begun_number other life = refl

begun_group : (g : Stage) (life : Standing) → (begun_at g life).group ≡ life.group
begun_group Spawning life = refl
begun_group other life = refl

module _ (settings : Settings) (owed : Owed) (events : List Event) (s : ℕ) where
  abbrev later : List Event
  later = events ++ took (Started s) not_message ∷ []

  started_quiet : (j : ℕ) (y : Start) (c : Documents) → SharedStands settings events (owed y.life.group) y.life.group y.life.start y.life.stage c → SharedStands settings later (owed y.life.group) y.life.group y.life.start y.life.stage c
  started_quiet j y c h = shared_quiet settings events (owed y.life.group) y.life.group y.life.start y.life.stage c (took (Started s) not_message) refl (λ o k. refl) h

  begun : (g : ℕ) (z : Start) (life : Standing) (d : Documents) → life ≡ begun_at z.life.stage z.life → SharedStands settings later (owed z.life.group) z.life.group z.life.start z.life.stage d → SharedStands settings later (owed life.group) life.group life.start life.stage d
  begun g z life d is h = subst (λ (l : Standing). SharedStands settings later (owed l.group) l.group l.start l.stage d) (sym is)
      (subst (λ n. SharedStands settings later (owed n) n (begun_at z.life.stage z.life).start (begun_at z.life.stage z.life).stage d) (sym (begun_group z.life.stage z.life))
      (subst (λ n. SharedStands settings later (owed z.life.group) z.life.group n (begun_at z.life.stage z.life).stage d) (sym (begun_number z.life.stage z.life))
      (record { texts = h.texts; versions = h.versions; owned = h.owned; start = begun_told z.life.stage z.life z.life.start (owed z.life.group) d later refl h.start })))

  pub started_documents : (t u : Tables) (g : ℕ) (z : Start) (life : Standing) → g < length t.lasts.items → z ≡ get_or t.lasts.items g z → life ≡ begun_at z.life.stage z.life
      → u.lasts.items ≡ slice_set t.lasts.items g (record z { life = life; started = true }) → u.documents ≡ t.documents → u.versions ≡ t.versions
      → DocumentsStand settings owed t events → DocumentsStand settings owed u later
  started_documents t u g z life within read is set ds vs =
      documents_last settings owed owed t u events later (rest_quiet settings t events (took (Started s) not_message) refl refl (left_stays events (took (Started s) not_message) refl)) vs g z (record z { life = life; started = true }) (read_here t.lasts.items g z within read) set (ap (λ v. v.items) ds)
      (λ k. subst (λ n. NotesStand settings n z.ids.requests later) (sym (ap (λ (l : Standing). l.start) is ∙ begun_number z.life.stage z.life)) k)
      (λ d h. begun g z life d is (started_quiet g z d h)) (λ j y c away at h. started_quiet j y c h)

-- a message of a start that gives no encoding
pub rest_from : (settings : Settings) (t : Tables) (events : List Event) (n : ℕ) (body : List ℕ) (m : Message) → (is_first_result m && is_initializing (life_of n events).stage) ≡ false → n < starts_of events → Rest settings t events (events ++ took (FromServer n body) m ∷ [])
rest_from settings t events n body m later old = record {
  texts = λ g l h. texts_stay settings g events (took (FromServer n body) m) refl ∙ h;
  encoding = λ g l. heard_encoding g n body m events later;
  founds = founds_kept events (took (FromServer n body) m) refl;
  starts = starts_kept events (took (FromServer n body) m) refl;
  sent = λ s l. sent_unheard s n body m events (ne_eqb n s (λ q. absurd (omega (arith, q, l, old))));
  moments = λ g x k p at there. moment_stays settings x.life.start k events (took (FromServer n body) m) refl;
  left = left_stays events (took (FromServer n body) m) refl;
}

pub answer_documents : (settings : Settings) (owed : Owed) (t u : Tables) (events : List Event) (g s : ℕ) (z y : Start) (body : List ℕ) (m : Message) (k : Option ℕ) → slice_get (map number_in t.lasts.items) g ≡ Some s → g < length t.lasts.items → z ≡ get_or t.lasts.items g z
    → (is_first_result m && is_initializing z.life.stage) ≡ false → (z.life.stage ≡ Spawning → ⊥) → y.life ≡ z.life → MatchOption k (y.ids.requests ≡ z.ids.requests) (λ n. y.ids.requests ≡ without n z.ids.requests) → u.lasts.items ≡ slice_set t.lasts.items g y → u.documents ≡ t.documents → u.versions ≡ t.versions → Stands settings t events
    → DocumentsStand settings owed t events → DocumentsStand settings owed u (events ++ took (FromServer s body) m ∷ [])
answer_documents settings owed t u events g s z y body m k at within read later runs life taken set ds vs st =
    subst (λ n. DocumentsStand settings owed t events → DocumentsStand settings owed u (events ++ took (FromServer n body) m ∷ [])) (start_at_place t.lasts.items g s z here at)
    (documents_last settings owed owed t u events (events ++ took (FromServer z.life.start body) m ∷ []) (rest_from settings t events z.life.start body m told (known settings t.requests t.origins.groups.items events z.life.group z st.origins last)) vs g z y here set (ap (λ v. v.items) ds)
    (λ h. subst (λ (l : Standing). NotesStand settings l.start y.ids.requests (events ++ took (FromServer z.life.start body) m ∷ [])) (sym life) (notes_answered settings z.life.start k y.ids.requests z.ids.requests (events ++ took (FromServer z.life.start body) m ∷ []) taken h))
    (λ d h. subst (λ (l : Standing). SharedStands settings (events ++ took (FromServer z.life.start body) m ∷ []) (owed l.group) l.group l.start l.stage d) (sym life) (shared_own settings events (owed z.life.group) z.life.group z.life.start z.life.stage d body m told stage runs h))
    (λ j w c away there h. shared_other settings events (owed w.life.group) w.life.group w.life.start w.life.stage c z.life.start body m told (apart settings t.requests events z.life.group w.life.group z w (groups_apart t.lasts.items g j z w st.lasts.rise here there away) last (st.lasts.each j w there)) h))
  where
    here : slice_get t.lasts.items g ≡ Some z
    here = read_here t.lasts.items g z within read

    last : LastStands settings t.requests events z.life.group z
    last = st.lasts.each g z here

    stage : (life_of z.life.start events).stage ≡ z.life.stage
    stage = ap (λ (l : Life). l.stage) (last.parts of_life)

    told : (is_first_result m && is_initializing (life_of z.life.start events).stage) ≡ false
    told = ap (λ k. is_first_result m && is_initializing k) stage ∙ later

pub error_only : (m : Message) → is_first_error m ≡ true → (b : Bool) → (is_first_result m && b) ≡ false
error_only (error id x) h b = refl
error_only (result id x) h b = never (sym h)
error_only (request id method ps) h b = refl
error_only (notification method ps) h b = refl
error_only not_json h b = refl
error_only not_message h b = refl

pub initializing_runs : (g : Stage) → g ≡ Initializing → g ≡ Spawning → ⊥
initializing_runs g e h = absurd (clash (sym e ∙ h))
  where
    clash : Initializing ≡ Spawning → ⊥
    clash q = cc

pub answer_documents_by : (settings : Settings) (owed : Owed) (t u : Tables) (events : List Event) (g s : ℕ) (x z y : Start) (body : List ℕ) (m : Message) (k : Option ℕ) → slice_get t.lasts.items g ≡ Some x → slice_get (map number_in t.lasts.items) g ≡ Some s → g < length t.lasts.items → z ≡ get_or t.lasts.items g z
    → (is_first_result m && is_initializing x.life.stage) ≡ false → (x.life.stage ≡ Spawning → ⊥) → y.life ≡ z.life → MatchOption k (y.ids.requests ≡ z.ids.requests) (λ n. y.ids.requests ≡ without n z.ids.requests) → u.lasts.items ≡ slice_set t.lasts.items g y → u.documents ≡ t.documents → u.versions ≡ t.versions → Stands settings t events
    → DocumentsStand settings owed t events → DocumentsStand settings owed u (events ++ took (FromServer s body) m ∷ [])
answer_documents_by settings owed t u events g s x z y body m k is at within read later runs life taken set ds vs st =
    let same : z ≡ x = read_same t.lasts.items g z x within read is in
    answer_documents settings owed t u events g s z y body m k at within read (ap (λ (w : Start). is_first_result m && is_initializing w.life.stage) same ∙ later) (λ e. runs (ap (λ (w : Start). w.life.stage) (sym same) ∙ e)) life taken set ds vs st
