-- A start publishes a list of diagnostics (S15), and its last lists are looked up (E12, L2), as the code has it.
use Rattle.std.proofs.Common.{◌≡◌, ℕ, suc, ◌+◌, ◌<◌, Bool, true, false, cond, ◌&&◌, List, [], ◌∷◌, ◌++◌, find, map, length, get_or, refl, ap, sym, subst, ◌∙◌, arith}
use Rattle.std.specs.Prelude.{Option, Some, None, nat_lt, slice_get, slice_set}
use Rattle.std.proofs.lemmas.Bool.{ltb-false, ltb-true}
use Rattle.std.proofs.lemmas.Option.{slice_get-get_or, slice_get_past}
use Rattle.json_text.specs.Json.{Json}
use Rattle.mux_history.specs.declared.cause.Cause.TheVariants.{FromServer}
use Rattle.rpc_message.specs.Message.{message_of, notification}
use Rattle.event_model.specs.declared.stage.Stage.TheVariants.{Ready}
use Rattle.event_model.specs.Event.{Event, took}
use Rattle.event_model.specs.Requests.{answered_id}
use Rattle.event_model.specs.Settings.{Settings}
use Rattle.event_model.specs.Stages.{Life, is_first_result, is_initializing, life_of}
use Rattle.diagnostics_route.specs.declared.last_list.LastList.{LastList}
use Rattle.diagnostics_route.specs.Published.{published}
use Rattle.diagnostics_route.specs.Rows.{is_of, number_from, number_in, with_list}
use Rattle.focus_switch.specs.Documents.{Documents}
use Rattle.group_words.specs.Houses.{is_first_error}
use Rattle.group_laws.specs.group_rows.specs.Created.{created_next, created_of}
use Rattle.group_laws.specs.group_rows.specs.Lists.{is_publishing, lists_of, sayings_of}
use Rattle.mux_tokens.specs.Stands.{CreatedStay}
use Rattle.mux_tokens.proofs.Stays.{other_notification}
use Rattle.mux_tables.specs.declared.tables.Start.{Start}
use Rattle.mux_tables.specs.declared.tables.Tables.{Tables}
use Rattle.mux_tables.specs.Documents.{DocumentsStand, nothing_owed}
use Rattle.mux_tables.specs.Stands.{ListsAt, NamesAt, Stands, is_early, is_request, number_in as start_in, of_life, of_lists}
use Rattle.mux_tables.proofs.Asking.{parked_by}
use Rattle.mux_tables.proofs.DocumentMoves.{documents_at}
use Rattle.mux_tables.proofs.Frames.{asks_stay, live_stay}
use Rattle.mux_tables.proofs.Publishing.{list_apart, listed, ready_lists}
use Rattle.mux_tables.proofs.Registering.{live_by_stay}
use Rattle.mux_tables.proofs.Served.{hears_answer, later_shown, server_moves}
use Rattle.mux_tables.proofs.Starts.{read_here, read_same, start_at_place}
use Rattle.mux_tables.proofs.TokenMoves.{heard_all, origins_stay}
use Rattle.mux_waits.proofs.Moves.{quiet_waits}

-- what is kept of a start that is ready
pub lists_seen : (settings : Settings) (t : Tables) (events : List Event) (g : ℕ) (x z : Start) → slice_get t.lasts.items g ≡ Some x → g < length t.lasts.items → z ≡ get_or t.lasts.items g z → x.life.stage ≡ Ready → Stands settings t events → z.lists ≡ lists_of x.life.start events
lists_seen settings t events g x z at within read ready st =
    ap (λ (w : Start). w.lists) (read_same t.lasts.items g z x within read at) ∙ ready_lists x.life.stage (lists_of x.life.start events) x.lists ready ((st.lasts.each g x at).parts of_lists)

-- S15
module _ (settings : Settings) (t u : Tables) (events : List Event) (g s : ℕ) (x z : Start) (body method : List ℕ) (params : Option Json) (list : LastList) (kept : List LastList) (is : slice_get t.lasts.items g ≡ Some x) (at : slice_get (map start_in t.lasts.items) g ≡ Some s) (within : g < length t.lasts.items) (read : z ≡ get_or t.lasts.items g z)
    (stage : x.life.stage ≡ Ready) (says : message_of body ≡ notification method params) (class : is_publishing method ≡ true) (gives : published (sayings_of s events) body ≡ Some list) (puts : kept ≡ with_list list z.lists)
    (set : u.lasts.items ≡ slice_set t.lasts.items g (record z { lists = kept })) (es : u.editors ≡ t.editors) (gs : u.groups ≡ t.groups) (now : u.course ≡ t.course) (os : u.origins ≡ t.origins) (r : u.requests ≡ t.requests) where
  abbrev ev : Event
  ev = took (FromServer z.life.start body) (message_of body)

  here : slice_get t.lasts.items g ≡ Some z
  here = read_here t.lasts.items g z within read

  own : z.life.start ≡ s
  own = start_at_place t.lasts.items g s z here at

  ready : z.life.stage ≡ Ready
  ready = ap (λ (w : Start). w.life.stage) (read_same t.lasts.items g z x within read is) ∙ stage

  publishes : Stands settings t events → ListsAt z.life.stage (lists_of z.life.start (events ++ ev ∷ [])) kept
  publishes st =
      let runs : (life_of z.life.start events).stage ≡ Ready = ap (λ (l : Life). l.stage) ((st.lasts.each g z here).parts of_life) ∙ ready in
      subst (λ k. ListsAt k (lists_of z.life.start (events ++ ev ∷ [])) kept) (sym ready)
      (puts ∙ (ap (with_list list) (lists_seen settings t events g z z here within read ready st)
      ∙ sym (listed z.life.start z.life.start events body method (message_of body) params says list refl runs class (ap (λ n. published (sayings_of n events) body) own ∙ gives))))

  no_result : (b : Bool) → (is_first_result (message_of body) && b) ≡ false
  no_result b = ap (λ m. is_first_result m && b) says

  no_failure : (b : Bool) → (is_first_error (message_of body) && b) ≡ false
  no_failure b = ap (λ m. is_first_error m && b) says

  untold : CreatedStay settings s events (took (FromServer s body) (message_of body))
  untold = ap (λ m. created_next settings s events (created_of settings s events) (took (FromServer s body) m)) says ∙ other_notification settings s s events (created_of settings s events) body method params (list_apart method class)

  pub publish_by : Stands settings t events → Stands settings u (events ++ took (FromServer s body) (message_of body) ∷ [])
  publish_by st = server_moves settings t u events g s z body None z.life z.ids z.shown z.parked z.live kept at within read (λ h. h) (later_shown z.life.start z.life.stage z.shown _ body (message_of body) (no_result (is_early z.life.stage)))
      (λ later asked h. h)
      (λ st h. parked_by settings t.requests z events ev (asks_stay settings z.life.start events ev (ap is_request says)) h)
      (λ st h. live_by_stay settings t.requests z events ev (live_stay settings z.life.start events ev (ap is_request says)) h)
      (λ st h. publishes st) refl refl (hears_answer z.life.stage (message_of body) (no_result (is_initializing z.life.stage))) (no_failure (is_initializing z.life.stage))
      (subst (λ m. NamesAt (answered_id m) None) (sym says) (λ n small. refl)) refl refl refl (λ o. o) set es gs now (origins_stay settings t.origins u.origins events (took (FromServer s body) (message_of body)) os (heard_all settings s events body (message_of body) untold) (λ rows. quiet_waits settings rows events (took (FromServer s body) (message_of body)) refl)) r st

-- E12: the list of a document is that of its number

-- the first list that is found has such a place
abbrev FoundAt : ℕ → ℕ → List ℕ → List LastList → Type 0
FoundAt n k u ls = (place : ℕ) × (k ≡ n + place) × (find (is_of u) ls ≡ slice_get ls place)

found_at : (n k : ℕ) (u : List ℕ) (ls : List LastList) → number_from n (is_of u) ls ≡ Some k → FoundAt n k u ls
found_at n k u [] h = absurd (cc)
found_at n k u (l ∷ ls) h = go (is_of u l) h (found_at (n + 1) k u ls)
  where
    go : (b : Bool) → cond b (Some n) (number_from (n + 1) (is_of u) ls) ≡ Some k → (number_from (n + 1) (is_of u) ls ≡ Some k → FoundAt (n + 1) k u ls)
        → (place : ℕ) × (k ≡ n + place) × (cond b (Some l) (find (is_of u) ls) ≡ slice_get (l ∷ ls) place)
    go true e rest = let same : n ≡ k = cc in (0, omega (arith, same), refl)
    go false e rest =
        let f : FoundAt (n + 1) k u ls = rest e in
        let is : k ≡ n + 1 + f.0 = f.1 in
        (suc f.0, omega (arith, is), f.2)

pub found_list : (u : List ℕ) (ls : List LastList) (n : ℕ) → number_in u ls ≡ Some n → find (is_of u) ls ≡ slice_get ls n
found_list u ls n h =
    let f : FoundAt 0 n u ls = found_at 0 n u ls h in
    let is : n ≡ 0 + f.0 = f.1 in
    let same : f.0 ≡ n = omega (arith, is) in
    f.2 ∙ ap (slice_get ls) same

lost_from : (n : ℕ) (u : List ℕ) (ls : List LastList) → number_from n (is_of u) ls ≡ None → find (is_of u) ls ≡ None
lost_from n u [] h = refl
lost_from n u (l ∷ ls) h = go (is_of u l) h (lost_from (n + 1) u ls)
  where
    go : (b : Bool) → cond b (Some n) (number_from (n + 1) (is_of u) ls) ≡ None → (number_from (n + 1) (is_of u) ls ≡ None → find (is_of u) ls ≡ None) → cond b (Some l) (find (is_of u) ls) ≡ None
    go true e rest = absurd (cc)
    go false e rest = rest e

pub no_list : (u : List ℕ) (ls : List LastList) → number_in u ls ≡ None → find (is_of u) ls ≡ None
no_list u ls h = lost_from 0 u ls h

-- S15: the documents of each group that has a start stand in its place
pub stored : (settings : Settings) (t : Tables) (events : List Event) (g : ℕ) (x : Start) → slice_get t.lasts.items g ≡ Some x → DocumentsStand settings nothing_owed t events → None ≡ slice_get t.documents.items g → ⊥
stored settings t events g x at ds none = let d = documents_at settings nothing_owed t events g x at ds in some_none d.0 (none ∙ d.1)
  where
    some_none : (d : Documents) → ◌≡◌ {A = Option Documents} None (Some d) → ⊥
    some_none d e = cc

-- what a look-up in a slice of these finds, and that it finds nothing

pub got : {X : Type 0} (items read : List X) (g : ℕ) (y : X) → read ≡ items → true ≡ nat_lt g (length read) → y ≡ get_or read g y → slice_get items g ≡ Some y
got items read g y same inside is = ap (λ xs. slice_get xs g) (sym same) ∙ (slice_get-get_or read g y (ltb-true g (length read) (sym inside)) ∙ ap Some (sym is))

pub got_none : {X : Type 0} (items read : List X) (g : ℕ) → read ≡ items → false ≡ nat_lt g (length read) → None ≡ slice_get items g
got_none items read g same past = sym (ap (λ xs. slice_get xs g) (sym same) ∙ slice_get_past read g (ltb-false g (length read) (sym past)))
