-- A start creates a token (S8) or tells of one (S13), and an editor is asked to take one, as the code has it.
use Rattle.std.proofs.Common.{◌≡◌, ℕ, ◌<◌, Bool, true, false, not, ◌&&◌, List, [], ◌∷◌, ◌++◌, find, map, length, get_or, refl, ap, sym, subst, ◌∙◌}
use Rattle.std.specs.Prelude.{Option, Some, None, MatchOption, codes, is_some, option_map, slice_get, slice_set, if◌then◌else◌}
use Rattle.json_text.specs.Json.{Json}
use Rattle.lsp_method.specs.Class.{class_of}
use Rattle.lsp_method.specs.declared.variants.Class.{Class}
use Rattle.lsp_method.specs.declared.variants.Class.TheVariants.{Create}
use Rattle.lsp_method.specs.declared.variants.Origin.TheVariants.{Server}
use Rattle.mux_history.specs.declared.cause.Cause.TheVariants.{FromEditor, FromServer}
use Rattle.mux_history.specs.declared.out.Out.{Out}
use Rattle.mux_history.specs.declared.out.Out.TheVariants.{ToEditor}
use Rattle.rpc_message.specs.Message.{Id, message_of, notification, request}
use Rattle.rpc_message.specs.ValueTexts.{IsIdText}
use Rattle.event_model.specs.declared.stage.Stage.TheVariants.{Ready}
use Rattle.event_model.specs.Does.{Does}
use Rattle.event_model.specs.Event.{Event, behind, heard, requests, said, took}
use Rattle.event_model.specs.Phases.{desk_of, is_running}
use Rattle.event_model.specs.Requests.{answered_id}
use Rattle.event_model.specs.Row.{Row, send}
use Rattle.event_model.specs.Settings.{Settings}
use Rattle.event_model.specs.Stages.{Life, is_first_result, is_initializing, is_ready, life_of}
use Rattle.event_model.proofs.Frames.{never}
use Rattle.event_model.proofs.Turns.{does_knowing}
use Rattle.editor_session.specs.Sessions as sessions
use Rattle.editor_session.specs.Sessions.{session_of, unless_gone, with_session}
use Rattle.group_words.specs.Houses.{is_first_error}
use Rattle.group_laws.specs.group_rows.specs.Asks.{asking_of, has_number, is_patient, is_taken, may_wait, next_ask}
use Rattle.group_laws.specs.group_rows.specs.Created as fold
use Rattle.group_laws.specs.group_rows.specs.Created.{Created, Taking, Token, created_of, created_token, is_answered, is_begin, is_creating, is_end, is_numbered, is_progress, named_token, names_create, token_called}
use Rattle.group_laws.specs.group_rows.specs.Forwarded.{names}
use Rattle.group_laws.specs.group_rows.specs.Live.{changes_live, is_heard, is_registering}
use Rattle.mux_tokens.specs.progress_route.specs.declared.kind.Kind.{Kind}
use Rattle.mux_tokens.specs.progress_route.specs.Tables.{created, put_to}
use Rattle.mux_tokens.specs.progress_route.specs.Tables as table
use Rattle.mux_tokens.specs.progress_route.specs.declared.tokens.Handed.{Handed}
use Rattle.mux_tokens.specs.Rows.{Rows, changed, edited, table_of}
use Rattle.mux_tokens.specs.Stands.{AreFresh, CreatedStand, IsOffer, TakesOne}
use Rattle.mux_tokens.proofs.Seen.{given_seen, none_named, number_seen}
use Rattle.mux_tokens.proofs.Stays.{is_notification}
use Rattle.mux_tokens.proofs.Standing.{answer_moves as reply_tokens, asked_moves, create_moves, next_token, stay_stands, told_moves, unnamed_answers}
use Rattle.mux_tables.specs.declared.tables.Start.{Start}
use Rattle.mux_tables.specs.declared.tables.Tables.{Tables}
use Rattle.mux_tables.specs.Stands.{NamesAsk, Stands, is_early, is_request, number_in, of_life}
use Rattle.mux_tables.proofs.TokenMoves.{OriginsMove, WaitsStay, same_waits}
use Rattle.mux_tables.proofs.Frames.{asks_stay, live_stay}
use Rattle.mux_tables.proofs.Moves.{house_moves}
use Rattle.mux_tables.proofs.Parking.{impatient_stay}
use Rattle.mux_tables.proofs.Putting.{asked_so, below, none_left, one_left}
use Rattle.mux_tables.proofs.Said.{called_stay, does_send, told_house}
use Rattle.mux_tables.proofs.Publishing.{other_lists, progress_apart, quiet_lists}
use Rattle.mux_tables.proofs.Registering.{other_live}
use Rattle.mux_tables.proofs.Sent.{same_set}
use Rattle.mux_tables.proofs.Served.{answer_moves}
use Rattle.mux_tables.proofs.Starts.{read_here, read_same, start_at_place}
use Rattle.mux_waits.proofs.Moves.{quiet_waits, silent_waits}

-- what creates doesn't wait, and registers nothing
creating_waits : (c : Class) → names_create c ≡ true → may_wait c ≡ false
creating_waits Create h = refl
creating_waits _ h = never (sym h)

creating_live : (c : Class) → names_create c ≡ true → changes_live c ≡ false
creating_live Create h = refl
creating_live _ h = never (sym h)

pub creates_impatient : (method : List ℕ) → is_creating method ≡ true → is_patient method ≡ false
creates_impatient method h = creating_waits (class_of method Server false) h

creates_apart : (method : List ℕ) → is_creating method ≡ true → is_registering method ≡ false
creates_apart method h = creating_live (class_of method Server false) h

module _ (settings : Settings) (t u : Tables) (events : List Event) (g s n : ℕ) (x z : Start) (is : slice_get t.lasts.items g ≡ Some x) (at : slice_get (map number_in t.lasts.items) g ≡ Some s) (within : g < length t.lasts.items) (read : z ≡ get_or t.lasts.items g z) (ready : x.life.stage ≡ Ready) (start : n ≡ z.life.start)
    (ls : u.lasts ≡ t.lasts) (es : u.editors ≡ t.editors) (gs : u.groups ≡ t.groups) (now : u.course ≡ t.course) (og : u.origins.groups ≡ t.origins.groups) (sk : u.origins.stopping ≡ t.origins.stopping) (wt : u.origins.waiting ≡ t.origins.waiting) (r : u.requests ≡ t.requests) (st : Stands settings t events) where
  here : slice_get t.lasts.items g ≡ Some z
  here = read_here t.lasts.items g z within read

  own : n ≡ s
  own = start ∙ start_at_place t.lasts.items g s z here at

  stage : (life_of s events).stage ≡ Ready
  stage = ap (λ k. (life_of k events).stage) (sym (start_at_place t.lasts.items g s x is at)) ∙ (ap (λ (l : Life). l.stage) ((st.lasts.each g x is).parts of_life) ∙ ready)

  set : u.lasts.items ≡ slice_set t.lasts.items g z
  set = ap (λ v. v.items) ls ∙ sym (same_set t.lasts.items g z here)

  -- S8
  pub create_by : (body method token : List ℕ) (id : Id) (params : Option Json) (new : Token) → u.origins.created ≡ changed n (created token) t.origins.created → message_of body ≡ request id method params → is_creating method ≡ true → is_taken (Some id) (asking_of settings s events) ≡ false
      → created_token body (created_of settings s events) ≡ Some new → token ≡ new.text → Stands settings u (events ++ took (FromServer s body) (message_of body) ∷ [])
  create_by body method token id params new cr says creates untaken makes text =
      let next = next_token body (created_of settings s events) new makes in
      let heard : is_heard settings s events id ≡ true = ap (λ k. is_ready k && not (is_taken (Some id) (asking_of settings s events))) stage ∙ ap (λ b. not b) untaken in
      answer_moves settings t u events g s x z body None z.ids is at within read (ap (λ m. is_first_result m && is_early x.life.stage) says) (ap (λ m. is_first_error m && is_initializing x.life.stage) says)
      (impatient_stay settings s events body method (message_of body) id params says (creates_impatient method creates)) (other_live settings s s events body method (message_of body) id params says (creates_apart method creates)) (quiet_lists s s events body (message_of body) (ap is_notification says))
      (λ k small. ap (λ m. names (answered_id m) k) says) refl refl refl (λ o. o) set es gs now
      (record {
        groups = og;
        stopping = sk;
        created = λ h. subst (λ (rows : Rows). CreatedStand settings rows (events ++ took (FromServer s body) (message_of body) ∷ [])) (sym (cr ∙ (ap (λ k. changed k (created token) t.origins.created) own ∙ ap (λ w. changed s (created w) t.origins.created) text)))
            (create_moves settings t.origins.created events s body method (message_of body) id params new says creates heard makes next.0 next.1 h);
        waiting = same_waits settings t.origins u.origins events (took (FromServer s body) (message_of body)) wt (λ rows. quiet_waits settings rows events (took (FromServer s body) (message_of body)) refl);
      }) r st

  -- S13
  pub progress_by : (body method token : List ℕ) (params : Option Json) (i : Id) (kind : Kind) → u.origins.created ≡ edited n (table.taken token body kind) t.origins.created → message_of body ≡ notification method params → is_progress method ≡ true → named_token params ≡ Some i → IsIdText i token
      → table.is_begin kind ≡ is_begin params → table.is_end kind ≡ is_end params → Stands settings u (events ++ took (FromServer s body) (message_of body) ∷ [])
  progress_by body method token params i kind cr says tells names_it text begun ends =
      let x_now : Created = created_of settings s events in
      answer_moves settings t u events g s x z body None z.ids is at within read (ap (λ m. is_first_result m && is_early x.life.stage) says) (ap (λ m. is_first_error m && is_initializing x.life.stage) says)
      (asks_stay settings s events (took (FromServer s body) (message_of body)) (ap is_request says)).parked (live_stay settings s events (took (FromServer s body) (message_of body)) (ap is_request says)) (other_lists s s events body method (message_of body) params says (progress_apart method tells))
      (λ k small. ap (λ m. names (answered_id m) k) says) refl refl refl (λ o. o) set es gs now
      (record {
        groups = og;
        stopping = sk;
        created = λ h. subst (λ (rows : Rows). CreatedStand settings rows (events ++ took (FromServer s body) (message_of body) ∷ [])) (sym (cr ∙ ap (λ k. edited k (table.taken token body kind) t.origins.created) own))
            (told_moves settings t.origins.created events s body method (message_of body) params kind token (token_called (named_token params) x_now) says tells (ap is_ready stage) refl
            (number_seen settings t.origins.created events h s i token text ∙ ap (λ o. option_map (λ (w : Token). w.number) (token_called o x_now)) (sym names_it)) begun ends h);
        waiting = same_waits settings t.origins u.origins events (took (FromServer s body) (message_of body)) wt (λ rows. quiet_waits settings rows events (took (FromServer s body) (message_of body)) refl);
      }) r st

-- S8 and L2
pub offer_does : (settings : Settings) (t u : Tables) (base : List Event) (xs ys : List Out) (s e k n m : ℕ) (text : List ℕ) → e < length t.editors → is_running (desk_of e (behind base xs)).phase ≡ true → IsOffer settings s e k (behind base xs) text → ((j : ℕ) → (asking_of settings j (behind base xs)).asker ≡ None)
    → Some n ≡ sessions.next_ask (session_of t.editors e) → m ≡ s → u.editors ≡ with_session t.editors e (unless_gone sessions.asked (session_of t.editors e)) → u.groups ≡ t.groups → u.course ≡ t.course → u.lasts ≡ t.lasts → u.origins.groups ≡ t.origins.groups → u.origins.stopping ≡ t.origins.stopping
    → u.origins.created ≡ changed m (put_to k e n) t.origins.created → u.origins.waiting ≡ t.origins.waiting → u.requests ≡ t.requests → ys ≡ xs ++ ToEditor e text ∷ [] → Does (λ t events. Stands settings t events) (send (ToEditor e text)) base t xs u ys
offer_does settings t u base xs ys s e k n m text l runs offer none is own set gs now ls og sk cr wt r said_so = does_knowing {Stands = λ t events. Stands settings t events} (λ st.
    let before : List Event = behind base xs in
    let left = one_left settings t.editors before e l runs st.house.editors n is in
    does_send settings (ToEditor e text) base t u xs ys said_so
    (house_moves settings t u before (said (ToEditor e text)) (λ j. refl) (λ j. called_stay settings j e before text offer.method _ offer.params offer.says (creates_impatient offer.method offer.creates) (none j)) refl (ap (λ v. v.items) ls)
    (record {
      groups = og;
      stopping = sk;
      created = λ h. subst (λ (rows : Rows). CreatedStand settings rows (before ++ said (ToEditor e text) ∷ []))
          (sym (cr ∙ (ap (λ j. changed j (put_to k e n) t.origins.created) own ∙ (ap (λ j. changed s (put_to k e j) t.origins.created) left.0 ∙ ap (λ j. changed s (put_to j e (next_ask e before)) t.origins.created) (sym offer.number)))))
          (asked_moves settings t.origins.created before s e text offer.method (message_of text) _ offer.params offer.token offer.says offer.creates offer.marked
          (ap (λ j. find (is_numbered j) (created_of settings s before).tokens) offer.number ∙ offer.live) offer.others (below (next_ask e before) left.1) (subst (λ j. AreFresh e (next_ask e before) j (created_of settings s before).takings) (sym offer.number) offer.fresh) h);
      waiting = same_waits settings t.origins u.origins before (said (ToEditor e text)) wt (λ rows. silent_waits settings before e text (message_of text) rows (ap answered_id offer.says));
    }) r
    (λ h. told_house settings before e text t u (asked_so settings t.editors before e l runs h.editors u.editors text n is (ap is_request offer.says) set) gs now h)))

-- no number is left
pub unoffered_does : (settings : Settings) (t u : Tables) (base : List Event) (xs ys : List Out) (e : ℕ) {row : Row} → e < length t.editors → is_running (desk_of e (behind base xs)).phase ≡ true → has_number e (behind base xs) ≡ true → ◌≡◌ {A = Option ℕ} None (sessions.next_ask (session_of t.editors e))
    → Does (λ t events. Stands settings t events) row base t xs u ys
unoffered_does settings t u base xs ys e l runs left is = does_knowing {Stands = λ t events. Stands settings t events} (λ st. never (sym left ∙ none_left settings t.editors (behind base xs) e l runs st.house.editors is))

-- What is read

pub number_is : (xs : List Start) (g : ℕ) (x z : Start) (n : ℕ) → slice_get xs g ≡ Some x → g < length xs → z ≡ get_or xs g z → n ≡ z.life.start → n ≡ x.life.start
number_is xs g x z n at within read own = own ∙ ap number_in (read_same xs g z x within read at)

pub some_number : (o : Option Token) → is_some (option_map (λ (t : Token). t.number) o) ≡ is_some o
some_number None = refl
some_number (Some t) = refl

-- E19: what an editor answers of what the last start of its group asked of it
pub reply_moves : (settings : Settings) (t u : Tables) (events : List Event) (s m e : ℕ) (n : Option ℕ) (takes : Bool) (body : List ℕ) → m ≡ s → u.origins.groups ≡ t.origins.groups → u.origins.stopping ≡ t.origins.stopping → u.origins.waiting ≡ t.origins.waiting → WaitsStay settings events (heard (FromEditor e body))
    → MatchOption n (u.origins.created ≡ t.origins.created) (λ k. u.origins.created ≡ edited m (table.answered e k takes) t.origins.created) → NamesAsk (answered_id (message_of body)) n → takes ≡ fold.accepts (message_of body) → requests (codes "shutdown") (message_of body) ≡ false
    → TakesOne settings s e (message_of body) events → OriginsMove settings t.origins u.origins events (heard (FromEditor e body))
reply_moves settings t u events s m e None takes body same og sk wt waits cr named accepted runs others = record {
  groups = og;
  stopping = sk;
  waiting = same_waits settings t.origins u.origins events (heard (FromEditor e body)) wt waits;
  created = λ h. subst (λ (rows : Rows). CreatedStand settings rows (events ++ heard (FromEditor e body) ∷ [])) (sym cr)
      (stay_stands settings t.origins.created events (heard (FromEditor e body)) (λ j. ap (λ b. if b then fold.left e (created_of settings j events) else fold.answered e (message_of body) (created_of settings j events)) runs ∙ unnamed_answers settings t.origins.created events j e (message_of body) named h) h);
}
reply_moves settings t u events s m e (Some k) takes body same og sk wt waits cr named accepted runs others = record {
  groups = og;
  stopping = sk;
  waiting = same_waits settings t.origins u.origins events (heard (FromEditor e body)) wt waits;
  created = λ h. subst (λ (rows : Rows). CreatedStand settings rows (events ++ heard (FromEditor e body) ∷ [])) (sym (cr ∙ ap (λ j. edited j (table.answered e k takes) t.origins.created) same))
      (reply_tokens settings t.origins.created events s e k body (message_of body) takes runs named accepted others h);
}

-- what it gives
abbrev pub handed_pair : Handed → ℕ × List (List ℕ)
handed_pair h = (h.token, h.bodies.items)

abbrev pub taken_pair : Bool → Taking → ℕ × List (List ℕ)
taken_pair takes c = (c.token, if takes then c.held else [])

pub handed_seen : (settings : Settings) (t : Tables) (events : List Event) (s m e : ℕ) (n : Option ℕ) (takes : Bool) (body : List ℕ) (o : Option Handed) → m ≡ s → MatchOption n (o ≡ None) (λ k. option_map handed_pair o ≡ table.given e k takes (table_of m t.origins.created)) → NamesAsk (answered_id (message_of body)) n → Stands settings t events
    → option_map handed_pair o ≡ option_map (taken_pair takes) (find (is_answered e (answered_id (message_of body))) (created_of settings s events).takings)
handed_seen settings t events s m e None takes body o same is named st =
    ap (option_map handed_pair) is ∙ sym (ap (option_map (taken_pair takes)) (none_named e (message_of body) named (created_of settings s events).takings (st.created.each s).small))
handed_seen settings t events s m e (Some k) takes body o same is named st =
    is ∙ (ap (λ j. table.given e k takes (table_of j t.origins.created)) same ∙ given_seen settings t.origins.created events st.created s e k (message_of body) takes named)
