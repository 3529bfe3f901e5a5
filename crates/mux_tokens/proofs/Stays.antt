-- The events by which nothing happens to the tokens of a start.
use Rattle.std.proofs.Common.{◌≡◌, ℕ, Bool, true, false, not, ◌&&◌, List, [], ◌∷◌, ◌++◌, codes, flat_map, refl, sym, ◌∙◌, ap, nat_eq, if◌then◌else◌}
use Rattle.std.specs.Prelude.{Option, Some, None, is_some}
use Rattle.json_text.specs.Json.{Json}
use Rattle.mux_history.specs.declared.cause.Cause.TheVariants.{FromEditor, EditorGone, StartFailed, FromServer, ServerGone}
use Rattle.mux_history.specs.declared.out.Out.TheVariants.{CloseEditor, ToEditor}
use Rattle.rpc_message.specs.Message.{Id, Message, request, notification}
use Rattle.event_model.specs.Event.{Event, did, requests, took}
use Rattle.event_model.specs.Requests.{answered_id}
use Rattle.event_model.specs.Settings.{Settings}
use Rattle.event_model.specs.Stages.{is_ready, life_of}
use Rattle.event_model.proofs.Frames.{never}
use Rattle.group_rows.specs.Created.{Created, Taking, answered, created_next, created_of, created_token, is_answered, is_creating, is_progress, left, named_token, progressed, settled, spoken, token_called, token_marked, with_asked, with_token}
use Rattle.group_rows.specs.Asks.{next_ask}
use Rattle.group_rows.specs.Live.{is_heard}
use Rattle.mux_tokens.specs.Stands.{TakesNone}

-- An editor's message

-- what answers nothing
silent_list : (e : ℕ) (m : Message) (x : Created) (o : Option Id) → is_some o ≡ false → (cs : List Taking) → flat_map (λ c. if is_answered e o c then settled m x c else c ∷ []) cs ≡ cs
silent_list e m x (Some id) h cs = never h
silent_list e m x None h [] = refl
silent_list e m x None h (c ∷ cs) = go c.accepted (nat_eq c.editor e) (silent_list e m x None h cs)
  where
    go : (a b : Bool) → flat_map (λ c. if is_answered e None c then settled m x c else c ∷ []) cs ≡ cs
        → ((if not a && (b && false) then settled m x c else c ∷ []) ++ flat_map (λ c. if is_answered e None c then settled m x c else c ∷ []) cs) ≡ c ∷ cs
    go true b rest = ap (λ ds. c ∷ ds) rest
    go false true rest = ap (λ ds. c ∷ ds) rest
    go false false rest = ap (λ ds. c ∷ ds) rest

pub silent_answers : (e : ℕ) (m : Message) (x : Created) → is_some (answered_id m) ≡ false → answered e m x ≡ x
silent_answers e m x h = ap (λ cs. record { next = x.next; tokens = x.tokens; takings = cs }) (silent_list e m x (answered_id m) h x.takings)

pub silent_spoken : (e : ℕ) (m : Message) (x : Created) → requests (codes "shutdown") m ≡ false → is_some (answered_id m) ≡ false → spoken e m x ≡ x
silent_spoken e m x h k = ap (λ b. if b then left e x else answered e m x) h ∙ silent_answers e m x k

pub takes_none : (settings : Settings) (e : ℕ) (m : Message) (events : List Event) → requests (codes "shutdown") m ≡ false → is_some (answered_id m) ≡ false → TakesNone settings e m events
takes_none settings e m events h k s = silent_spoken e m (created_of settings s events) h k

-- no message of an editor, no `create` to one, and no message of this start
abbrev pub passes_by : ℕ → Event → Bool
passes_by s (took (FromEditor e body) m) = false
passes_by s (took (EditorGone e why) m) = false
passes_by s (took (StartFailed n) m) = not (nat_eq n s)
passes_by s (took (FromServer n body) m) = not (nat_eq n s)
passes_by s (took (ServerGone n) m) = not (nat_eq n s)
passes_by s (did (ToEditor e body) m) = false
passes_by s (did (CloseEditor e) m) = false
passes_by s other = true

other_start : (b : Bool) → not b ≡ true → b ≡ false
other_start false h = refl
other_start true h = never (sym h)

pub passes_stay : (settings : Settings) (s : ℕ) (events : List Event) (x : Created) (ev : Event) → passes_by s ev ≡ true → created_next settings s events x ev ≡ x
passes_stay settings s events x (took (FromEditor e body) m) h = never (sym h)
passes_stay settings s events x (took (EditorGone e why) m) h = never (sym h)
passes_stay settings s events x (took (StartFailed n) m) h = rw (other_start (nat_eq n s) h) refl
passes_stay settings s events x (took (FromServer n body) (request id method params)) h = rw (other_start (nat_eq n s) h) refl
passes_stay settings s events x (took (FromServer n body) (notification method params)) h = rw (other_start (nat_eq n s) h) refl
passes_stay settings s events x (took (ServerGone n) m) h = rw (other_start (nat_eq n s) h) refl
passes_stay settings s events x (did (ToEditor e body) m) h = never (sym h)
passes_stay settings s events x (did (CloseEditor e) m) h = never (sym h)
passes_stay settings s events x other h = refl

-- What a start says

abbrev pub is_request : Message → Bool
is_request (request id method params) = true
is_request other = false

abbrev pub is_notification : Message → Bool
is_notification (notification method params) = true
is_notification other = false

-- an answer
pub answer_stays : (settings : Settings) (s n : ℕ) (events : List Event) (x : Created) (body : List ℕ) (m : Message) → is_request m ≡ false → is_notification m ≡ false → created_next settings s events x (took (FromServer n body) m) ≡ x
answer_stays settings s n events x body (request id method params) h k = never h
answer_stays settings s n events x body (notification method params) h k = never k
answer_stays settings s n events x body other h k = refl

either : (b : Bool) (x y : Created) → y ≡ x → (if b then y else x) ≡ x
either true x y h = h
either false x y h = refl

off_mid : (a c : Bool) (x y : Created) → (if a && (false && c) then y else x) ≡ x
off_mid true c x y = refl
off_mid false c x y = refl

off_last : (a b c : Bool) (x y : Created) → c ≡ false → (if a && (b && c) then y else x) ≡ x
off_last true true c x y h = ap (λ d. if d then y else x) h
off_last true false c x y h = refl
off_last false b c x y h = refl

module _ (settings : Settings) (s n : ℕ) (events : List Event) (x : Created) (body : List ℕ) where
  -- a request that creates nothing: by its method, as it isn't heard, or by what it says
  pub other_request : (id : Id) (method : List ℕ) (params : Option Json) → is_creating method ≡ false → created_next settings s events x (took (FromServer n body) (request id method params)) ≡ x
  other_request id method params h = ap (λ b. if nat_eq n s && (b && is_heard settings s events id) then with_token (created_token body x) x else x) h ∙ off_mid (nat_eq n s) (is_heard settings s events id) x (with_token (created_token body x) x)

  pub unheard_request : (id : Id) (method : List ℕ) (params : Option Json) → is_heard settings s events id ≡ false → created_next settings s events x (took (FromServer n body) (request id method params)) ≡ x
  unheard_request id method params h = off_last (nat_eq n s) (is_creating method) (is_heard settings s events id) x (with_token (created_token body x) x) h

  pub refused_request : (id : Id) (method : List ℕ) (params : Option Json) → created_token body x ≡ None → created_next settings s events x (took (FromServer n body) (request id method params)) ≡ x
  refused_request id method params h = either (nat_eq n s && (is_creating method && is_heard settings s events id)) x (with_token (created_token body x) x) (ap (λ o. with_token o x) h)

  -- a notification that tells of no live token
  pub other_notification : (method : List ℕ) (params : Option Json) → is_progress method ≡ false → created_next settings s events x (took (FromServer n body) (notification method params)) ≡ x
  other_notification method params h = ap (λ b. if nat_eq n s && (b && is_ready (life_of s events).stage) then progressed body params (token_called (named_token params) x) x else x) h
      ∙ off_mid (nat_eq n s) (is_ready (life_of s events).stage) x (progressed body params (token_called (named_token params) x) x)

  pub unready_notification : (method : List ℕ) (params : Option Json) → is_ready (life_of s events).stage ≡ false → created_next settings s events x (took (FromServer n body) (notification method params)) ≡ x
  unready_notification method params h = off_last (nat_eq n s) (is_progress method) (is_ready (life_of s events).stage) x (progressed body params (token_called (named_token params) x) x) h

  pub untold_notification : (method : List ℕ) (params : Option Json) → token_called (named_token params) x ≡ None → created_next settings s events x (took (FromServer n body) (notification method params)) ≡ x
  untold_notification method params h = either (nat_eq n s && (is_progress method && is_ready (life_of s events).stage)) x (progressed body params (token_called (named_token params) x) x) (ap (λ o. progressed body params o x) h)

-- What an editor is sent

pub told_stays : (settings : Settings) (s e : ℕ) (events : List Event) (x : Created) (body : List ℕ) (m : Message) → is_request m ≡ false → created_next settings s events x (did (ToEditor e body) m) ≡ x
told_stays settings s e events x body (request id method params) h = never h
told_stays settings s e events x body other h = refl

pub called_stays : (settings : Settings) (s e : ℕ) (events : List Event) (x : Created) (body method : List ℕ) (m : Message) (id : Id) (params : Option Json) → m ≡ request id method params → is_creating method ≡ false → created_next settings s events x (did (ToEditor e body) m) ≡ x
called_stays settings s e events x body method m id params says h = ap (λ k. created_next settings s events x (did (ToEditor e body) k)) says ∙ by (is_creating method) h
  where
    by : (b : Bool) → b ≡ false → (if b then with_asked e (next_ask e events) (token_marked s params x) x else x) ≡ x
    by true k = never k
    by false k = refl
