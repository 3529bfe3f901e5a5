-- What an editor was asked to take, whatever the events are: what it was asked later has a greater number.
use Rattle.std.proofs.Common.{◌≡◌, ℕ, ◌<◌, Bool, true, false, not, ◌&&◌, List, [], ◌∷◌, ◌++◌, codes, filter, nat_eq, if◌then◌else◌, refl, sym, subst, ◌∙◌, ap}
use Rattle.std.specs.Prelude.{Option, Some, None}
use Rattle.std.specs.List.{AllByRecursion}
use Rattle.json_text.specs.Json.{Json}
use Rattle.mux_history.specs.declared.cause.Cause.TheVariants.{FromEditor, EditorGone, StartFailed, FromServer, ServerGone}
use Rattle.mux_history.specs.declared.out.Out.TheVariants.{CloseEditor, ToEditor}
use Rattle.rpc_message.specs.Message.{Message, request, notification}
use Rattle.event_model.specs.Event.{Event, did, requests, took}
use Rattle.event_model.specs.Requests.{answered_id}
use Rattle.event_model.specs.Settings.{Settings}
use Rattle.event_model.specs.Stages.{life_of, is_ready}
use Rattle.group_words.specs.Past.{past}
use Rattle.group_rows.specs.Asks.{next_ask}
use Rattle.group_rows.specs.Created.{Created, Taking, Token, accepts, answered, asked, created_next, created_of, created_token, is_answered, is_at, is_creating, is_over, is_progress, left, lives, named_token, no_created, progressed, settled, told, token_called, token_marked, with_asked, with_token}
use Rattle.group_rows.specs.Live.{is_heard}
use Rattle.mux_tokens.specs.Stands.{Pairs}
use Rattle.mux_tokens.proofs.Below.{IsAsked, later_asked, step_asked}
use Rattle.mux_tokens.proofs.Finding.{all_so}
use Rattle.mux_tokens.proofs.Rows.{num_same}
use Rattle.mux_tokens.proofs.Seats.{IsFew, SameSeat, pairs_kept, pairs_last, pairs_mapped, pairs_spread}
use Rattle.mux_tokens.proofs.Told.{same_taking}

-- the one behind, where it is of the same editor, has a greater number
abbrev pub IsLater : Taking → Taking → Type 0
IsLater c d = is_at c.editor d ≡ true → c.number < d.number

later_left : (a b d : Taking) → SameSeat a d → IsLater a b → IsLater d b
later_left a b d s h at = subst (λ n. n < b.number) (sym s.number) (h (ap (λ k. nat_eq b.editor k) (sym s.editor) ∙ at))

later_right : (a b d : Taking) → SameSeat b d → IsLater a b → IsLater a d
later_right a b d s h at = subst (λ n. a.number < n) (sym s.number) (h (ap (λ k. nat_eq k a.editor) (sym s.editor) ∙ at))

told_rising : (body : List ℕ) (params : Option Json) (o : Option Token) (x : Created) → Pairs IsLater x.takings → Pairs IsLater (progressed body params o x).takings
told_rising body params None x h = h
told_rising body params (Some t) x h = pairs_mapped IsLater later_left later_right (told t.number body params) (λ c. (same_taking t.number body params c).seat)
    (filter (λ c. not (is_over t.number params c)) x.takings) (pairs_kept IsLater (λ c. not (is_over t.number params c)) x.takings h)

answered_rising : (e : ℕ) (m : Message) (x : Created) → Pairs IsLater x.takings → Pairs IsLater (answered e m x).takings
answered_rising e m x h = pairs_spread IsLater later_left later_right (λ c. if is_answered e (answered_id m) c then settled m x c else c ∷ []) few x.takings h
  where
    few : (c : Taking) → IsFew c (if is_answered e (answered_id m) c then settled m x c else c ∷ [])
    few c = go (is_answered e (answered_id m) c) (accepts m && lives c.token x)
      where
        go : (a b : Bool) → IsFew c (if a then (if b then record c { accepted = true; held = [] } ∷ [] else []) else c ∷ [])
        go true true = record { editor = refl; number = refl; token = refl }
        go true false = tt
        go false b = record { editor = refl; number = refl; token = refl }

left_rising : (e : ℕ) (x : Created) → Pairs IsLater x.takings → Pairs IsLater (left e x).takings
left_rising e x h = pairs_kept IsLater (λ c. not (is_at e c)) x.takings h

asked_rising : (e : ℕ) (events : List Event) (o : Option Token) (x : Created) → AllByRecursion (IsAsked events) x.takings → Pairs IsLater x.takings → Pairs IsLater (with_asked e (next_ask e events) o x).takings
asked_rising e events None x below h = h
asked_rising e events (Some t) x below h = pairs_last IsLater x.takings (asked e (next_ask e events) t) h
    (all_so (IsAsked events) (λ d. IsLater d (asked e (next_ask e events) t)) (λ d k at. subst (λ n. d.number < next_ask n events) (sym (num_same e d.editor at)) k) x.takings below)

if_rising : (b : Bool) (x y : Created) → Pairs IsLater x.takings → Pairs IsLater y.takings → Pairs IsLater (if b then x else y).takings
if_rising true x y h k = h
if_rising false x y h k = k

module _ (settings : Settings) (s : ℕ) where
  step_rising : (before : List Event) (x : Created) (ev : Event) → AllByRecursion (IsAsked before) x.takings → Pairs IsLater x.takings → Pairs IsLater (created_next settings s before x ev).takings
  step_rising before x (took (FromServer n body) (request id method params)) below h = go (nat_eq n s && (is_creating method && is_heard settings s before id)) (created_token body x)
    where
      go : (b : Bool) (o : Option Token) → Pairs IsLater (if b then with_token o x else x).takings
      go true None = h
      go true (Some t) = h
      go false o = h
  step_rising before x (took (FromServer n body) (notification method params)) below h = if_rising (nat_eq n s && (is_progress method && is_ready (life_of s before).stage)) (progressed body params (token_called (named_token params) x) x) x
      (told_rising body params (token_called (named_token params) x) x h) h
  step_rising before x (took (FromEditor e body) m) below h = if_rising (requests (codes "shutdown") m) (left e x) (answered e m x) (left_rising e x h) (answered_rising e m x h)
  step_rising before x (took (EditorGone e why) m) below h = left_rising e x h
  step_rising before x (took (StartFailed n) m) below h = if_rising (nat_eq n s) no_created x tt h
  step_rising before x (took (ServerGone n) m) below h = if_rising (nat_eq n s) no_created x tt h
  step_rising before x (did (ToEditor e body) (request id method params)) below h = if_rising (is_creating method) (with_asked e (next_ask e before) (token_marked s params x) x) x (asked_rising e before (token_marked s params x) x below h) h
  step_rising before x (did (CloseEditor e) m) below h = left_rising e x h
  step_rising before x other below h = h

  all_rising : (before : List Event) (x : Created) (events : List Event) → AllByRecursion (IsAsked before) x.takings → Pairs IsLater x.takings → Pairs IsLater (past (created_next settings s) before x events).takings
  all_rising before x [] below h = h
  all_rising before x (ev ∷ events) below h = all_rising (before ++ ev ∷ []) (created_next settings s before x ev) events (step_asked settings s before x ev (later_asked before ev x.takings below)) (step_rising before x ev below h)

  pub numbers_later : (events : List Event) → Pairs IsLater (created_of settings s events).takings
  numbers_later events = all_rising [] no_created events tt tt
