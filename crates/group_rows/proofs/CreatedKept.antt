-- What is kept of the tokens that a start creates: whatever the events are, their bytes are texts of integers and strings; and what is held was told by the start.
use Rattle.std.proofs.Common.{◌≡◌, ℕ, ◌^◌, ◌<◌, Bool, true, false, not, ◌&&◌, ◌||◌, List, [], ◌∷◌, ◌++◌, cond, codes, filter, find, flat_map, map, nat_eq, nat_lt, if◌then◌else◌, Option, Some, None, is_some, refl, sym, subst, ltb-true}
use Rattle.std.specs.Prelude.{MatchOption}
use Rattle.std.specs.List.{AllByRecursion}
use Rattle.std.specs.Option.{option_and_then, option_map}
use Rattle.std.proofs.lemmas.Bool.{and_parts}
use Rattle.json_text.specs.Json.{Json}
use Rattle.mux_history.specs.declared.cause.Cause.TheVariants.{FromEditor, EditorGone, StartFailed, FromServer, ServerGone}
use Rattle.mux_history.specs.declared.out.Out.TheVariants.{CloseEditor, ToEditor}
use Rattle.rpc_message.specs.Message.{Id, Message, request, notification, message_of}
use Rattle.event_model.specs.Event.{Event, did, requests, took}
use Rattle.event_model.specs.Members.{named_of, params_of}
use Rattle.event_model.specs.Requests.{answered_id}
use Rattle.event_model.specs.Settings.{Settings}
use Rattle.event_model.specs.Stages.{life_of, is_ready}
use Rattle.group_words.specs.Past.{past}
use Rattle.group_rows.specs.Asks.{next_ask}
use Rattle.group_rows.specs.Created.{Created, Taking, Token, accepts, answered, asked, begun_by, created_next, created_of, created_token, first_begin, held_first, held_more, if_new, is_answered, is_at, is_begin, is_creating, is_ended_by, is_marked, is_numbered, is_over, is_progress, left, lives, may_create, may_hold, named_token, no_created, progressed, settled, token_called, token_marked, token_of, told, with_asked, with_token}
use Rattle.group_rows.specs.Forwarded.{token_in}
use Rattle.group_rows.specs.Live.{is_heard}
use Rattle.group_rows.specs.Reserved.{is_reserved}
use Rattle.group_rows.proofs.TokenTexts.{IsTokenText, token_written}
use Rattle.group_rows.proofs.Versions.{AllMeant, IsMeant}

-- Lists

all_left : {A : Type 0} (P : A → Type 0) (test : A → Bool) (xs : List A) → AllByRecursion P xs → AllByRecursion P (filter test xs)
all_left P test [] h = tt
all_left P test (x ∷ xs) h = go (test x) (all_left P test xs h.1)
  where
    go : (b : Bool) → AllByRecursion P (filter test xs) → AllByRecursion P (cond b (x ∷ filter test xs) (filter test xs))
    go true rest = (h.0, rest)
    go false rest = rest

all_changed : {A : Type 0} (P : A → Type 0) (f : A → A) → ((x : A) → P x → P (f x)) → (xs : List A) → AllByRecursion P xs → AllByRecursion P (map f xs)
all_changed P f k [] h = tt
all_changed P f k (x ∷ xs) h = (k x h.0, all_changed P f k xs h.1)

all_more : {A : Type 0} (P : A → Type 0) (xs ys : List A) → AllByRecursion P xs → AllByRecursion P ys → AllByRecursion P (xs ++ ys)
all_more P [] ys h k = k
all_more P (x ∷ xs) ys h k = (h.0, all_more P xs ys h.1 k)

all_flat : {A : Type 0} (P : A → Type 0) (f : A → List A) → ((x : A) → P x → AllByRecursion P (f x)) → (xs : List A) → AllByRecursion P xs → AllByRecursion P (flat_map f xs)
all_flat P f k [] h = tt
all_flat P f k (x ∷ xs) h = all_more P (f x) (flat_map f xs) (k x h.0) (all_flat P f k xs h.1)

pub found_one : {A : Type 0} (P : A → Type 0) (test : A → Bool) (x : A) (xs : List A) → AllByRecursion P xs → find test xs ≡ Some x → P x
found_one P test x [] h at = absurd (cc)
found_one P test x (y ∷ ys) h at = go (test y) (λ k. found_one P test x ys h.1 k) at
  where
    go : (b : Bool) → (find test ys ≡ Some x → P x) → cond b (Some y) (find test ys) ≡ Some x → P x
    go true rest k = subst P (let same : y ≡ x = cc in same) h.0
    go false rest k = rest k

-- The bytes of tokens

pub record IsWritten (t : Token) : Type 0 where
  pub text : IsTokenText t.text
  pub small : t.number < 2 ^ 64

abbrev pub AreWritten : Created → Type 0
AreWritten x = AllByRecursion IsWritten x.tokens

new_written : (body : List ℕ) (x : Created) → AreWritten x → AreWritten (with_token (created_token body x) x)
new_written body x h = go (may_create body x) refl (named_token (params_of body))
  where
    by : (id : Id) → may_create body x ≡ true → (c : Bool) (w : Option (List ℕ)) → token_in (codes "token") body ≡ w → AreWritten (with_token (if c then None else option_map (token_of x.next id) w) x)
    by id may true w at = h
    by id may false None at = h
    by id may false (Some text) at = all_more IsWritten x.tokens (token_of x.next id text ∷ []) h
        (record { text = token_written (codes "token") body text at; small = ltb-true x.next (2 ^ 64) (and_parts (nat_lt x.next (2 ^ 64)) (not (is_reserved (named_of (codes "token") (params_of body)))) may).0 }, tt)

    go : (b : Bool) → may_create body x ≡ b → (o : Option Id) → AreWritten (with_token (if b then option_and_then (if_new body x) o else None) x)
    go true may (Some id) = by id may (is_some (token_called (Some id) x)) (token_in (codes "token") body) refl
    go true may None = h
    go false may o = h

begun_written : (k : ℕ) (body : List ℕ) (params : Option Json) (t : Token) → IsWritten t → IsWritten (begun_by k body params t)
begun_written k body params t h = go (is_numbered k t)
  where
    go : (b : Bool) → IsWritten (if b then record t { begin = first_begin body params t.begin } else t)
    go true = record { text = h.text; small = h.small }
    go false = h

progressed_written : (body : List ℕ) (params : Option Json) (o : Option Token) (x : Created) → AreWritten x → AreWritten (progressed body params o x)
progressed_written body params None x h = h
progressed_written body params (Some t) x h = all_left IsWritten (λ u. not (is_ended_by t.number params u)) (map (begun_by t.number body params) x.tokens) (all_changed IsWritten (begun_by t.number body params) (begun_written t.number body params) x.tokens h)

asked_written : (e n : ℕ) (o : Option Token) (x : Created) → AreWritten x → AreWritten (with_asked e n o x)
asked_written e n None x h = h
asked_written e n (Some t) x h = h

if_written : (b : Bool) (x y : Created) → AreWritten x → AreWritten y → AreWritten (if b then x else y)
if_written true x y h k = h
if_written false x y h k = k

step_written : (settings : Settings) (s : ℕ) (before : List Event) (x : Created) (event : Event) → AreWritten x → AreWritten (created_next settings s before x event)
step_written settings s before x (took (FromServer n body) (request id method params)) h = if_written (nat_eq n s && (is_creating method && is_heard settings s before id)) (with_token (created_token body x) x) x (new_written body x h) h
step_written settings s before x (took (FromServer n body) (notification method params)) h =
    if_written (nat_eq n s && (is_progress method && is_ready (life_of s before).stage)) (progressed body params (token_called (named_token params) x) x) x (progressed_written body params (token_called (named_token params) x) x h) h
step_written settings s before x (took (FromEditor e body) m) h = if_written (requests (codes "shutdown") m) (left e x) (answered e m x) h h
step_written settings s before x (took (EditorGone e why) m) h = h
step_written settings s before x (took (StartFailed n) m) h = if_written (nat_eq n s) no_created x tt h
step_written settings s before x (took (ServerGone n) m) h = if_written (nat_eq n s) no_created x tt h
step_written settings s before x (did (ToEditor e body) (request id method params)) h = if_written (is_creating method) (with_asked e (next_ask e before) (token_marked s params x) x) x (asked_written e (next_ask e before) (token_marked s params x) x h) h
step_written settings s before x (did (CloseEditor e) m) h = h
step_written settings s before x other h = h

all_written : (settings : Settings) (s : ℕ) (before : List Event) (x : Created) (events : List Event) → AreWritten x → AreWritten (past (created_next settings s) before x events)
all_written settings s before x [] h = h
all_written settings s before x (event ∷ events) h = all_written settings s (before ++ event ∷ []) (created_next settings s before x event) events (step_written settings s before x event h)

pub tokens_written : (settings : Settings) (s : ℕ) (events : List Event) → AreWritten (created_of settings s events)
tokens_written settings s events = all_written settings s [] no_created events tt

-- What is held

-- a notification of progress
pub record IsTelling (body : List ℕ) : Type 0 where
  pub method : List ℕ
  pub params : Option Json
  pub says : message_of body ≡ notification method params
  pub class : is_progress method ≡ true

abbrev pub AreTellings : List (List ℕ) → Type 0
AreTellings bodies = AllByRecursion IsTelling bodies

record HaveHeld (x : Created) : Type 0 where
  begins : AllByRecursion (λ (t : Token). AreTellings (held_first t.begin)) x.tokens
  held : AllByRecursion (λ (c : Taking). AreTellings c.held) x.takings

new_held : (o : Option Token) (x : Created) → MatchOption o (Unit {0}) (λ t. t.begin ≡ None) → HaveHeld x → HaveHeld (with_token o x)
new_held None x new h = h
new_held (Some t) x new h = record { begins = all_more (λ (u : Token). AreTellings (held_first u.begin)) x.tokens (t ∷ []) h.begins (subst (λ o. AreTellings (held_first o)) (sym new) tt, tt); held = h.held }

is_new : (body : List ℕ) (x : Created) → MatchOption (created_token body x) (Unit {0}) (λ t. t.begin ≡ None)
is_new body x = go (may_create body x) (named_token (params_of body))
  where
    New : Option Token → Type 0
    New o = MatchOption o (Unit {0}) (λ t. t.begin ≡ None)

    by : (id : Id) (c : Bool) (w : Option (List ℕ)) → New (if c then None else option_map (token_of x.next id) w)
    by id true w = tt
    by id false None = tt
    by id false (Some text) = refl

    go : (b : Bool) (o : Option Id) → New (if b then option_and_then (if_new body x) o else None)
    go true (Some id) = by id (is_some (token_called (Some id) x)) (token_in (codes "token") body)
    go true None = tt
    go false o = tt

module _ (body : List ℕ) (params : Option Json) (telling : IsTelling body) where
  first_held : (o : Option (List ℕ)) → AreTellings (held_first o) → AreTellings (held_first (first_begin body params o))
  first_held (Some first) h = h
  first_held None h = go (is_begin params)
    where
      go : (b : Bool) → AreTellings (held_first (if b then Some body else None))
      go true = (telling, tt)
      go false = tt

  begun_held : (k : ℕ) (t : Token) → AreTellings (held_first t.begin) → AreTellings (held_first (begun_by k body params t).begin)
  begun_held k t h = go (is_numbered k t)
    where
      go : (b : Bool) → AreTellings (held_first (if b then record t { begin = first_begin body params t.begin } else t).begin)
      go true = first_held t.begin h
      go false = h

  more_held : (c : Taking) → AreTellings c.held → AreTellings (held_more body params c).held
  more_held c h = go (may_hold params c.held)
    where
      go : (b : Bool) → AreTellings (if b then record c { held = c.held ++ body ∷ []; begun = c.begun || is_begin params } else c).held
      go true = all_more IsTelling c.held (body ∷ []) h (telling, tt)
      go false = h

  told_held : (k : ℕ) (c : Taking) → AreTellings c.held → AreTellings (told k body params c).held
  told_held k c h = go (nat_eq c.token k) c.accepted
    where
      go : (a b : Bool) → AreTellings (if a then (if b then record c { begun = c.begun || is_begin params } else held_more body params c) else c).held
      go true true = h
      go true false = more_held c h
      go false b = h

  progressed_held : (o : Option Token) (x : Created) → HaveHeld x → HaveHeld (progressed body params o x)
  progressed_held None x h = h
  progressed_held (Some t) x h = record {
    begins = all_left (λ (u : Token). AreTellings (held_first u.begin)) (λ u. not (is_ended_by t.number params u)) (map (begun_by t.number body params) x.tokens)
        (all_changed (λ (u : Token). AreTellings (held_first u.begin)) (begun_by t.number body params) (begun_held t.number) x.tokens h.begins);
    held = all_changed (λ (c : Taking). AreTellings c.held) (told t.number body params) (told_held t.number) (filter (λ c. not (is_over t.number params c)) x.takings)
        (all_left (λ (c : Taking). AreTellings c.held) (λ c. not (is_over t.number params c)) x.takings h.held);
  }

answered_held : (e : ℕ) (m : Message) (x : Created) → HaveHeld x → HaveHeld (answered e m x)
answered_held e m x h = record {
  begins = h.begins;
  held = all_flat (λ (c : Taking). AreTellings c.held) (λ c. if is_answered e (answered_id m) c then settled m x c else c ∷ []) one x.takings h.held;
}
  where
    one : (c : Taking) → AreTellings c.held → AllByRecursion (λ (d : Taking). AreTellings d.held) (if is_answered e (answered_id m) c then settled m x c else c ∷ [])
    one c k = go (is_answered e (answered_id m) c) (accepts m && lives c.token x)
      where
        go : (a b : Bool) → AllByRecursion (λ (d : Taking). AreTellings d.held) (if a then (if b then record c { accepted = true; held = [] } ∷ [] else []) else c ∷ [])
        go true true = (tt, tt)
        go true false = tt
        go false b = (k, tt)

left_held : (e : ℕ) (x : Created) → HaveHeld x → HaveHeld (left e x)
left_held e x h = record { begins = h.begins; held = all_left (λ (c : Taking). AreTellings c.held) (λ c. not (is_at e c)) x.takings h.held }

marked_held : (s : ℕ) (params : Option Json) (e n : ℕ) (x : Created) → HaveHeld x → HaveHeld (with_asked e n (token_marked s params x) x)
marked_held s params e n x h = go (token_marked s params x) refl
  where
    go : (o : Option Token) → token_marked s params x ≡ o → HaveHeld (with_asked e n o x)
    go None at = h
    go (Some t) at = record {
      begins = h.begins;
      held = all_more (λ (c : Taking). AreTellings c.held) x.takings (asked e n t ∷ []) h.held (found_one (λ (u : Token). AreTellings (held_first u.begin)) (is_marked s (named_of (codes "token") params)) t x.tokens h.begins at, tt);
    }

if_held : (b : Bool) (x y : Created) → HaveHeld x → HaveHeld y → HaveHeld (if b then x else y)
if_held true x y h k = h
if_held false x y h k = k

step_held : (settings : Settings) (s : ℕ) (before : List Event) (x : Created) (event : Event) → IsMeant event → HaveHeld x → HaveHeld (created_next settings s before x event)
step_held settings s before x (took (FromServer n body) (request id method params)) says h =
    if_held (nat_eq n s && (is_creating method && is_heard settings s before id)) (with_token (created_token body x) x) x (new_held (created_token body x) x (is_new body x) h) h
step_held settings s before x (took (FromServer n body) (notification method params)) says h = go (nat_eq n s) (is_progress method) refl (is_ready (life_of s before).stage)
  where
    y : Created
    y = progressed body params (token_called (named_token params) x) x

    go : (a b : Bool) → is_progress method ≡ b → (c : Bool) → HaveHeld (if a && (b && c) then y else x)
    go true true class true = progressed_held body params (record { method = method; params = params; says = sym says; class = class }) (token_called (named_token params) x) x h
    go true true class false = h
    go true false class c = h
    go false b class c = h
step_held settings s before x (took (FromEditor e body) m) says h = if_held (requests (codes "shutdown") m) (left e x) (answered e m x) (left_held e x h) (answered_held e m x h)
step_held settings s before x (took (EditorGone e why) m) says h = left_held e x h
step_held settings s before x (took (StartFailed n) m) says h = if_held (nat_eq n s) no_created x (record { begins = tt; held = tt }) h
step_held settings s before x (took (ServerGone n) m) says h = if_held (nat_eq n s) no_created x (record { begins = tt; held = tt }) h
step_held settings s before x (did (ToEditor e body) (request id method params)) says h = if_held (is_creating method) (with_asked e (next_ask e before) (token_marked s params x) x) x (marked_held s params e (next_ask e before) x h) h
step_held settings s before x (did (CloseEditor e) m) says h = left_held e x h
step_held settings s before x other says h = h

all_held : (settings : Settings) (s : ℕ) (before : List Event) (x : Created) (events : List Event) → AllMeant events → HaveHeld x → HaveHeld (past (created_next settings s) before x events)
all_held settings s before x [] says h = h
all_held settings s before x (event ∷ events) says h = all_held settings s (before ++ event ∷ []) (created_next settings s before x event) events says.1 (step_held settings s before x event says.0 h)

pub held_told : (settings : Settings) (s : ℕ) (events : List Event) → AllMeant events → AllByRecursion (λ (c : Taking). AreTellings c.held) (created_of settings s events).takings
held_told settings s events says = (all_held settings s [] no_created events says (record { begins = tt; held = tt })).held
