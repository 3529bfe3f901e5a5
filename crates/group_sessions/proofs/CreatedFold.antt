-- What holds of the tokens that live at a start, whatever the events are: their numbers are below the next one, no two have one number or one id, none begins as the daemon's own do, and their bytes are the texts of their ids; and editors are asked of such alone that were created.
use Rattle.std.proofs.Common.{◌≡◌, ℕ, ◌+◌, ◌^◌, ◌<◌, Bool, true, false, not, ◌&&◌, ◌||◌, cond, List, [], ◌∷◌, ◌++◌, codes, filter, find, flat_map, map, nat_eq, nat_lt, if◌then◌else◌, Option, Some, None, is_some, ltb-true, refl, sym, ◌∙◌, subst, arith}
use Rattle.std.specs.List.{AllByRecursion}
use Rattle.std.specs.Option.{option_and_then, option_map}
use Rattle.std.proofs.lemmas.Bool.{and_parts}
use Rattle.json_text.specs.Json.{Json, word, number, string, array, object}
use Rattle.mux_history.specs.declared.cause.Cause.TheVariants.{FromEditor, EditorGone, StartFailed, FromServer, ServerGone}
use Rattle.mux_history.specs.declared.out.Out.TheVariants.{CloseEditor, ToEditor}
use Rattle.rpc_message.specs.Message.{Id, Message, request, notification, id_of, integer, integer_if, is_integer, text as of_string}
use Rattle.rpc_message.specs.ValueTexts.{IsIdText}
use Rattle.event_model.specs.Event.{Event, did, requests, same_id, took}
use Rattle.event_model.specs.Members.{named_of, params_of}
use Rattle.event_model.specs.Requests.{answered_id}
use Rattle.event_model.specs.Settings.{Settings}
use Rattle.event_model.specs.Stages.{life_of, is_ready}
use Rattle.event_model.proofs.Frames.{never}
use Rattle.mux_facts.proofs.Lists.{all_filtered, all_join, all_of}
use Rattle.mux_facts.proofs.Words.{id_same, number_same, same_id_itself}
use Rattle.group_words.specs.Past.{past}
use Rattle.group_rows.specs.Asks.{next_ask}
use Rattle.group_rows.specs.Created.{Created, Taking, Token, accepts, answered, asked, begun_by, created_next, created_of, created_token, first_begin, if_new, is_answered, is_at, is_begin, is_called, is_creating, is_ended_by, is_marked, is_numbered, is_over, is_progress, left, lives, may_create, may_hold, named_token, no_created, progressed, settled, told, token_called, token_marked, token_of, with_asked, with_token}
use Rattle.group_rows.specs.Forwarded.{token_in}
use Rattle.group_rows.specs.Live.{is_heard}
use Rattle.group_rows.specs.Reserved.{begins_as_mark, is_reserved}
use Rattle.group_sessions.proofs.Brought.{Brought, brought}

some_same : {A : Type 0} (a b : A) → ◌≡◌ {A = Option A} (Some a) (Some b) → a ≡ b
some_same a b e = cc

-- Lists

all_changed : {A : Type 0} (P Q : A → Type 0) (f : A → A) → ((x : A) → P x → Q (f x)) → (xs : List A) → AllByRecursion P xs → AllByRecursion Q (map f xs)
all_changed P Q f k [] h = tt
all_changed P Q f k (x ∷ xs) h = (k x h.0, all_changed P Q f k xs h.1)

pub all_flat : {A : Type 0} (P Q : A → Type 0) (f : A → List A) → ((x : A) → P x → AllByRecursion Q (f x)) → (xs : List A) → AllByRecursion P xs → AllByRecursion Q (flat_map f xs)
all_flat P Q f k [] h = tt
all_flat P Q f k (x ∷ xs) h = all_join Q (f x) (flat_map f xs) (k x h.0) (all_flat P Q f k xs h.1)

-- What holds of a token

-- an editor's own tokens may be so
abbrev pub is_free : Id → Bool
is_free (integer ds) = true
is_free (of_string cs) = not (begins_as_mark cs)

pub record IsLive (next : ℕ) (t : Token) : Type 0 where
  pub text : IsIdText t.id t.text
  pub free : is_free t.id ≡ true
  pub below : t.number < next

abbrev pub IsApart : Token → Token → Type 0
IsApart t u = (nat_eq u.number t.number ≡ false) × (same_id t.id u.id ≡ false)

abbrev pub AllApart : List Token → Type 0
AllApart [] = Unit {0}
AllApart (t ∷ ts) = AllByRecursion (IsApart t) ts × AllApart ts

pub record Orderly (x : Created) : Type 0 where
  pub live : AllByRecursion (IsLive x.next) x.tokens
  pub apart : AllApart x.tokens
  pub takings : AllByRecursion (λ (c : Taking). c.token < x.next) x.takings

-- A new one

pub record IsNew (body : List ℕ) (x : Created) (t : Token) : Type 0 where
  pub number : t.number ≡ x.next
  pub text : IsIdText t.id t.text
  pub free : is_free t.id ≡ true
  pub begin : t.begin ≡ None
  pub fresh : is_some (token_called (Some t.id) x) ≡ false
  pub small : x.next < 2 ^ 64
  pub names : named_token (params_of body) ≡ Some t.id

pub free_of : (j : Option Json) (id : Id) → option_and_then id_of j ≡ Some id → not (is_reserved j) ≡ true → is_free id ≡ true
free_of (Some (string s cs)) id e h = subst (λ i. is_free i ≡ true) (some_same (of_string cs) id e) h
free_of (Some (number s ds)) id e h = go (is_integer ds) e
  where
    go : (b : Bool) → integer_if b ds ≡ Some id → is_free id ≡ true
    go true k = subst (λ i. is_free i ≡ true) (some_same (integer ds) id k) refl
    go false k = absurd (cc)
free_of (Some (word s w)) id e h = absurd (cc)
free_of (Some (array s js)) id e h = absurd (cc)
free_of (Some (object s ms)) id e h = absurd (cc)
free_of None id e h = absurd (cc)

pub new_is : (body : List ℕ) (x : Created) (t : Token) → created_token body x ≡ Some t → IsNew body x t
new_is body x t h = go (may_create body x) refl (named_token (params_of body)) refl h
  where
    by : (id : Id) → may_create body x ≡ true → named_token (params_of body) ≡ Some id → (c : Bool) → is_some (token_called (Some id) x) ≡ c → (w : Option (List ℕ)) → token_in (codes "token") body ≡ w
        → (if c then None else option_map (token_of x.next id) w) ≡ Some t → IsNew body x t
    by id may named false fresh (Some bytes) at k =
        let b : Brought (codes "token") body bytes = brought (codes "token") body bytes at in
        let parts : (nat_lt x.next (2 ^ 64) ≡ true) × (not (is_reserved (named_of (codes "token") (params_of body))) ≡ true) = and_parts (nat_lt x.next (2 ^ 64)) (not (is_reserved (named_of (codes "token") (params_of body)))) may in
        subst (IsNew body x) (some_same (token_of x.next id bytes) t k) (record {
          number = refl;
          text = subst (λ i. IsIdText i bytes) (some_same b.id id (sym b.names ∙ named)) b.text;
          free = free_of (named_of (codes "token") (params_of body)) id named parts.1;
          begin = refl;
          fresh = fresh;
          small = ltb-true x.next (2 ^ 64) parts.0;
          names = named;
        })
    by id may named false fresh None at k = absurd (cc)
    by id may named true fresh w at k = absurd (cc)

    go : (b : Bool) → may_create body x ≡ b → (o : Option Id) → named_token (params_of body) ≡ o → (if b then option_and_then (if_new body x) o else None) ≡ Some t → IsNew body x t
    go true may (Some id) named k = by id may named (is_some (token_called (Some id) x)) refl (token_in (codes "token") body) refl k
    go true may None named k = absurd (cc)
    go false may o named k = absurd (cc)

-- Steps

live_later : (n m : ℕ) → n < m + 1 → (ts : List Token) → AllByRecursion (IsLive n) ts → AllByRecursion (IsLive m) ts
live_later n m le ts h = all_of (IsLive n) (IsLive m) (λ t k. record { text = k.text; free = k.free; below = let b : t.number < n = k.below in omega (arith, le, b) }) ts h

less_apart : (n k : ℕ) → n < k → nat_eq k n ≡ false
less_apart n k less = go (nat_eq k n) refl
  where
    go : (b : Bool) → nat_eq k n ≡ b → b ≡ false
    go true same = let is : k ≡ n = number_same k n same in absurd (omega (arith, is, less))
    go false other = refl

-- a token with this id doesn't live
pub none_called : (id : Id) (ts : List Token) → is_some (find (is_called id) ts) ≡ false → AllByRecursion (λ (t : Token). same_id id t.id ≡ false) ts
none_called id [] h = tt
none_called id (t ∷ ts) h = go (same_id id t.id) refl (λ k. none_called id ts k) h
  where
    go : (b : Bool) → same_id id t.id ≡ b → (is_some (find (is_called id) ts) ≡ false → AllByRecursion (λ (u : Token). same_id id u.id ≡ false) ts) → is_some (cond b (Some t) (find (is_called id) ts)) ≡ false
        → (same_id id t.id ≡ false) × AllByRecursion (λ (u : Token). same_id id u.id ≡ false) ts
    go true e rest k = never k
    go false e rest k = (e, rest k)

turned : (i j : Id) → same_id i j ≡ false → same_id j i ≡ false
turned i j h = go (same_id j i) refl
  where
    go : (b : Bool) → same_id j i ≡ b → b ≡ false
    go true e = never (sym (subst (λ z. same_id i z ≡ true) (sym (id_same j i e)) (same_id_itself i)) ∙ h)
    go false e = refl

apart_more : (n : Token) (ts : List Token) → AllByRecursion (λ t. IsApart t n) ts → AllApart ts → AllApart (ts ++ n ∷ [])
apart_more n [] h k = (tt, tt)
apart_more n (t ∷ ts) h k = (all_join (IsApart t) ts (n ∷ []) k.0 (h.0, tt), apart_more n ts h.1 k.1)

both_of : {X : Type 0} (P Q R : X → Type 0) → ((x : X) → P x → Q x → R x) → (xs : List X) → AllByRecursion P xs → AllByRecursion Q xs → AllByRecursion R xs
both_of P Q R f [] h k = tt
both_of P Q R f (x ∷ xs) h k = (f x h.0 k.0, both_of P Q R f xs h.1 k.1)

token_orderly : (body : List ℕ) (x : Created) → Orderly x → (o : Option Token) → created_token body x ≡ o → Orderly (with_token o x)
token_orderly body x h None is = h
token_orderly body x h (Some t) is =
    let n : IsNew body x t = new_is body x t is in record {
      live = all_join (IsLive (x.next + 1)) x.tokens (t ∷ []) (live_later x.next (x.next + 1) (omega arith) x.tokens h.live) (record { text = n.text; free = n.free; below = let same : t.number ≡ x.next = n.number in omega (arith, same) }, tt);
      apart = apart_more t x.tokens (both_of (IsLive x.next) (λ (u : Token). same_id t.id u.id ≡ false) (λ u. IsApart u t)
          (λ u a b. (less_apart u.number t.number (let same : t.number ≡ x.next = n.number in let low : u.number < x.next = a.below in omega (arith, same, low)), turned t.id u.id b)) x.tokens h.live (none_called t.id x.tokens n.fresh)) h.apart;
      takings = all_of (λ (c : Taking). c.token < x.next) (λ (c : Taking). c.token < x.next + 1) (λ c k. let low : c.token < x.next = k in omega (arith, low)) x.takings h.takings;
    }

-- progress changes no number and no id
module _ (k : ℕ) (body : List ℕ) (params : Option Json) where
  begun_live : (n : ℕ) (t : Token) → IsLive n t → IsLive n (begun_by k body params t)
  begun_live n t h = go (is_numbered k t)
    where
      go : (b : Bool) → IsLive n (if b then record t { begin = first_begin body params t.begin } else t)
      go true = record { text = h.text; free = h.free; below = h.below }
      go false = h

  begun_right : (t u : Token) → IsApart t u → IsApart t (begun_by k body params u)
  begun_right t u h = go (is_numbered k u)
    where
      go : (b : Bool) → IsApart t (if b then record u { begin = first_begin body params u.begin } else u)
      go true = h
      go false = h

  begun_left : (t u : Token) → IsApart t u → IsApart (begun_by k body params t) u
  begun_left t u h = go (is_numbered k t)
    where
      go : (b : Bool) → IsApart (if b then record t { begin = first_begin body params t.begin } else t) u
      go true = h
      go false = h

  begun_apart : (ts : List Token) → AllApart ts → AllApart (map (begun_by k body params) ts)
  begun_apart [] h = tt
  begun_apart (t ∷ ts) h = (all_changed (IsApart t) (IsApart (begun_by k body params t)) (begun_by k body params) (λ u a. begun_left t (begun_by k body params u) (begun_right t u a)) ts h.0, begun_apart ts h.1)

some_apart : (test : Token → Bool) (ts : List Token) → AllApart ts → AllApart (filter test ts)
some_apart test [] h = tt
some_apart test (t ∷ ts) h = go (test t) (all_filtered (IsApart t) (IsApart t) test (λ u on a. a) ts h.0) (some_apart test ts h.1)
  where
    go : (b : Bool) → AllByRecursion (IsApart t) (filter test ts) → AllApart (filter test ts) → AllApart (cond b (t ∷ filter test ts) (filter test ts))
    go true a rest = (a, rest)
    go false a rest = rest

told_token : (k : ℕ) (body : List ℕ) (params : Option Json) (n : ℕ) (c : Taking) → c.token < n → (told k body params c).token < n
told_token k body params n c h = go (nat_eq c.token k) c.accepted (may_hold params c.held)
  where
    go : (a b d : Bool) → (if a then (if b then record c { begun = c.begun || is_begin params } else (if d then record c { held = c.held ++ body ∷ []; begun = c.begun || is_begin params } else c)) else c).token < n
    go true true d = h
    go true false true = h
    go true false false = h
    go false b d = h

progressed_orderly : (body : List ℕ) (params : Option Json) (o : Option Token) (x : Created) → Orderly x → Orderly (progressed body params o x)
progressed_orderly body params None x h = h
progressed_orderly body params (Some t) x h = record {
  live = all_filtered (IsLive x.next) (IsLive x.next) (λ u. not (is_ended_by t.number params u)) (λ u on a. a) (map (begun_by t.number body params) x.tokens)
      (all_changed (IsLive x.next) (IsLive x.next) (begun_by t.number body params) (begun_live t.number body params x.next) x.tokens h.live);
  apart = some_apart (λ u. not (is_ended_by t.number params u)) (map (begun_by t.number body params) x.tokens) (begun_apart t.number body params x.tokens h.apart);
  takings = all_changed (λ (c : Taking). c.token < x.next) (λ (c : Taking). c.token < x.next) (told t.number body params) (told_token t.number body params x.next) (filter (λ c. not (is_over t.number params c)) x.takings)
      (all_filtered (λ (c : Taking). c.token < x.next) (λ (c : Taking). c.token < x.next) (λ c. not (is_over t.number params c)) (λ c on a. a) x.takings h.takings);
}

answered_orderly : (e : ℕ) (m : Message) (x : Created) → Orderly x → Orderly (answered e m x)
answered_orderly e m x h = record {
  live = h.live;
  apart = h.apart;
  takings = all_flat (λ (c : Taking). c.token < x.next) (λ (c : Taking). c.token < x.next) (λ c. if is_answered e (answered_id m) c then settled m x c else c ∷ []) one x.takings h.takings;
}
  where
    one : (c : Taking) → c.token < x.next → AllByRecursion (λ (d : Taking). d.token < x.next) (if is_answered e (answered_id m) c then settled m x c else c ∷ [])
    one c k = go (is_answered e (answered_id m) c) (accepts m && lives c.token x)
      where
        go : (a b : Bool) → AllByRecursion (λ (d : Taking). d.token < x.next) (if a then (if b then record c { accepted = true; held = [] } ∷ [] else []) else c ∷ [])
        go true true = (k, tt)
        go true false = tt
        go false b = (k, tt)

left_orderly : (e : ℕ) (x : Created) → Orderly x → Orderly (left e x)
left_orderly e x h = record { live = h.live; apart = h.apart; takings = all_filtered (λ (c : Taking). c.token < x.next) (λ (c : Taking). c.token < x.next) (λ c. not (is_at e c)) (λ c on a. a) x.takings h.takings }

found_live : (n : ℕ) (test : Token → Bool) (t : Token) (ts : List Token) → AllByRecursion (IsLive n) ts → find test ts ≡ Some t → IsLive n t
found_live n test t [] h at = absurd (cc)
found_live n test t (u ∷ ts) h at = go (test u) (λ k. found_live n test t ts h.1 k) at
  where
    go : (b : Bool) → (find test ts ≡ Some t → IsLive n t) → cond b (Some u) (find test ts) ≡ Some t → IsLive n t
    go true rest k = subst (IsLive n) (some_same u t k) h.0
    go false rest k = rest k

asked_orderly : (s : ℕ) (params : Option Json) (e n : ℕ) (x : Created) → Orderly x → (o : Option Token) → token_marked s params x ≡ o → Orderly (with_asked e n o x)
asked_orderly s params e n x h None at = h
asked_orderly s params e n x h (Some t) at = record {
  live = h.live;
  apart = h.apart;
  takings = all_join (λ (c : Taking). c.token < x.next) x.takings (asked e n t ∷ []) h.takings ((found_live x.next (is_marked s (named_of (codes "token") params)) t x.tokens h.live at).below, tt);
}

if_orderly : (b : Bool) (x y : Created) → Orderly x → Orderly y → Orderly (if b then x else y)
if_orderly true x y h k = h
if_orderly false x y h k = k

pub none_orderly : Orderly no_created
none_orderly = record { live = tt; apart = tt; takings = tt }

pub step_orderly : (settings : Settings) (s : ℕ) (before : List Event) (x : Created) (event : Event) → Orderly x → Orderly (created_next settings s before x event)
step_orderly settings s before x (took (FromServer n body) (request id method params)) h = if_orderly (nat_eq n s && (is_creating method && is_heard settings s before id)) (with_token (created_token body x) x) x (token_orderly body x h (created_token body x) refl) h
step_orderly settings s before x (took (FromServer n body) (notification method params)) h =
    if_orderly (nat_eq n s && (is_progress method && is_ready (life_of s before).stage)) (progressed body params (token_called (named_token params) x) x) x (progressed_orderly body params (token_called (named_token params) x) x h) h
step_orderly settings s before x (took (FromEditor e body) m) h = if_orderly (requests (codes "shutdown") m) (left e x) (answered e m x) (left_orderly e x h) (answered_orderly e m x h)
step_orderly settings s before x (took (EditorGone e why) m) h = left_orderly e x h
step_orderly settings s before x (took (StartFailed n) m) h = if_orderly (nat_eq n s) no_created x none_orderly h
step_orderly settings s before x (took (ServerGone n) m) h = if_orderly (nat_eq n s) no_created x none_orderly h
step_orderly settings s before x (did (ToEditor e body) (request id method params)) h = if_orderly (is_creating method) (with_asked e (next_ask e before) (token_marked s params x) x) x (asked_orderly s params e (next_ask e before) x h (token_marked s params x) refl) h
step_orderly settings s before x (did (CloseEditor e) m) h = left_orderly e x h
step_orderly settings s before x other h = h

all_orderly : (settings : Settings) (s : ℕ) (before : List Event) (x : Created) (events : List Event) → Orderly x → Orderly (past (created_next settings s) before x events)
all_orderly settings s before x [] h = h
all_orderly settings s before x (event ∷ events) h = all_orderly settings s (before ++ event ∷ []) (created_next settings s before x event) events (step_orderly settings s before x event h)

pub created_orderly : (settings : Settings) (s : ℕ) (events : List Event) → Orderly (created_of settings s events)
created_orderly settings s events = all_orderly settings s [] no_created events none_orderly
