-- What editors were asked to take, whatever the events are: its numbers are below the next one of its editor, and its tokens below the next one of the start.
use Rattle.std.proofs.Common.{◌≡◌, ℕ, ◌+◌, ◌<◌, ◌≤◌, Bool, true, false, not, ◌&&◌, List, [], ◌∷◌, ◌++◌, codes, filter, find, map, nat_eq, if◌then◌else◌, refl, sym, subst, ◌∙◌, ap, append-nil, append_assoc, arith}
use Rattle.std.specs.Prelude.{Option, Some, None}
use Rattle.std.specs.List.{AllByRecursion}
use Rattle.json_text.specs.Json.{Json}
use Rattle.mux_history.specs.declared.cause.Cause.TheVariants.{FromEditor, EditorGone, StartFailed, FromServer, ServerGone}
use Rattle.mux_history.specs.declared.out.Out.TheVariants.{CloseEditor, ToEditor}
use Rattle.rpc_message.specs.Message.{Id, Message, request, notification}
use Rattle.event_model.specs.Event.{Event, did, requests, took}
use Rattle.event_model.specs.Members.{named_of}
use Rattle.event_model.specs.Requests.{answered_id}
use Rattle.event_model.specs.Settings.{Settings}
use Rattle.event_model.specs.Stages.{life_of, is_ready}
use Rattle.event_model.proofs.Frames.{one_more}
use Rattle.group_words.specs.Past.{past}
use Rattle.group_rows.specs.Asks.{asked_behind, next_ask}
use Rattle.group_rows.specs.Created.{Created, Taking, Token, accepts, answered, asked, begun_by, created_next, created_of, created_token, is_answered, is_at, is_creating, is_ended_by, is_marked, is_over, is_progress, left, lives, named_token, no_created, progressed, settled, told, token_called, token_marked, with_asked, with_token}
use Rattle.group_rows.specs.Live.{is_heard}
use Rattle.group_rows.proofs.CreatedKept.{found_one}
use Rattle.mux_tokens.proofs.Finding.{all_kept, all_last, all_mapped, all_so, all_spread}
use Rattle.mux_tokens.proofs.Names.{same_number}
use Rattle.mux_tokens.proofs.Standing.{next_token}
use Rattle.mux_tokens.proofs.Told.{same_taking}
use Rattle.mux_tokens.proofs.Rows.{num_itself}

-- A fact of the editor, the number and the token of each

module _ (P : Taking → Type 0) (seat : (c d : Taking) → d.editor ≡ c.editor → d.number ≡ c.number → d.token ≡ c.token → P c → P d) where
  told_all : (body : List ℕ) (params : Option Json) (o : Option Token) (x : Created) → AllByRecursion P x.takings → AllByRecursion P (progressed body params o x).takings
  told_all body params None x h = h
  told_all body params (Some t) x h = all_mapped P P (told t.number body params) (λ c p. let s = (same_taking t.number body params c).seat in seat c (told t.number body params c) s.editor s.number s.token p)
      (filter (λ c. not (is_over t.number params c)) x.takings) (all_kept P (λ c. not (is_over t.number params c)) x.takings h)

  answered_all : (e : ℕ) (m : Message) (x : Created) → AllByRecursion P x.takings → AllByRecursion P (answered e m x).takings
  answered_all e m x h = all_spread P (λ c. if is_answered e (answered_id m) c then settled m x c else c ∷ []) one x.takings h
    where
      one : (c : Taking) → P c → AllByRecursion P (if is_answered e (answered_id m) c then settled m x c else c ∷ [])
      one c p = go (is_answered e (answered_id m) c) (accepts m && lives c.token x)
        where
          go : (a b : Bool) → AllByRecursion P (if a then (if b then record c { accepted = true; held = [] } ∷ [] else []) else c ∷ [])
          go true true = (seat c (record c { accepted = true; held = [] }) refl refl refl p, tt)
          go true false = tt
          go false b = (p, tt)

  left_all : (e : ℕ) (x : Created) → AllByRecursion P x.takings → AllByRecursion P (left e x).takings
  left_all e x h = all_kept P (λ c. not (is_at e c)) x.takings h

  if_all : (b : Bool) (x y : Created) → AllByRecursion P x.takings → AllByRecursion P y.takings → AllByRecursion P (if b then x else y).takings
  if_all true x y h k = h
  if_all false x y h k = k

-- Numbers

abbrev pub IsAsked : List Event → Taking → Type 0
IsAsked events c = c.number < next_ask c.editor events

same_asked : (events : List Event) (c d : Taking) → d.editor ≡ c.editor → d.number ≡ c.number → d.token ≡ c.token → IsAsked events c → IsAsked events d
same_asked events c d p q r h = subst (λ e. d.number < next_ask e events) (sym p) (subst (λ n. n < next_ask c.editor events) (sym q) h)

next_more : (e : ℕ) (events : List Event) (ev : Event) → next_ask e (events ++ ev ∷ []) ≡ asked_behind e (next_ask e events) ev
next_more e events ev = one_more (asked_behind e) _ _ events ev refl

asked_grows : (e n : ℕ) (ev : Event) → n ≤ asked_behind e n ev
asked_grows e n (did (ToEditor k body) (request id method ps)) = go (nat_eq k e)
  where
    go : (b : Bool) → n ≤ (if b then n + 1 else n)
    go true = omega arith
    go false = omega arith
asked_grows e n other = omega arith

pub later_asked : (events : List Event) (ev : Event) (cs : List Taking) → AllByRecursion (IsAsked events) cs → AllByRecursion (IsAsked (events ++ ev ∷ [])) cs
later_asked events ev cs h = all_so (IsAsked events) (IsAsked (events ++ ev ∷ [])) (λ c k. let g = asked_grows c.editor (next_ask c.editor events) ev in let m = next_more c.editor events ev in omega (arith, k, g, m)) cs h

new_asked : (s e : ℕ) (events : List Event) (body method : List ℕ) (id : Id) (params : Option Json) (o : Option Token) (x : Created) → AllByRecursion (IsAsked (events ++ did (ToEditor e body) (request id method params) ∷ [])) x.takings → AllByRecursion (IsAsked (events ++ did (ToEditor e body) (request id method params) ∷ [])) (with_asked e (next_ask e events) o x).takings
new_asked s e events body method id params None x h = h
new_asked s e events body method id params (Some t) x h = all_last (IsAsked (events ++ did (ToEditor e body) (request id method params) ∷ [])) x.takings (asked e (next_ask e events) t) h
    (let m : next_ask e (events ++ did (ToEditor e body) (request id method params) ∷ []) ≡ next_ask e events + 1 = next_more e events (did (ToEditor e body) (request id method params)) ∙ ap (λ b. if b then next_ask e events + 1 else next_ask e events) (num_itself e) in omega (arith, m))

module _ (settings : Settings) (s : ℕ) where
  pub step_asked : (before : List Event) (x : Created) (ev : Event) → AllByRecursion (IsAsked (before ++ ev ∷ [])) x.takings → AllByRecursion (IsAsked (before ++ ev ∷ [])) (created_next settings s before x ev).takings
  step_asked before x (took (FromServer n body) (request id method params)) h = go (nat_eq n s && (is_creating method && is_heard settings s before id)) (created_token body x)
    where
      go : (b : Bool) (o : Option Token) → AllByRecursion (IsAsked (before ++ took (FromServer n body) (request id method params) ∷ [])) (if b then with_token o x else x).takings
      go true None = h
      go true (Some t) = h
      go false o = h
  step_asked before x (took (FromServer n body) (notification method params)) h = let ev = took (FromServer n body) (notification method params) in
      if_all (IsAsked (before ++ ev ∷ [])) (same_asked (before ++ ev ∷ [])) (nat_eq n s && (is_progress method && is_ready (life_of s before).stage)) (progressed body params (token_called (named_token params) x) x) x
      (told_all (IsAsked (before ++ ev ∷ [])) (same_asked (before ++ ev ∷ [])) body params (token_called (named_token params) x) x h) h
  step_asked before x (took (FromEditor e body) m) h = let ev = took (FromEditor e body) m in
      if_all (IsAsked (before ++ ev ∷ [])) (same_asked (before ++ ev ∷ [])) (requests (codes "shutdown") m) (left e x) (answered e m x) (left_all (IsAsked (before ++ ev ∷ [])) (same_asked (before ++ ev ∷ [])) e x h) (answered_all (IsAsked (before ++ ev ∷ [])) (same_asked (before ++ ev ∷ [])) e m x h)
  step_asked before x (took (EditorGone e why) m) h = let ev = took (EditorGone e why) m in left_all (IsAsked (before ++ ev ∷ [])) (same_asked (before ++ ev ∷ [])) e x h
  step_asked before x (took (StartFailed n) m) h = let ev = took (StartFailed n) m in if_all (IsAsked (before ++ ev ∷ [])) (same_asked (before ++ ev ∷ [])) (nat_eq n s) no_created x tt h
  step_asked before x (took (ServerGone n) m) h = let ev = took (ServerGone n) m in if_all (IsAsked (before ++ ev ∷ [])) (same_asked (before ++ ev ∷ [])) (nat_eq n s) no_created x tt h
  step_asked before x (did (ToEditor e body) (request id method params)) h = let ev = did (ToEditor e body) (request id method params) in
      if_all (IsAsked (before ++ ev ∷ [])) (same_asked (before ++ ev ∷ [])) (is_creating method) (with_asked e (next_ask e before) (token_marked s params x) x) x (new_asked s e before body method id params (token_marked s params x) x h) h
  step_asked before x (did (CloseEditor e) m) h = let ev = did (CloseEditor e) m in left_all (IsAsked (before ++ ev ∷ [])) (same_asked (before ++ ev ∷ [])) e x h
  step_asked before x other h = h

  all_asked : (before : List Event) (x : Created) (events : List Event) → AllByRecursion (IsAsked before) x.takings → AllByRecursion (IsAsked (before ++ events)) (past (created_next settings s) before x events).takings
  all_asked before x [] h = subst (λ es. AllByRecursion (IsAsked es) x.takings) (sym (append-nil before)) h
  all_asked before x (ev ∷ events) h = subst (λ es. AllByRecursion (IsAsked es) (past (created_next settings s) before x (ev ∷ events)).takings) (append_assoc before (ev ∷ []) events)
      (all_asked (before ++ ev ∷ []) (created_next settings s before x ev) events (step_asked before x ev (later_asked before ev x.takings h)))

  pub numbers_below : (events : List Event) → AllByRecursion (IsAsked events) (created_of settings s events).takings
  numbers_below events = all_asked [] no_created events tt

-- Tokens

-- those that live, and those that editors were asked to take, have numbers below the next one
pub record AreBelow (x : Created) : Type 0 where
  pub tokens : AllByRecursion (λ (t : Token). t.number < x.next) x.tokens
  pub takings : AllByRecursion (λ (c : Taking). c.token < x.next) x.takings

same_below : (n : ℕ) (c d : Taking) → d.editor ≡ c.editor → d.number ≡ c.number → d.token ≡ c.token → c.token < n → d.token < n
same_below n c d p q r h = subst (λ k. k < n) (sym r) h

new_below : (body : List ℕ) (x : Created) (o : Option Token) → created_token body x ≡ o → AreBelow x → AreBelow (with_token o x)
new_below body x None is h = h
new_below body x (Some t) is h = record {
  tokens = all_last (λ (u : Token). u.number < x.next + 1) x.tokens t (all_so (λ (u : Token). u.number < x.next) (λ (u : Token). u.number < x.next + 1) (λ u k. omega (arith, k)) x.tokens h.tokens) (let number : t.number ≡ x.next = (next_token body x t is).0 in omega (arith, number));
  takings = all_so (λ (c : Taking). c.token < x.next) (λ (c : Taking). c.token < x.next + 1) (λ c k. omega (arith, k)) x.takings h.takings;
}

told_below : (body : List ℕ) (params : Option Json) (o : Option Token) (x : Created) → AreBelow x → AreBelow (progressed body params o x)
told_below body params None x h = h
told_below body params (Some t) x h = record {
  tokens = all_kept (λ (u : Token). u.number < x.next) (λ u. not (is_ended_by t.number params u)) (map (begun_by t.number body params) x.tokens)
      (all_mapped (λ (u : Token). u.number < x.next) (λ (u : Token). u.number < x.next) (begun_by t.number body params) (λ u k. subst (λ n. n < x.next) (sym (same_number t.number body params u)) k) x.tokens h.tokens);
  takings = told_all (λ (c : Taking). c.token < x.next) (same_below x.next) body params (Some t) x h.takings;
}

asked_below : (e n : ℕ) (test : Token → Bool) (x : Created) (o : Option Token) → find test x.tokens ≡ o → AreBelow x → AreBelow (with_asked e n o x)
asked_below e n test x None is h = h
asked_below e n test x (Some t) is h = record { tokens = h.tokens; takings = all_last (λ (c : Taking). c.token < x.next) x.takings (asked e n t) h.takings (found_one (λ (u : Token). u.number < x.next) test t x.tokens h.tokens is) }

left_below : (e : ℕ) (x : Created) → AreBelow x → AreBelow (left e x)
left_below e x h = record { tokens = h.tokens; takings = left_all (λ (c : Taking). c.token < x.next) (same_below x.next) e x h.takings }

answered_below : (e : ℕ) (m : Message) (x : Created) → AreBelow x → AreBelow (answered e m x)
answered_below e m x h = record { tokens = h.tokens; takings = answered_all (λ (c : Taking). c.token < x.next) (same_below x.next) e m x h.takings }

none_below : AreBelow no_created
none_below = record { tokens = tt; takings = tt }

if_below : (b : Bool) (x y : Created) → AreBelow x → AreBelow y → AreBelow (if b then x else y)
if_below true x y h k = h
if_below false x y h k = k

module _ (settings : Settings) (s : ℕ) where
  step_below : (before : List Event) (x : Created) (ev : Event) → AreBelow x → AreBelow (created_next settings s before x ev)
  step_below before x (took (FromServer n body) (request id method params)) h = if_below (nat_eq n s && (is_creating method && is_heard settings s before id)) (with_token (created_token body x) x) x (new_below body x (created_token body x) refl h) h
  step_below before x (took (FromServer n body) (notification method params)) h = if_below (nat_eq n s && (is_progress method && is_ready (life_of s before).stage)) (progressed body params (token_called (named_token params) x) x) x
      (told_below body params (token_called (named_token params) x) x h) h
  step_below before x (took (FromEditor e body) m) h = if_below (requests (codes "shutdown") m) (left e x) (answered e m x) (left_below e x h) (answered_below e m x h)
  step_below before x (took (EditorGone e why) m) h = left_below e x h
  step_below before x (took (StartFailed n) m) h = if_below (nat_eq n s) no_created x none_below h
  step_below before x (took (ServerGone n) m) h = if_below (nat_eq n s) no_created x none_below h
  step_below before x (did (ToEditor e body) (request id method params)) h = if_below (is_creating method) (with_asked e (next_ask e before) (token_marked s params x) x) x
      (asked_below e (next_ask e before) (is_marked s (named_of (codes "token") params)) x (token_marked s params x) refl h) h
  step_below before x (did (CloseEditor e) m) h = left_below e x h
  step_below before x other h = h

  past_below : (before : List Event) (x : Created) (events : List Event) → AreBelow x → AreBelow (past (created_next settings s) before x events)
  past_below before x [] h = h
  past_below before x (ev ∷ events) h = past_below (before ++ ev ∷ []) (created_next settings s before x ev) events (step_below before x ev h)

  pub tokens_below : (events : List Event) → AreBelow (created_of settings s events)
  tokens_below events = past_below [] no_created events none_below
