-- What editors were asked to take, by their own parts: what one hasn't answered is an open request of its part with the daemon's token, and what it accepted is a token that it created there and that hasn't ended.
use Rattle.std.proofs.Common.{◌≡◌, ℕ, Bool, true, false, not, ◌&&◌, ◌||◌, cond, List, [], ◌∷◌, ◌++◌, bytes_eq, codes, decimal, filter, find, map, nat_eq, if◌then◌else◌, Option, Some, None, refl, sym, ◌∙◌, ap, ap₂, subst}
use Rattle.std.specs.List.{AllByRecursion}
use Rattle.std.specs.Option.{option_and_then}
use Rattle.std.proofs.lemmas.Bool.{and_parts}
use Rattle.std.proofs.lemmas.Slice.Eq.{bytes_eq-Decides}
use Rattle.json_text.specs.Json.{Json, word, number, string, array, object}
use Rattle.mux_history.specs.declared.cause.Cause.TheVariants.{FromEditor, EditorGone, FromServer, StartFailed, ServerGone}
use Rattle.mux_history.specs.declared.out.Out.TheVariants.{CloseEditor, ToEditor}
use Rattle.rpc_message.specs.Message.{Id, Message, request, notification, result, error, not_json, not_message, id_of, integer, message_of, text}
use Rattle.event_model.specs.Event.{Event, did, heard, requests, said, same_id, took, with_cause}
use Rattle.event_model.specs.Members.{named_of}
use Rattle.event_model.specs.Parts.{is_of_editor}
use Rattle.event_model.specs.Requests.{answered_id, is_open, without}
use Rattle.event_model.specs.Settings.{Settings}
use Rattle.event_model.specs.Stages.{life_of, is_ready}
use Rattle.event_model.proofs.Frames.{never}
use Rattle.mux_facts.specs.Allowed.{is_response}
use Rattle.mux_facts.proofs.Lists.{all_filtered, all_join, all_of}
use Rattle.mux_facts.proofs.Rules.{word_more}
use Rattle.mux_facts.proofs.Words.{id_same, number_same, open_more, same_id_itself, same_number}
use Rattle.session_laws.specs.ClientRules.{accepted_behind}
use Rattle.session_laws.specs.Progress.{Creates, Tokened, creates_heard, creates_told, is_answered as is_answered_by, is_end, no_creates, token_at, tokens_at, tokens_in}
use Rattle.session_laws.proofs.Tokens.{brings, holds, holds_last, holds_left, holds_more, open_behind}
use Rattle.group_rows.specs.Asks.{next_ask}
use Rattle.group_rows.specs.Created.{Created, Taking, Token, accepts, answered, asked, created_mark, created_next, created_of, created_token, is_answered, is_at, is_creating, is_marked, is_over, is_progress, left, lives, may_hold, named_token, no_created, progressed, settled, told, token_called, token_marked, is_begin, with_asked, with_token}
use Rattle.group_rows.specs.Forwarded.{names}
use Rattle.group_rows.specs.Live.{is_heard}
use Rattle.group_sessions.proofs.Accepted.{accepted}
use Rattle.group_sessions.proofs.CreatedFold.{all_flat}
use Rattle.group_sessions.proofs.CreatedTies.{create_is, created_more, told_request}
use Rattle.group_sessions.proofs.KeptTokens.{one_token}
use Rattle.group_sessions.proofs.Working.{names_same}

-- the daemon's token of start s that it was asked to take
abbrev pub mark_of : ℕ → Taking → Id
mark_of s c = text (created_mark s c.token)

abbrev pub Awaits : ℕ → List Event → Taking → Type 0
Awaits s events c = holds (integer (decimal c.number)) (mark_of s c) (accepted c.editor events).asked ≡ true

abbrev pub Accepts : ℕ → List Event → Taking → Type 0
Accepts s events c = is_open (mark_of s c) (accepted c.editor events).created ≡ true

pub record IsTied (s : ℕ) (events : List Event) (c : Taking) : Type 0 where
  pub waits : c.accepted ≡ false → Awaits s events c
  pub taken : c.accepted ≡ true → Accepts s events c

-- where this holds of the start and the editor
abbrev pub TiedIf : (ℕ → ℕ → Type 0) → ℕ → List Event → Taking → Type 0
TiedIf At s events c = At s c.editor → IsTied s events c

abbrev pub Tied : (ℕ → ℕ → Type 0) → Settings → List Event → Type 0
Tied At settings events = (s : ℕ) → AllByRecursion (TiedIf At s events) (created_of settings s events).takings

pub accepted_more : (e : ℕ) (events : List Event) (event : Event) → accepted e (events ++ event ∷ []) ≡ cond (is_of_editor e event) (accepted_behind (accepted e events) event) (accepted e events)
accepted_more e events event = word_more accepted_behind no_creates (is_of_editor e) events event

tied_by : (At : ℕ → ℕ → Type 0) (settings : Settings) (events : List Event) (event : Event) → ((s : ℕ) → AllByRecursion (TiedIf At s (events ++ event ∷ [])) (created_next settings s events (created_of settings s events) event).takings) → Tied At settings (events ++ event ∷ [])
tied_by At settings events event h s = subst (λ (x : Created). AllByRecursion (TiedIf At s (events ++ event ∷ [])) x.takings) (sym (created_more settings s events event)) (h s)

-- What nothing but the words with editors changes

abbrev pub is_aside : Event → Bool
is_aside (took (FromEditor e body) m) = false
is_aside (did (ToEditor e body) m) = false
is_aside other = true

-- a fact of each, whatever is held and whether it has begun
module _ (P : Taking → Type 0) (change : (c : Taking) (held : List (List ℕ)) (begun : Bool) → P c → P (record c { held = held; begun = begun })) where
  told_one : (k : ℕ) (body : List ℕ) (params : Option Json) (c : Taking) → P c → P (told k body params c)
  told_one k body params c h = go (nat_eq c.token k) c.accepted (may_hold params c.held)
    where
      go : (a b d : Bool) → P (if a then (if b then record c { begun = c.begun || is_begin params } else (if d then record c { held = c.held ++ body ∷ []; begun = c.begun || is_begin params } else c)) else c)
      go true true d = change c c.held (c.begun || is_begin params) h
      go true false true = change c (c.held ++ body ∷ []) (c.begun || is_begin params) h
      go true false false = h
      go false b d = h

  all_told : (k : ℕ) (body : List ℕ) (params : Option Json) (cs : List Taking) → AllByRecursion P cs → AllByRecursion P (map (told k body params) cs)
  all_told k body params [] h = tt
  all_told k body params (c ∷ cs) h = (told_one k body params c h.0, all_told k body params cs h.1)

  progressed_all : (body : List ℕ) (params : Option Json) (o : Option Token) (x : Created) → AllByRecursion P x.takings → AllByRecursion P (progressed body params o x).takings
  progressed_all body params None x h = h
  progressed_all body params (Some t) x h = all_told t.number body params (filter (λ c. not (is_over t.number params c)) x.takings) (all_filtered P P (λ c. not (is_over t.number params c)) (λ c on k. k) x.takings h)

  if_all : (b : Bool) (x y : Created) → AllByRecursion P x.takings → AllByRecursion P y.takings → AllByRecursion P (if b then x else y).takings
  if_all true x y h k = h
  if_all false x y h k = k

  new_all : (o : Option Token) (x : Created) → AllByRecursion P x.takings → AllByRecursion P (with_token o x).takings
  new_all None x h = h
  new_all (Some t) x h = h

  pub left_all : (e : ℕ) (x : Created) → AllByRecursion P x.takings → AllByRecursion P (left e x).takings
  left_all e x h = all_filtered P P (λ c. not (is_at e c)) (λ c on k. k) x.takings h

  pub aside_all : (settings : Settings) (s : ℕ) (before : List Event) (x : Created) (event : Event) → is_aside event ≡ true → AllByRecursion P x.takings → AllByRecursion P (created_next settings s before x event).takings
  aside_all settings s before x (took (FromServer n body) (request id method params)) off h =
      if_all (nat_eq n s && (is_creating method && is_heard settings s before id)) (with_token (created_token body x) x) x (new_all (created_token body x) x h) h
  aside_all settings s before x (took (FromServer n body) (notification method params)) off h =
      if_all (nat_eq n s && (is_progress method && is_ready (life_of s before).stage)) (progressed body params (token_called (named_token params) x) x) x (progressed_all body params (token_called (named_token params) x) x h) h
  aside_all settings s before x (took (FromEditor e body) m) off h = never (sym off)
  aside_all settings s before x (took (EditorGone e why) m) off h = left_all e x h
  aside_all settings s before x (took (StartFailed n) m) off h = if_all (nat_eq n s) no_created x tt h
  aside_all settings s before x (took (ServerGone n) m) off h = if_all (nat_eq n s) no_created x tt h
  aside_all settings s before x (did (ToEditor e body) m) off h = never (sym off)
  aside_all settings s before x (did (CloseEditor e) m) off h = left_all e x h
  aside_all settings s before x other off h = h

changed : (At : ℕ → ℕ → Type 0) (s : ℕ) (events : List Event) (c : Taking) (held : List (List ℕ)) (begun : Bool) → TiedIf At s events c → TiedIf At s events (record c { held = held; begun = begun })
changed At s events c held begun h at = let k : IsTied s events c = h at in record { waits = k.waits; taken = k.taken }

aside_part : (x : Creates) (event : Event) → is_aside event ≡ true → accepted_behind x event ≡ x
aside_part x (took (FromEditor e body) m) off = never (sym off)
aside_part x (did (ToEditor e body) m) off = never (sym off)
aside_part x other off = refl

pub accepted_aside : (e : ℕ) (events : List Event) (event : Event) → is_aside event ≡ true → accepted e (events ++ event ∷ []) ≡ accepted e events
accepted_aside e events event off = accepted_more e events event ∙ go (is_of_editor e event)
  where
    go : (b : Bool) → cond b (accepted_behind (accepted e events) event) (accepted e events) ≡ accepted e events
    go true = aside_part (accepted e events) event off
    go false = refl

pub tied_aside : (At : ℕ → ℕ → Type 0) (settings : Settings) (events : List Event) (event : Event) → is_aside event ≡ true → Tied At settings events → Tied At settings (events ++ event ∷ [])
tied_aside At settings events event off h = tied_by At settings events event (λ s. aside_all (TiedIf At s (events ++ event ∷ [])) (changed At s (events ++ event ∷ [])) settings s events (created_of settings s events) event off
    (all_of (TiedIf At s events) (TiedIf At s (events ++ event ∷ [])) (λ c k at. still s c (k at)) (created_of settings s events).takings (h s)))
  where
    still : (s : ℕ) (c : Taking) → IsTied s events c → IsTied s (events ++ event ∷ []) c
    still s c k = record {
      waits = λ o. ap (λ (x : Creates). holds (integer (decimal c.number)) (mark_of s c) x.asked) (accepted_aside c.editor events event off) ∙ k.waits o;
      taken = λ o. ap (λ (x : Creates). is_open (mark_of s c) x.created) (accepted_aside c.editor events event off) ∙ k.taken o;
    }

-- A message of an editor

-- a result creates what it answers
answered_open : (id : Option Id) (n : ℕ) (token : Id) (rs : List Tokened) → names id n ≡ true → holds (integer (decimal n)) token rs ≡ true → is_open token (tokens_in (filter (is_answered_by id) rs)) ≡ true
answered_open None n token rs named h = never (sym named)
answered_open (Some i) n token [] named h = never (sym h)
answered_open (Some i) n token (r ∷ rs) named h = go (λ e. answered_open (Some i) n token rs named e) (same_id (integer (decimal n)) r.id) refl (is_open token r.tokens) refl h
  where
    rest : List Tokened
    rest = filter (is_answered_by (Some i)) rs

    others : (b : Bool) → is_open token (tokens_in rest) ≡ true → is_open token (tokens_in (cond b (r ∷ rest) rest)) ≡ true
    others true e = open_behind token r.tokens (tokens_in rest) e
    others false e = e

    answers : same_id (integer (decimal n)) r.id ≡ true → is_answered_by (Some i) r ≡ true
    answers same = ap (λ z. same_id i z) (sym (id_same (integer (decimal n)) r.id same)) ∙ (names_same i n ∙ named)

    go : (holds (integer (decimal n)) token rs ≡ true → is_open token (tokens_in rest) ≡ true) → (a : Bool) → same_id (integer (decimal n)) r.id ≡ a → (b : Bool) → is_open token r.tokens ≡ b → ((a && b) || holds (integer (decimal n)) token rs) ≡ true → is_open token (tokens_in (cond (is_answered_by (Some i) r) (r ∷ rest) rest)) ≡ true
    go f true same true there k = ap (λ b. is_open token (tokens_in (cond b (r ∷ rest) rest))) (answers same) ∙ open_more token r.tokens (tokens_in rest) there
    go f true same false shut k = others (is_answered_by (Some i) r) (f k)
    go f false other b there k = others (is_answered_by (Some i) r) (f k)

pub opens_now : (m : Message) (n : ℕ) (token : Id) (x : Creates) → accepts m ≡ true → names (answered_id m) n ≡ true → holds (integer (decimal n)) token x.asked ≡ true → is_open token (creates_heard x m).created ≡ true
opens_now (result id r) n token x ok named h = open_behind token x.created (tokens_in (filter (is_answered_by id) x.asked)) (answered_open id n token x.asked named h)
opens_now (error id r) n token x ok named h = never (sym ok)
opens_now (request id method params) n token x ok named h = never (sym ok)
opens_now (notification method params) n token x ok named h = never (sym ok)
opens_now not_json n token x ok named h = never (sym ok)
opens_now not_message n token x ok named h = never (sym ok)

created_heard : (m : Message) (token : Id) (x : Creates) → is_open token x.created ≡ true → is_open token (creates_heard x m).created ≡ true
created_heard (result id r) token x h = open_more token x.created (tokens_in (filter (is_answered_by id) x.asked)) h
created_heard (error id r) token x h = h
created_heard (request id method params) token x h = h
created_heard (notification method params) token x h = h
created_heard not_json token x h = h
created_heard not_message token x h = h

-- what is under another number stays asked
asked_heard : (m : Message) (n : ℕ) (token : Id) (x : Creates) → names (answered_id m) n ≡ false → holds (integer (decimal n)) token x.asked ≡ true → holds (integer (decimal n)) token (creates_heard x m).asked ≡ true
asked_heard m n token x other h = go m refl
  where
    apart : (answer : Option Id) → answer ≡ answered_id m → (i : Id) → answer ≡ Some i → same_id i (integer (decimal n)) ≡ false
    apart answer of i is = names_same i n ∙ ap (λ o. names o n) (sym is ∙ of) ∙ other

    go : (w : Message) → w ≡ m → holds (integer (decimal n)) token (creates_heard x w).asked ≡ true
    go (result id r) is = holds_left id (integer (decimal n)) token (apart id (ap answered_id is)) x.asked h
    go (error id r) is = holds_left id (integer (decimal n)) token (apart id (ap answered_id is)) x.asked h
    go (request id method params) is = h
    go (notification method params) is = h
    go not_json is = h
    go not_message is = h

request_heard : (name : List ℕ) (m : Message) (x : Creates) → requests name m ≡ true → creates_heard x m ≡ x
request_heard name (request id method params) x h = refl
request_heard name (result id r) x h = never (sym h)
request_heard name (error id r) x h = never (sym h)
request_heard name (notification method params) x h = never (sym h)
request_heard name not_json x h = never (sym h)
request_heard name not_message x h = never (sym h)

-- that it answers this
pub record Answers (e : ℕ) (id : Option Id) (c : Taking) : Type 0 where
  pub unaccepted : c.accepted ≡ false
  pub editor : nat_eq c.editor e ≡ true
  pub number : names id c.number ≡ true

pub answers_it : (e : ℕ) (id : Option Id) (c : Taking) → is_answered e id c ≡ true → Answers e id c
answers_it e id c h = let p = and_parts (not c.accepted) (nat_eq c.editor e && names id c.number) h in let q = and_parts (nat_eq c.editor e) (names id c.number) p.1 in record { unaccepted = unless c.accepted p.0; editor = q.0; number = q.1 }
  where
    unless : (b : Bool) → not b ≡ true → b ≡ false
    unless true e = never (sym e)
    unless false e = refl

module _ (At : ℕ → ℕ → Type 0) (settings : Settings) (before : List Event) (e : ℕ) (body : List ℕ) where
  abbrev m : Message
  m = message_of body

  abbrev later : List Event
  later = with_cause before (FromEditor e body)

  pub heard_here : (n : ℕ) → nat_eq e n ≡ true → accepted n later ≡ creates_heard (accepted n before) m
  heard_here n same = accepted_more n before (heard (FromEditor e body)) ∙ ap (λ b. cond b (creates_heard (accepted n before) m) (accepted n before)) same

  heard_there : (n : ℕ) → nat_eq e n ≡ false → accepted n later ≡ accepted n before
  heard_there n other = accepted_more n before (heard (FromEditor e body)) ∙ ap (λ b. cond b (creates_heard (accepted n before) m) (accepted n before)) other

  turned : (n : ℕ) → nat_eq n e ≡ true → nat_eq e n ≡ true
  turned n same = ap (λ z. nat_eq z n) (sym (number_same n e same)) ∙ same_number n

  module _ (s : ℕ) (c : Taking) where
    -- what it accepted stays so
    stays : IsTied s before c → c.accepted ≡ true → Accepts s later c
    stays h on = go (nat_eq e c.editor) refl
      where
        go : (b : Bool) → nat_eq e c.editor ≡ b → Accepts s later c
        go true same = ap (λ (x : Creates). is_open (mark_of s c) x.created) (heard_here c.editor same) ∙ created_heard m (mark_of s c) (accepted c.editor before) (h.taken on)
        go false other = ap (λ (x : Creates). is_open (mark_of s c) x.created) (heard_there c.editor other) ∙ h.taken on

    unanswered_yet : IsTied s before c → is_answered e (answered_id m) c ≡ false → c.accepted ≡ false → Awaits s later c
    unanswered_yet h unasked off = go (nat_eq e c.editor) refl (names (answered_id m) c.number) refl
      where
        go : (b : Bool) → nat_eq e c.editor ≡ b → (d : Bool) → names (answered_id m) c.number ≡ d → Awaits s later c
        go true same false other = ap (λ (x : Creates). holds (integer (decimal c.number)) (mark_of s c) x.asked) (heard_here c.editor same) ∙ asked_heard m c.number (mark_of s c) (accepted c.editor before) other (h.waits off)
        go true same true named = never (sym (ap₂ (λ a d. not a && d) off (ap₂ (λ a d. a && d) (ap (λ z. nat_eq z e) (sym (number_same e c.editor same)) ∙ same_number e) named)) ∙ unasked)
        go false other d named = ap (λ (x : Creates). holds (integer (decimal c.number)) (mark_of s c) x.asked) (heard_there c.editor other) ∙ h.waits off

    -- an editor that has left, by `shutdown`, answers nothing
    shut : requests (codes "shutdown") m ≡ true → IsTied s before c → IsTied s later c
    shut off h = record {
      waits = λ o. ap (λ (x : Creates). holds (integer (decimal c.number)) (mark_of s c) x.asked) same ∙ h.waits o;
      taken = λ o. ap (λ (x : Creates). is_open (mark_of s c) x.created) same ∙ h.taken o;
    }
      where
        same : accepted c.editor later ≡ accepted c.editor before
        same = accepted_more c.editor before (heard (FromEditor e body)) ∙ go (nat_eq e c.editor)
          where
            go : (b : Bool) → cond b (creates_heard (accepted c.editor before) m) (accepted c.editor before) ≡ accepted c.editor before
            go true = request_heard (codes "shutdown") m (accepted c.editor before) off
            go false = refl

    -- it accepts
    pub accepts_now : IsTied s before c → is_answered e (answered_id m) c ≡ true → accepts m ≡ true → Accepts s later c
    accepts_now h is ok = let a : Answers e (answered_id m) c = answers_it e (answered_id m) c is in
        ap (λ (x : Creates). is_open (mark_of s c) x.created) (heard_here c.editor (turned c.editor a.editor)) ∙ opens_now m c.number (mark_of s c) (accepted c.editor before) ok a.number (h.waits a.unaccepted)

    one_heard : TiedIf At s before c → AllByRecursion (TiedIf At s later) (if is_answered e (answered_id m) c then settled m (created_of settings s before) c else c ∷ [])
    one_heard h = go (is_answered e (answered_id m) c) refl (accepts m && lives c.token (created_of settings s before)) refl
      where
        go : (a : Bool) → is_answered e (answered_id m) c ≡ a → (b : Bool) → (accepts m && lives c.token (created_of settings s before)) ≡ b
            → AllByRecursion (TiedIf At s later) (if a then (if b then record c { accepted = true; held = [] } ∷ [] else []) else c ∷ [])
        go true is true both = (λ at. record { waits = λ off. never off; taken = λ on. accepts_now (h at) is (and_parts (accepts m) (lives c.token (created_of settings s before)) both).0 }, tt)
        go true is false both = tt
        go false unasked b both = (λ at. record { waits = λ off. unanswered_yet (h at) unasked off; taken = λ on. stays (h at) on }, tt)

  pub tied_heard : Tied At settings before → Tied At settings later
  tied_heard h = tied_by At settings before (heard (FromEditor e body)) (λ s. go s (requests (codes "shutdown") m) refl)
    where
      go : (s : ℕ) (b : Bool) → requests (codes "shutdown") m ≡ b → AllByRecursion (TiedIf At s later) (if b then left e (created_of settings s before) else answered e m (created_of settings s before)).takings
      go s true off = left_all (TiedIf At s later) (changed At s later) e (created_of settings s before) (all_of (TiedIf At s before) (TiedIf At s later) (λ c k at. shut s c off (k at)) (created_of settings s before).takings (h s))
      go s false on = all_flat (TiedIf At s before) (TiedIf At s later) (λ c. if is_answered e (answered_id m) c then settled m (created_of settings s before) c else c ∷ []) (λ c k. one_heard s c k) (created_of settings s before).takings (h s)

-- A body to an editor

asked_told : (m : Message) (i token : Id) (x : Creates) → holds i token x.asked ≡ true → holds i token (creates_told x m).asked ≡ true
asked_told (request id method params) i token x h = go (bytes_eq method (codes "window/workDoneProgress/create"))
  where
    go : (b : Bool) → holds i token (if b then record { asked = x.asked ++ record { id = id; tokens = tokens_at (codes "token") params } ∷ []; created = x.created } else x).asked ≡ true
    go true = holds_more i token x.asked (record { id = id; tokens = tokens_at (codes "token") params } ∷ []) h
    go false = h
asked_told (notification method params) i token x h = go (bytes_eq method (codes "$/progress") && is_end params)
  where
    go : (b : Bool) → holds i token (if b then record { asked = x.asked; created = without (token_at (codes "token") params) x.created } else x).asked ≡ true
    go true = h
    go false = h
asked_told (result id r) i token x h = h
asked_told (error id r) i token x h = h
asked_told not_json i token x h = h
asked_told not_message i token x h = h

-- the params of a create name the token that is marked
marked_named : (s : ℕ) (o : Option Json) (t : Token) → is_marked s o t ≡ true → option_and_then id_of o ≡ Some (text (created_mark s t.number))
marked_named s (Some (string sp cs)) t h = ap (λ z. Some (text z)) (sym ((bytes_eq-Decides (created_mark s t.number) cs).0 h))
marked_named s (Some (word sp w)) t h = never (sym h)
marked_named s (Some (number sp ds)) t h = never (sym h)
marked_named s (Some (array sp js)) t h = never (sym h)
marked_named s (Some (object sp ms)) t h = never (sym h)
marked_named s None t h = never (sym h)

pub find_true : {A : Type 0} (test : A → Bool) (xs : List A) (x : A) → find test xs ≡ Some x → test x ≡ true
find_true test [] x h = absurd (cc)
find_true test (y ∷ xs) x h = go (λ e. find_true test xs x e) (test y) refl h
  where
    go : (find test xs ≡ Some x → test x ≡ true) → (b : Bool) → test y ≡ b → cond b (Some y) (find test xs) ≡ Some x → test x ≡ true
    go f true e k = subst (λ z. test z ≡ true) (let same : y ≡ x = cc in same) e
    go f false e k = f k

module _ (At : ℕ → ℕ → Type 0) (settings : Settings) (events : List Event) (n : ℕ) (body : List ℕ) where
  abbrev sent : List Event
  sent = events ++ said (ToEditor n body) ∷ []

  pub told_here : (e : ℕ) (m : Message) → message_of body ≡ m → nat_eq n e ≡ true → accepted e sent ≡ creates_told (accepted e events) m
  told_here e m says same = accepted_more e events (said (ToEditor n body)) ∙ ap₂ (λ b w. cond b (creates_told (accepted e events) w) (accepted e events)) same says

  pub told_there : (e : ℕ) → nat_eq n e ≡ false → accepted e sent ≡ accepted e events
  told_there e other = accepted_more e events (said (ToEditor n body)) ∙ ap (λ b. cond b (creates_told (accepted e events) (message_of body)) (accepted e events)) other

  -- what the body leaves to an editor of what it accepted
  abbrev pub Spares : Message → ℕ → Taking → Type 0
  Spares m s c = At s c.editor → c.accepted ≡ true → nat_eq n c.editor ≡ true → Accepts s events c → is_open (mark_of s c) (creates_told (accepted c.editor events) m).created ≡ true

  one_told : (m : Message) → message_of body ≡ m → (s : ℕ) (c : Taking) → TiedIf At s events c → Spares m s c → TiedIf At s sent c
  one_told m says s c tied spares at = go (nat_eq n c.editor) refl
    where
      h : IsTied s events c
      h = tied at

      go : (b : Bool) → nat_eq n c.editor ≡ b → IsTied s sent c
      go true same = record {
        waits = λ o. ap (λ (x : Creates). holds (integer (decimal c.number)) (mark_of s c) x.asked) (told_here c.editor m says same) ∙ asked_told m (integer (decimal c.number)) (mark_of s c) (accepted c.editor events) (h.waits o);
        taken = λ o. ap (λ (x : Creates). is_open (mark_of s c) x.created) (told_here c.editor m says same) ∙ spares at o same (h.taken o);
      }
      go false other = record {
        waits = λ o. ap (λ (x : Creates). holds (integer (decimal c.number)) (mark_of s c) x.asked) (told_there c.editor other) ∙ h.waits o;
        taken = λ o. ap (λ (x : Creates). is_open (mark_of s c) x.created) (told_there c.editor other) ∙ h.taken o;
      }

  old_told : (m : Message) → message_of body ≡ m → (s : ℕ) → AllByRecursion (TiedIf At s events) (created_of settings s events).takings → AllByRecursion (Spares m s) (created_of settings s events).takings → AllByRecursion (TiedIf At s sent) (created_of settings s events).takings
  old_told m says s h spares = both (created_of settings s events).takings h spares
    where
      both : (cs : List Taking) → AllByRecursion (TiedIf At s events) cs → AllByRecursion (Spares m s) cs → AllByRecursion (TiedIf At s sent) cs
      both [] h k = tt
      both (c ∷ cs) h k = (one_told m says s c h.0 k.0, both cs h.1 k.1)

  any_spared : (m : Message) → ((x : Creates) → (creates_told x m).created ≡ x.created) → (s : ℕ) (cs : List Taking) → AllByRecursion (Spares m s) cs
  any_spared m same s [] = tt
  any_spared m same s (c ∷ cs) = (λ at on own h. ap (is_open (mark_of s c)) (same (accepted c.editor events)) ∙ h, any_spared m same s cs)

  module _ (m : Message) (says : message_of body ≡ m) where
    abbrev New : ℕ → Created → Type 0
    New s x = AllByRecursion (TiedIf At s sent) x.takings

    in_sent : ((s : ℕ) → New s (created_next settings s events (created_of settings s events) (did (ToEditor n body) m))) → Tied At settings sent
    in_sent h = tied_by At settings events (said (ToEditor n body)) (λ s. subst (λ w. New s (created_next settings s events (created_of settings s events) (did (ToEditor n body) w))) (sym says) (h s))

  -- a notification
  pub tied_notified : (method : List ℕ) (params : Option Json) → message_of body ≡ notification method params → ((s : ℕ) → AllByRecursion (Spares (notification method params) s) (created_of settings s events).takings) → Tied At settings events → Tied At settings sent
  tied_notified method params says spares h = in_sent (notification method params) says (λ s. old_told (notification method params) says s (h s) (spares s))

  -- a response
  pub tied_response : is_response (message_of body) ≡ true → Tied At settings events → Tied At settings sent
  tied_response response h = go (message_of body) refl response
    where
      go : (m : Message) → message_of body ≡ m → is_response m ≡ true → Tied At settings sent
      go (result id r) says k = in_sent (result id r) says (λ s. old_told (result id r) says s (h s) (any_spared (result id r) (λ x. refl) s (created_of settings s events).takings))
      go (error id r) says k = in_sent (error id r) says (λ s. old_told (error id r) says s (h s) (any_spared (error id r) (λ x. refl) s (created_of settings s events).takings))
      go (request id method params) says k = never (sym k)
      go (notification method params) says k = never (sym k)
      go not_json says k = never (sym k)
      go not_message says k = never (sym k)

  -- a request, under the editor's next number
  pub tied_request : (method : List ℕ) (params : Option Json) → message_of body ≡ request (integer (decimal (next_ask n events))) method params → Tied At settings events → Tied At settings sent
  tied_request method params says h = in_sent asks says (λ s. go s (is_creating method) refl (token_marked s params (created_of settings s events)) refl)
    where
      id : Id
      id = integer (decimal (next_ask n events))

      asks : Message
      asks = request id method params

      old : (s : ℕ) → AllByRecursion (TiedIf At s sent) (created_of settings s events).takings
      old s = old_told asks says s (h s) (any_spared asks (λ x. told_request x id method params) s (created_of settings s events).takings)

      new : (s : ℕ) (t : Token) → is_creating method ≡ true → token_marked s params (created_of settings s events) ≡ Some t → IsTied s sent (asked n (next_ask n events) t)
      new s t creating at = record { taken = λ on. never (sym on); waits = λ off. ap (λ (x : Creates). holds id token x.asked) part ∙ holds_last id token (accepted n events).asked (record { id = id; tokens = tokens_at (codes "token") params }) brought }
        where
          token : Id
          token = text (created_mark s t.number)

          named : token_at (codes "token") params ≡ Some token
          named = marked_named s (named_of (codes "token") params) t (find_true (is_marked s (named_of (codes "token") params)) (created_of settings s events).tokens t at)

          brought : brings id token (record { id = id; tokens = tokens_at (codes "token") params }) ≡ true
          brought = ap₂ (λ a b. a && b) (same_id_itself id) (one_token (codes "token") params token named)

          part : accepted n sent ≡ record { asked = (accepted n events).asked ++ record { id = id; tokens = tokens_at (codes "token") params } ∷ []; created = (accepted n events).created }
          part = told_here n asks says (same_number n)
              ∙ ap (λ b. if b then record { asked = (accepted n events).asked ++ record { id = id; tokens = tokens_at (codes "token") params } ∷ []; created = (accepted n events).created } else accepted n events) (create_is method creating)

      go : (s : ℕ) (b : Bool) → is_creating method ≡ b → (o : Option Token) → token_marked s params (created_of settings s events) ≡ o → AllByRecursion (TiedIf At s sent) (if b then with_asked n (next_ask n events) o (created_of settings s events) else created_of settings s events).takings
      go s true creating (Some t) at = all_join (TiedIf At s sent) (created_of settings s events).takings (asked n (next_ask n events) t ∷ []) (old s) (λ there. new s t creating at, tt)
      go s true creating None at = old s
      go s false other o at = old s
