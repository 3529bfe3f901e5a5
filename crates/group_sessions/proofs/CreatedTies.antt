-- The tokens that live at a ready start are those that it created, by its part, and that haven't ended there.
use Rattle.std.proofs.Common.{◌≡◌, ℕ, ◌<◌, Bool, true, false, not, ◌&&◌, cond, List, [], ◌∷◌, ◌++◌, append-nil, append_assoc, bytes_eq, codes, filter, find, is_some, map, nat_eq, nat_le, if◌then◌else◌, Option, Some, None, ◌⊎◌, inl, inr, refl, sym, ◌∙◌, ap, ap₂, subst, arith}
use Rattle.std.specs.List.{AllByRecursion}
use Rattle.std.proofs.lemmas.Bool.{leb-false, leb-true}
use Rattle.std.proofs.lemmas.Slice.Eq.{bytes_eq-Decides}
use Rattle.json_text.specs.Json.{Json}
use Rattle.mux_history.specs.declared.cause.Cause.{Cause}
use Rattle.mux_history.specs.declared.cause.Cause.TheVariants.{Joined, FromEditor, EditorGone, Started, StartFailed, FromServer, ServerGone, Drained, Tick}
use Rattle.mux_history.specs.declared.out.Out.{Out}
use Rattle.mux_history.specs.declared.out.Out.TheVariants.{ToEditor, ToServer, Spawn, CloseEditor, EndServer}
use Rattle.lsp_method.specs.Class.{class_of, is_focused, is_refresh, server_notification, server_request}
use Rattle.lsp_method.specs.declared.variants.Class.{Class}
use Rattle.lsp_method.specs.declared.variants.Class.TheVariants.{Create, Focused, Folders, Lowest, Refresh, Register, Unregister}
use Rattle.lsp_method.specs.declared.variants.Origin.TheVariants.{Server}
use Rattle.rpc_message.specs.Message.{Id, Message, request, notification, result, error, not_json, not_message, id_bytes, message_of}
use Rattle.rpc_message.specs.Texts.{ok_text}
use Rattle.event_model.specs.declared.stage.Stage.{Stage}
use Rattle.event_model.specs.declared.stage.Stage.TheVariants.{Ended, Initializing, Ready, Spawning}
use Rattle.event_model.specs.Event.{Event, behind, did, heard, requests, said, same_id, took, with_cause}
use Rattle.event_model.specs.Requests.{is_open, without}
use Rattle.event_model.specs.Row.{choose, each, nothing, on, outs, ◌⨾◌}
use Rattle.event_model.specs.Settings.{Settings}
use Rattle.event_model.specs.Spawns.{group_of, starts_of}
use Rattle.event_model.specs.Stages.{Life, is_ready, life_behind, life_of, stage_hears, stage_started}
use Rattle.event_model.proofs.Frames.{never}
use Rattle.mux_model.specs.Fits.{fits_behind}
use Rattle.mux_facts.specs.Ranges.{InRange}
use Rattle.mux_facts.proofs.DocumentRow.{ready_is}
use Rattle.mux_facts.proofs.Folds.{life_more}
use Rattle.mux_facts.proofs.Keeps.{behind_both}
use Rattle.mux_facts.proofs.Lists.{all_filtered, all_join, all_of}
use Rattle.mux_facts.proofs.Words.{id_same, number_same, open_more, same_id_itself, same_number, still_open}
use Rattle.session_laws.specs.Progress.{Creates, Tokened, creates_told, is_answered, is_end, token_at, tokens_at, tokens_in}
use Rattle.session_laws.specs.ServerRules.{creates_behind}
use Rattle.session_laws.proofs.Server7Law.{creates, creates_grows, creates_more, is_from_server}
use Rattle.session_laws.proofs.Tokens.{open_behind}
use Rattle.group_words.proofs.Frames.{past_more}
use Rattle.group_rows.specs.AskRows.{asking_row}
use Rattle.group_rows.specs.Asks.{asking_of, is_taken, next_ask, running_in}
use Rattle.group_rows.specs.Created.{Created, Token, answered, begun_by, created_next, created_of, created_token, first_begin, is_called, is_creating, is_ended_by, is_numbered, is_progress, left, named_token, names_create, no_created, progressed, token_called, token_marked, with_asked, with_token}
use Rattle.group_rows.specs.CreatedRows.{offer}
use Rattle.group_rows.specs.Live.{is_heard}
use Rattle.group_rows.specs.LiveRows.{accept, decline}
use Rattle.group_rows.specs.Rows.{from_server, outs_of}
use Rattle.group_facts.specs.Facts.{IsHoused, is_unready}
use Rattle.group_facts.proofs.Facts.{Facts}
use Rattle.group_facts.proofs.Nulls.{null_said}
use Rattle.group_sessions.proofs.Behind.{created_behind, ready_outs}
use Rattle.group_sessions.proofs.Brought.{token_request}
use Rattle.group_sessions.proofs.Client7Law.{begun_later}
use Rattle.group_sessions.proofs.CreatedFold.{AllApart, IsApart, IsNew, created_orderly, new_is, none_called}
use Rattle.group_sessions.proofs.KeptTokens.{one_token}
use Rattle.group_facts.proofs.SlowRow.{parting}
use Rattle.group_facts.proofs.AskEntries.{onward_slow}
use Rattle.group_facts.specs.SlowRows.{is_slow}

abbrev AllOpen : ℕ → List Event → List Token → Type 0
AllOpen s events ts = AllByRecursion (λ (t : Token). is_open t.id (creates s events).created ≡ true) ts

pub record Tie (settings : Settings) (events : List Event) : Type 0 where
  pub unready : (s : ℕ) → is_unready (life_of s events).stage ≡ true → (created_of settings s events).tokens ≡ []
  pub there : (s : ℕ) → (life_of s events).stage ≡ Ready → AllByRecursion (λ (t : Token). is_open t.id (creates s events).created ≡ true) (created_of settings s events).tokens

-- Methods by their classes

pub create_is : (method : List ℕ) → is_creating method ≡ true → bytes_eq method (codes "window/workDoneProgress/create") ≡ true
unfolding server_request
create_is method h = go (bytes_eq method (codes "client/registerCapability")) (bytes_eq method (codes "client/unregisterCapability")) (bytes_eq method (codes "window/workDoneProgress/create")) (bytes_eq method (codes "workspace/workspaceFolders")) (is_refresh method) (is_focused method) h
  where
    go : (a b c d e f : Bool) → names_create (if a then Register else if b then Unregister else if c then Create else if d then Folders else if e then Refresh else if f then Focused else Lowest) ≡ true → c ≡ true
    go true b c d e f k = never (sym k)
    go false true c d e f k = never (sym k)
    go false false true d e f k = refl
    go false false false true e f k = never (sym k)
    go false false false false true f k = never (sym k)
    go false false false false false true k = never (sym k)
    go false false false false false false k = never (sym k)

progress_is : (method : List ℕ) → bytes_eq method (codes "$/progress") ≡ true → is_progress method ≡ true
unfolding server_notification
progress_is method h = subst (λ m. is_progress m ≡ true) (sym ((bytes_eq-Decides method (codes "$/progress")).0 h)) refl

-- The tokens that live, behind one event

pub created_more : (settings : Settings) (s : ℕ) (events : List Event) (event : Event) → created_of settings s (events ++ event ∷ []) ≡ created_next settings s events (created_of settings s events) event
created_more settings s events event = past_more (created_next settings s) [] no_created events event

-- outs create none, and end none
module _ (settings : Settings) (s : ℕ) where
  told_tokens : (events : List Event) (x : Created) (e : ℕ) (body : List ℕ) (m : Message) → (created_next settings s events x (did (ToEditor e body) m)).tokens ≡ x.tokens
  told_tokens events x e body (request id method params) = go (is_creating method) (token_marked s params x)
    where
      go : (b : Bool) (o : Option Token) → (if b then with_asked e (next_ask e events) o x else x).tokens ≡ x.tokens
      go true None = refl
      go true (Some t) = refl
      go false o = refl
  told_tokens events x e body (notification method params) = refl
  told_tokens events x e body (result id r) = refl
  told_tokens events x e body (error id r) = refl
  told_tokens events x e body not_json = refl
  told_tokens events x e body not_message = refl

  out_tokens : (events : List Event) (out : Out) → (created_of settings s (events ++ said out ∷ [])).tokens ≡ (created_of settings s events).tokens
  out_tokens events out = ap (λ (x : Created). x.tokens) (created_more settings s events (said out)) ∙ by_out out
    where
      by_out : (o : Out) → (created_next settings s events (created_of settings s events) (said o)).tokens ≡ (created_of settings s events).tokens
      by_out (ToEditor e body) = told_tokens events (created_of settings s events) e body (message_of body)
      by_out (ToServer n body) = refl
      by_out (Spawn n g) = refl
      by_out (CloseEditor e) = refl
      by_out (EndServer n) = refl

  pub outs_tokens : (events : List Event) (xs : List Out) → (created_of settings s (behind events xs)).tokens ≡ (created_of settings s events).tokens
  outs_tokens events [] = ap (λ z. (created_of settings s z).tokens) (append-nil events)
  outs_tokens events (x ∷ xs) = ap (λ z. (created_of settings s z).tokens) (sym (append_assoc events (said x ∷ []) (map said xs))) ∙ outs_tokens (events ++ said x ∷ []) xs ∙ out_tokens events x

  -- an editor's message leaves them
  pub spoken_tokens : (events : List Event) (x : Created) (e : ℕ) (body : List ℕ) (m : Message) → (created_next settings s events x (took (FromEditor e body) m)).tokens ≡ x.tokens
  spoken_tokens events x e body m = go (requests (codes "shutdown") m)
    where
      go : (b : Bool) → (if b then left e x else answered e m x).tokens ≡ x.tokens
      go true = refl
      go false = refl

  -- another start's message too
  other_tokens : (events : List Event) (x : Created) (n : ℕ) (body : List ℕ) (m : Message) → nat_eq n s ≡ false → (created_next settings s events x (took (FromServer n body) m)).tokens ≡ x.tokens
  other_tokens events x n body (request id method params) off = ap (λ b. (if b && (is_creating method && is_heard settings s events id) then with_token (created_token body x) x else x).tokens) off
  other_tokens events x n body (notification method params) off = ap (λ b. (if b && (is_progress method && is_ready (life_of s events).stage) then progressed body params (token_called (named_token params) x) x else x).tokens) off
  other_tokens events x n body (result id r) off = refl
  other_tokens events x n body (error id r) off = refl
  other_tokens events x n body not_json off = refl
  other_tokens events x n body not_message off = refl

  -- and a start that isn't ready creates none
  unready_tokens : (events : List Event) (x : Created) (n : ℕ) (body : List ℕ) (m : Message) → is_ready (life_of s events).stage ≡ false → (created_next settings s events x (took (FromServer n body) m)).tokens ≡ x.tokens
  unready_tokens events x n body (request id method params) off = ap (λ b. (if nat_eq n s && (is_creating method && (b && not (is_taken (Some id) (asking_of settings s events)))) then with_token (created_token body x) x else x).tokens) off ∙ go (nat_eq n s) (is_creating method)
    where
      go : (a b : Bool) → (if a && (b && false) then with_token (created_token body x) x else x).tokens ≡ x.tokens
      go true true = refl
      go true false = refl
      go false b = refl
  unready_tokens events x n body (notification method params) off = ap (λ b. (if nat_eq n s && (is_progress method && b) then progressed body params (token_called (named_token params) x) x else x).tokens) off ∙ go (nat_eq n s) (is_progress method)
    where
      go : (a b : Bool) → (if a && (b && false) then progressed body params (token_called (named_token params) x) x else x).tokens ≡ x.tokens
      go true true = refl
      go true false = refl
      go false b = refl
  unready_tokens events x n body (result id r) off = refl
  unready_tokens events x n body (error id r) off = refl
  unready_tokens events x n body not_json off = refl
  unready_tokens events x n body not_message off = refl

if_none : (b : Bool) (x : Created) → x.tokens ≡ [] → (if b then no_created else x).tokens ≡ []
if_none true x h = refl
if_none false x h = h

unready_off : (stage : Stage) → is_unready stage ≡ true → is_ready stage ≡ false
unready_off Ready h = never (sym h)
unready_off _ h = refl

-- what is created, behind a request of the start, and its answer
pub told_request : (x : Creates) (id : Id) (method : List ℕ) (params : Option Json) → (creates_told x (request id method params)).created ≡ x.created
told_request x id method params = go (bytes_eq method (codes "window/workDoneProgress/create"))
  where
    go : (b : Bool) → (if b then record { asked = x.asked ++ record { id = id; tokens = tokens_at (codes "token") params } ∷ []; created = x.created } else x).created ≡ x.created
    go true = refl
    go false = refl

answered_last : (id token : Id) (tokens : List Id) (xs : List Tokened) → is_open token tokens ≡ true → is_open token (tokens_in (filter (is_answered (Some id)) (xs ++ record { id = id; tokens = tokens } ∷ []))) ≡ true
answered_last id token tokens [] h = ap (λ b. is_open token (tokens_in (cond b (record { id = id; tokens = tokens } ∷ []) []))) (same_id_itself id) ∙ open_more token tokens [] h
answered_last id token tokens (x ∷ xs) h = go (is_answered (Some id) x) (answered_last id token tokens xs h)
  where
    rest : List Tokened
    rest = filter (is_answered (Some id)) (xs ++ record { id = id; tokens = tokens } ∷ [])

    go : (b : Bool) → is_open token (tokens_in rest) ≡ true → is_open token (tokens_in (cond b (x ∷ rest) rest)) ≡ true
    go true k = open_behind token x.tokens (tokens_in rest) k
    go false k = k

-- another live token hasn't the id of one that is found
apart_found : (id : Id) (ts : List Token) (t : Token) → AllApart ts → find (is_called id) ts ≡ Some t → AllByRecursion (λ (u : Token). nat_eq u.number t.number ≡ false → same_id id u.id ≡ false) ts
apart_found id [] t h at = tt
apart_found id (v ∷ ts) t h at = go (same_id id v.id) refl (λ k. apart_found id ts t h.1 k) at
  where
    go : (b : Bool) → same_id id v.id ≡ b → (find (is_called id) ts ≡ Some t → AllByRecursion (λ (u : Token). nat_eq u.number t.number ≡ false → same_id id u.id ≡ false) ts) → cond b (Some v) (find (is_called id) ts) ≡ Some t
        → (nat_eq v.number t.number ≡ false → same_id id v.id ≡ false) × AllByRecursion (λ (u : Token). nat_eq u.number t.number ≡ false → same_id id u.id ≡ false) ts
    go true e rest k = let same : v ≡ t = cc in (
      λ off. never (sym (same_number v.number) ∙ ap (λ (z : Token). nat_eq v.number z.number) same ∙ off),
      all_of (IsApart v) (λ (u : Token). nat_eq u.number t.number ≡ false → same_id id u.id ≡ false) (λ u a off. ap (λ z. same_id z u.id) (id_same id v.id e) ∙ a.1) ts h.0,
    )
    go false e rest k = (λ off. e, rest k)

not_so : (b : Bool) → not b ≡ true → b ≡ false
not_so true h = never (sym h)
not_so false h = refl

-- One entry

module _ (settings : Settings) (range : InRange settings) (before : List Event) (facts : Facts settings before) (h : Tie settings before) (cause : Cause) (fits : fits_behind before cause ≡ true) where
  abbrev now : List Event
  now = with_cause before cause

  abbrev later : List Event
  later = behind now (outs_of settings before cause)

  tokens_here : (s : ℕ) → (created_of settings s later).tokens ≡ (created_next settings s before (created_of settings s before) (heard cause)).tokens
  tokens_here s = outs_tokens settings s now (outs_of settings before cause) ∙ ap (λ (x : Created). x.tokens) (created_more settings s before (heard cause))

  none_here : (s : ℕ) → is_unready (life_of s before).stage ≡ true → (created_of settings s later).tokens ≡ []
  none_here s un = tokens_here s ∙ by_cause cause
    where
      x : Created
      x = created_of settings s before

      none : x.tokens ≡ []
      none = h.unready s un

      by_cause : (c : Cause) → (created_next settings s before x (heard c)).tokens ≡ []
      by_cause (FromServer n body) = unready_tokens settings s before x n body (message_of body) (unready_off (life_of s before).stage un) ∙ none
      by_cause (FromEditor e body) = spoken_tokens settings s before x e body (message_of body) ∙ none
      by_cause (StartFailed n) = if_none (nat_eq n s) x none
      by_cause (ServerGone n) = if_none (nat_eq n s) x none
      by_cause (EditorGone e why) = none
      by_cause (Joined e) = none
      by_cause (Started n) = none
      by_cause (Drained e k) = none
      by_cause (Tick t) = none

  unready_here : (s : ℕ) → is_unready (life_of s later).stage ≡ true → (created_of settings s later).tokens ≡ []
  unready_here s un = go (is_unready (life_of s before).stage) refl
    where
      go : (b : Bool) → is_unready (life_of s before).stage ≡ b → (created_of settings s later).tokens ≡ []
      go true old = none_here s old
      go false begun = never (sym un ∙ begun_later settings range before facts cause fits s begun)

  -- a start that is ready was ready, or gave its result in this entry
  was : (s : ℕ) → is_ready (life_of s now).stage ≡ true → (is_ready (life_of s before).stage ≡ true) ⊎ (is_unready (life_of s before).stage ≡ true)
  was s k = by_cause cause (sym (ap (λ (l : Life). is_ready l.stage) (life_more s before (heard cause))) ∙ k)
    where
      Was : Stage → Type 0
      Was stage = (is_ready stage ≡ true) ⊎ (is_unready stage ≡ true)

      hears : (stage : Stage) (m : Message) → is_ready (stage_hears stage m) ≡ true → Was stage
      hears Initializing m e = inr refl
      hears _ m e = inl e

      starts : (stage : Stage) → is_ready (stage_started stage) ≡ true → Was stage
      starts Spawning e = inr refl
      starts _ e = inl e

      by_cause : (c : Cause) → is_ready (life_behind s (life_of s before) (heard c)).stage ≡ true → Was (life_of s before).stage
      by_cause (FromServer n body) e = go (nat_eq n s) e
        where
          go : (b : Bool) → is_ready (if b then record { stage = stage_hears (life_of s before).stage (message_of body); started = (life_of s before).started } else life_of s before).stage ≡ true → Was (life_of s before).stage
          go true z = hears (life_of s before).stage (message_of body) z
          go false z = inl z
      by_cause (Started n) e = go (nat_eq n s) e
        where
          go : (b : Bool) → is_ready (if b then record { stage = stage_started (life_of s before).stage; started = true } else life_of s before).stage ≡ true → Was (life_of s before).stage
          go true z = starts (life_of s before).stage z
          go false z = inl z
      by_cause (StartFailed n) e = go (nat_eq n s) e
        where
          go : (b : Bool) → is_ready (if b then record { stage = Ended; started = (life_of s before).started } else life_of s before).stage ≡ true → Was (life_of s before).stage
          go true z = never (sym z)
          go false z = inl z
      by_cause (ServerGone n) e = go (nat_eq n s) e
        where
          go : (b : Bool) → is_ready (if b then record { stage = Ended; started = (life_of s before).started } else life_of s before).stage ≡ true → Was (life_of s before).stage
          go true z = never (sym z)
          go false z = inl z
      by_cause (FromEditor n body) e = inl e
      by_cause (EditorGone n why) e = inl e
      by_cause (Joined n) e = inl e
      by_cause (Drained n j) e = inl e
      by_cause (Tick t) e = inl e

  -- what is created at `now` stays
  from_now : (s : ℕ) (ts : List Token) → AllOpen s now ts → AllOpen s later ts
  from_now s ts k = all_of (λ (t : Token). is_open t.id (creates s now).created ≡ true) (λ (t : Token). is_open t.id (creates s later).created ≡ true) (λ t o. created_behind s now (outs_of settings before cause) t.id o) ts k

-- A ready start's create, which is answered at once

module _ (settings : Settings) (range : InRange settings) (before : List Event) (facts : Facts settings before) (s : ℕ) (body : List ℕ) (ready : (life_of s before).stage ≡ Ready)
    (id : Id) (method : List ℕ) (params : Option Json) (says : message_of body ≡ request id method params) (creating : is_creating method ≡ true) (fresh : is_taken (Some id) (asking_of settings s before) ≡ false)
    (t : Token) (found : created_token body (created_of settings s before) ≡ Some t) where
  abbrev asked : List Event
  asked = with_cause before (FromServer s body)

  abbrev answer : List ℕ
  answer = ok_text (id_bytes body) (codes "null")

  abbrev there : List Event
  there = behind asked (ToServer s answer ∷ [])

  housed : IsHoused settings s before
  housed = (facts.steady).housed s (go (nat_le (starts_of before) s) refl)
    where
      go : (b : Bool) → nat_le (starts_of before) s ≡ b → s < starts_of before
      go false low = let k = leb-false (starts_of before) s low in omega (arith, k)
      go true high = never (sym (ap is_ready ready) ∙ ap (λ (l : Life). is_ready l.stage) ((facts.steady).starts s (leb-true (starts_of before) s high)))

  class_create : class_of method Server false ≡ Create
  class_create = go (class_of method Server false) refl creating
    where
      go : (c : Class) → class_of method Server false ≡ c → names_create c ≡ true → class_of method Server false ≡ Create
      go Create e k = e
      go _ e k = never (sym k)

  sends : outs_of settings before (FromServer s body) ≡ ToServer s answer ∷ outs (each (λ e. offer s e t) (running_in settings housed.group before)) there
  sends = ap (λ z. outs (from_server settings s before body (message_of body) z) asked) ready ∙ ap (λ m. outs (from_server settings s before body m Ready) asked) says
      ∙ ap (λ b. outs (choose b nothing (on (group_of s before) nothing (λ g. asking_row settings before g s body method (class_of method Server false)))) asked) fresh
      ∙ ap (λ o. outs (on o nothing (λ g. asking_row settings before g s body method (class_of method Server false))) asked) housed.is
      ∙ ap (λ c. outs (asking_row settings before housed.group s body method c) asked) class_create
      ∙ ap (λ o. outs (on o (decline s body) (λ u. accept s body ⨾ each (λ e. offer s e u) (running_in settings housed.group before))) asked) found

  -- it is created as its answer goes
  open_there : is_open t.id (creates s there).created ≡ true
  open_there = subst (λ (x : Creates). is_open t.id x.created ≡ true)
      (sym (creates_more s asked (said (ToServer s answer)) ∙ ap₂ (λ b m. cond b (creates_behind (creates s asked) (did (ToServer s answer) m)) (creates s asked)) (same_number s) (null_said body id method params says)))
      (open_behind t.id (creates s asked).created (tokens_in (filter (is_answered (Some id)) (creates s asked).asked))
      (subst (λ rs. is_open t.id (tokens_in (filter (is_answered (Some id)) rs)) ≡ true) (sym asked_now) (answered_last id t.id (tokens_at (codes "token") params) (creates s before).asked (one_token (codes "token") params t.id named))))
    where
      new : IsNew body (created_of settings s before) t
      new = new_is body (created_of settings s before) t found

      named : token_at (codes "token") params ≡ Some t.id
      named = token_request id method params (codes "token") body says ∙ new.names

      asked_now : (creates s asked).asked ≡ (creates s before).asked ++ record { id = id; tokens = tokens_at (codes "token") params } ∷ []
      asked_now = ap (λ (x : Creates). x.asked) (creates_more s before (heard (FromServer s body)) ∙ ap₂ (λ b m. cond b (creates_told (creates s before) m) (creates s before)) (same_number s) says
          ∙ ap (λ b. if b then record { asked = (creates s before).asked ++ record { id = id; tokens = tokens_at (codes "token") params } ∷ []; created = (creates s before).created } else creates s before) (create_is method creating))

  pub open_later : is_open t.id (creates s (behind asked (outs_of settings before (FromServer s body)))).created ≡ true
  open_later = subst (λ z. is_open t.id (creates s z).created ≡ true) (sym (ap (behind asked) sends ∙ behind_both asked (ToServer s answer ∷ []) (outs (each (λ e. offer s e t) (running_in settings housed.group before)) there)))
      (created_behind s there (outs (each (λ e. offer s e t) (running_in settings housed.group before)) there) t.id open_there)

-- What lives behind a message of a ready start is open behind the entry

module _ (settings : Settings) (range : InRange settings) (before : List Event) (facts : Facts settings before) (h : Tie settings before) (s : ℕ) (ready : (life_of s before).stage ≡ Ready) where
  abbrev x : Created
  x = created_of settings s before

  abbrev X : Creates
  X = creates s before

  abbrev Open : Creates → List Token → Type 0
  Open y ts = AllByRecursion (λ (t : Token). is_open t.id y.created ≡ true) ts

  old : Open X x.tokens
  old = h.there s ready

  begun_open : (y : Creates) (k : ℕ) (body : List ℕ) (params : Option Json) (t : Token) → is_open t.id y.created ≡ true → is_open (begun_by k body params t).id y.created ≡ true
  begun_open y k body params t o = go (is_numbered k t)
    where
      go : (b : Bool) → is_open (if b then record t { begin = first_begin body params t.begin } else t).id y.created ≡ true
      go true = o
      go false = o

  all_begun : (y : Creates) (k : ℕ) (body : List ℕ) (params : Option Json) (ts : List Token) → Open y ts → Open y (map (begun_by k body params) ts)
  all_begun y k body params [] o = tt
  all_begun y k body params (t ∷ ts) o = (begun_open y k body params t o.0, all_begun y k body params ts o.1)

  -- progress that ends nothing
  progressed_open : (y : Creates) (body : List ℕ) (params : Option Json) (o : Option Token) → Open y x.tokens → Open y (progressed body params o x).tokens
  progressed_open y body params None k = k
  progressed_open y body params (Some t) k = all_filtered (λ (u : Token). is_open u.id y.created ≡ true) (λ (u : Token). is_open u.id y.created ≡ true) (λ u. not (is_ended_by t.number params u)) (λ u on z. z) (map (begun_by t.number body params) x.tokens) (all_begun y t.number body params x.tokens k)

  -- progress that ends one
  left_of : (body : List ℕ) (params : Option Json) (id : Id) (n : ℕ) → is_end params ≡ true → (ts : List Token) → Open X ts → AllByRecursion (λ (u : Token). nat_eq u.number n ≡ false → same_id id u.id ≡ false) ts
      → AllByRecursion (λ (u : Token). is_open u.id (without (Some id) X.created) ≡ true) (filter (λ u. not (is_ended_by n params u)) (map (begun_by n body params) ts))
  left_of body params id n end [] o k = tt
  left_of body params id n end (u ∷ ts) o k = go (is_ended_by n params (begun_by n body params u)) refl (left_of body params id n end ts o.1 k.1)
    where
      number_same_as : (b : Bool) → nat_eq (if b then record u { begin = first_begin body params u.begin } else u).number n ≡ nat_eq u.number n
      number_same_as true = refl
      number_same_as false = refl

      id_kept : (b : Bool) → is_open u.id (without (Some id) X.created) ≡ true → is_open (if b then record u { begin = first_begin body params u.begin } else u).id (without (Some id) X.created) ≡ true
      id_kept true z = z
      id_kept false z = z

      rest : List Token
      rest = filter (λ v. not (is_ended_by n params v)) (map (begun_by n body params) ts)

      go : (b : Bool) → is_ended_by n params (begun_by n body params u) ≡ b → AllByRecursion (λ (v : Token). is_open v.id (without (Some id) X.created) ≡ true) rest
          → AllByRecursion (λ (v : Token). is_open v.id (without (Some id) X.created) ≡ true) (cond (not b) (begun_by n body params u ∷ rest) rest)
      go true e r = r
      go false e r = (id_kept (is_numbered n u) (still_open id u.id X.created o.0 (k.0 (sym (number_same_as (is_numbered n u)) ∙ sym (ap (λ b. b && nat_eq (begun_by n body params u).number n) end) ∙ e))), r)

  ended_open : (body : List ℕ) (params : Option Json) → is_end params ≡ true → (named : Option Id) → named_token params ≡ named → (o : Option Token) → token_called named x ≡ o
      → AllByRecursion (λ (u : Token). is_open u.id (without named X.created) ≡ true) (progressed body params o x).tokens
  ended_open body params end None is None at = old
  ended_open body params end None is (Some t) at = absurd (cc)
  ended_open body params end (Some id) is None at = both x.tokens old (none_called id x.tokens (ap (λ (o : Option Token). is_some o) at))
    where
      both : (ts : List Token) → Open X ts → AllByRecursion (λ (u : Token). same_id id u.id ≡ false) ts → AllByRecursion (λ (u : Token). is_open u.id (without (Some id) X.created) ≡ true) ts
      both [] o k = tt
      both (u ∷ ts) o k = (still_open id u.id X.created o.0 k.0, both ts o.1 k.1)
  ended_open body params end (Some id) is (Some t) at = left_of body params id t.number end x.tokens old (apart_found id x.tokens t (created_orderly settings s before).apart at)

  -- by its message
  module _ (body : List ℕ) (fits : fits_behind before (FromServer s body) ≡ true) where
    abbrev heard_now : List Event
    heard_now = with_cause before (FromServer s body)

    abbrev after : List Event
    after = behind heard_now (outs_of settings before (FromServer s body))

    part_is : (m : Message) → message_of body ≡ m → creates s heard_now ≡ creates_told X m
    part_is m says = creates_more s before (heard (FromServer s body)) ∙ ap₂ (λ b z. cond b (creates_told X z) X) (same_number s) says

    later_open : (ts : List Token) → Open (creates s heard_now) ts → Open (creates s after) ts
    later_open ts o = from_now settings range before facts h (FromServer s body) fits s ts o

    same_open : (m : Message) → message_of body ≡ m → (creates_told X m).created ≡ X.created → (ts : List Token) → Open X ts → Open (creates s after) ts
    same_open m says same ts o = later_open ts (subst (λ cs. AllByRecursion (λ (t : Token). is_open t.id cs ≡ true) ts) (sym (ap (λ (y : Creates). y.created) (part_is m says) ∙ same)) o)

    asking : (id : Id) (method : List ℕ) (params : Option Json) → message_of body ≡ request id method params → (a : Bool) → is_creating method ≡ a → (b : Bool) → is_taken (Some id) (asking_of settings s before) ≡ b → (o : Option Token) → created_token body x ≡ o
        → Open (creates s after) (if true && (a && (true && not b)) then with_token o x else x).tokens
    asking id method params says true creating false fresh (Some t) found = all_join (λ (u : Token). is_open u.id (creates s after).created ≡ true) x.tokens (t ∷ []) (same_open (request id method params) says (told_request X id method params) x.tokens old)
        (open_later settings range before facts s body ready id method params says creating fresh t found, tt)
    asking id method params says true creating false fresh None found = same_open (request id method params) says (told_request X id method params) x.tokens old
    asking id method params says true creating true taken o found = same_open (request id method params) says (told_request X id method params) x.tokens old
    asking id method params says false creating b taken o found = same_open (request id method params) says (told_request X id method params) x.tokens old

    unended : (method : List ℕ) (params : Option Json) → message_of body ≡ notification method params → (creates_told X (notification method params)).created ≡ X.created → (c : Bool)
        → Open (creates s after) (if true && (c && true) then progressed body params (token_called (named_token params) x) x else x).tokens
    unended method params says same true = same_open (notification method params) says same (progressed body params (token_called (named_token params) x) x).tokens (progressed_open X body params (token_called (named_token params) x) old)
    unended method params says same false = same_open (notification method params) says same x.tokens old

    telling : (method : List ℕ) (params : Option Json) → message_of body ≡ notification method params → (a : Bool) → bytes_eq method (codes "$/progress") ≡ a → (b : Bool) → is_end params ≡ b → (c : Bool) → is_progress method ≡ c
        → Open (creates s after) (if true && (c && true) then progressed body params (token_called (named_token params) x) x else x).tokens
    telling method params says true name true end true class = later_open (progressed body params (token_called (named_token params) x) x).tokens
        (subst (λ cs. AllByRecursion (λ (t : Token). is_open t.id cs ≡ true) (progressed body params (token_called (named_token params) x) x).tokens)
        (sym (ap (λ (y : Creates). y.created) (part_is (notification method params) says ∙ ap₂ (λ p q. if p && q then record { asked = X.asked; created = without (token_at (codes "token") params) X.created } else X) name end)))
        (ended_open body params end (named_token params) refl (token_called (named_token params) x) refl))
    telling method params says true name true end false class = never (sym (progress_is method name) ∙ class)
    telling method params says true name false end c class = unended method params says (ap₂ (λ p q. (if p && q then record { asked = X.asked; created = without (token_at (codes "token") params) X.created } else X).created) name end) c
    telling method params says false name b end c class = unended method params says (ap (λ p. (if p && is_end params then record { asked = X.asked; created = without (token_at (codes "token") params) X.created } else X).created) name) c

    by_message : (m : Message) → message_of body ≡ m → Open (creates s after) (created_next settings s before x (took (FromServer s body) m)).tokens
    by_message (request id method params) says = subst (λ (y : Created). Open (creates s after) y.tokens)
        (sym (ap₂ (λ b c. if b && (is_creating method && (c && not (is_taken (Some id) (asking_of settings s before)))) then with_token (created_token body x) x else x) (same_number s) (ap is_ready ready)))
        (asking id method params says (is_creating method) refl (is_taken (Some id) (asking_of settings s before)) refl (created_token body x) refl)
    by_message (notification method params) says = subst (λ (y : Created). Open (creates s after) y.tokens)
        (sym (ap₂ (λ b c. if b && (is_progress method && c) then progressed body params (token_called (named_token params) x) x else x) (same_number s) (ap is_ready ready)))
        (telling method params says (bytes_eq method (codes "$/progress")) refl (is_end params) refl (is_progress method) refl)
    by_message (result id r) says = same_open (result id r) says refl x.tokens old
    by_message (error id r) says = same_open (error id r) says refl x.tokens old
    by_message not_json says = same_open not_json says refl x.tokens old
    by_message not_message says = same_open not_message says refl x.tokens old

    pub heard_open : Open (creates s after) (created_next settings s before x (heard (FromServer s body))).tokens
    heard_open = by_message (message_of body) refl

-- All of it

module _ (settings : Settings) (range : InRange settings) (before : List Event) (facts : Facts settings before) (h : Tie settings before) where
  there_here : (cause : Cause) → fits_behind before cause ≡ true → (s : ℕ) → (life_of s (behind (with_cause before cause) (outs_of settings before cause))).stage ≡ Ready
      → AllOpen s (behind (with_cause before cause) (outs_of settings before cause)) (created_of settings s (behind (with_cause before cause) (outs_of settings before cause))).tokens
  there_here cause fits s ready = go (was settings range before facts h cause fits s (ready_outs s (with_cause before cause) (outs_of settings before cause) (ap is_ready ready)))
    where
      after : Cause → List Event
      after c = behind (with_cause before c) (outs_of settings before c)

      x : Created
      x = created_of settings s before

      still : (c : Cause) → fits_behind before c ≡ true → is_from_server (heard c) ≡ false → (life_of s before).stage ≡ Ready → AllOpen s (behind (with_cause before c) (outs_of settings before c)) x.tokens
      still c f off rd = from_now settings range before facts h c f s x.tokens
          (all_of (λ (t : Token). is_open t.id (creates s before).created ≡ true) (λ (t : Token). is_open t.id (creates s (with_cause before c)).created ≡ true) (λ t o. creates_grows s before (heard c) off t.id o) x.tokens (h.there s rd))

      ended : (c : Cause) (b : Bool) → AllOpen s (behind (with_cause before c) (outs_of settings before c)) x.tokens → AllOpen s (behind (with_cause before c) (outs_of settings before c)) (if b then no_created else x).tokens
      ended c true k = tt
      ended c false k = k

      by_cause : (c : Cause) → fits_behind before c ≡ true → (life_of s before).stage ≡ Ready → AllOpen s (behind (with_cause before c) (outs_of settings before c)) (created_next settings s before x (heard c)).tokens
      by_cause (FromServer n body) f rd = by_start (nat_eq n s) refl
        where
          by_start : (z : Bool) → nat_eq n s ≡ z → AllOpen s (behind (with_cause before (FromServer n body)) (outs_of settings before (FromServer n body))) (created_next settings s before x (heard (FromServer n body))).tokens
          by_start true same = subst (λ k. AllOpen s (behind (with_cause before (FromServer k body)) (outs_of settings before (FromServer k body))) (created_next settings s before x (heard (FromServer k body))).tokens) (sym (number_same n s same))
              (heard_open settings range before facts h s rd body (subst (λ k. fits_behind before (FromServer k body) ≡ true) (number_same n s same) f))
          by_start false other = subst (AllOpen s (behind (with_cause before (FromServer n body)) (outs_of settings before (FromServer n body)))) (sym (other_tokens settings s before x n body (message_of body) other))
              (from_now settings range before facts h (FromServer n body) f s x.tokens (subst (λ (y : Creates). AllByRecursion (λ (t : Token). is_open t.id y.created ≡ true) x.tokens)
              (sym (creates_more s before (heard (FromServer n body)) ∙ ap (λ z. cond z (creates_told (creates s before) (message_of body)) (creates s before)) other)) (h.there s rd)))
      by_cause (FromEditor e body) f rd = subst (AllOpen s (behind (with_cause before (FromEditor e body)) (outs_of settings before (FromEditor e body)))) (sym (spoken_tokens settings s before x e body (message_of body))) (still (FromEditor e body) f refl rd)
      by_cause (StartFailed n) f rd = ended (StartFailed n) (nat_eq n s) (still (StartFailed n) f refl rd)
      by_cause (ServerGone n) f rd = ended (ServerGone n) (nat_eq n s) (still (ServerGone n) f refl rd)
      by_cause (EditorGone e why) f rd = still (EditorGone e why) f refl rd
      by_cause (Joined e) f rd = still (Joined e) f refl rd
      by_cause (Started n) f rd = still (Started n) f refl rd
      by_cause (Drained e k) f rd = still (Drained e k) f refl rd
      by_cause (Tick t) f rd = still (Tick t) f refl rd

      go : (is_ready (life_of s before).stage ≡ true) ⊎ (is_unready (life_of s before).stage ≡ true) → AllOpen s (after cause) (created_of settings s (after cause)).tokens
      go (inl rd) = subst (AllOpen s (after cause)) (sym (tokens_here settings range before facts h cause fits s)) (by_cause cause fits (ready_is (life_of s before).stage rd))
      go (inr un) = subst (AllOpen s (after cause)) (sym (none_here settings range before facts h cause fits s un)) tt

  pub tie_rests : (cause : Cause) → fits_behind before cause ≡ true → Tie settings (behind (with_cause before cause) (outs_of settings before cause))
  tie_rests cause fits = record {
    unready = λ s un. unready_here settings range before facts h cause fits s un;
    there = λ s ready. there_here cause fits s ready;
  }

-- An editor that is slow leaves

pub tie_slow : (settings : Settings) (range : InRange settings) (place : List Event) → Facts settings place → (e : ℕ) → is_slow settings e place ≡ true → Tie settings place → Tie settings (behind place (parting settings place e))
tie_slow settings range place facts e slow h = record {
  unready = λ s un. outs_tokens settings s place (parting settings place e) ∙ h.unready s (back s (is_unready (life_of s place).stage) refl un);
  there = λ s ready. subst (AllOpen s (behind place (parting settings place e))) (sym (outs_tokens settings s place (parting settings place e)))
      (all_of (λ (t : Token). is_open t.id (creates s place).created ≡ true) (λ (t : Token). is_open t.id (creates s (behind place (parting settings place e))).created ≡ true) (λ t o. created_behind s place (parting settings place e) t.id o)
      (created_of settings s place).tokens (h.there s (ready_is (life_of s place).stage (ready_outs s place (parting settings place e) (ap is_ready ready)))));
}
  where
    back : (s : ℕ) (b : Bool) → is_unready (life_of s place).stage ≡ b → is_unready (life_of s (behind place (parting settings place e))).stage ≡ true → b ≡ true
    back s true _ un = refl
    back s false begun un = never (sym un ∙ onward_slow settings range place facts e slow s begun)

pub no_tie : (settings : Settings) → Tie settings []
no_tie settings = record { unready = λ s un. refl; there = λ s ready. absurd (cc) }
