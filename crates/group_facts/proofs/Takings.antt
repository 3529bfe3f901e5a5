-- Behind every entry each editor that was asked to take a token runs, in the group whose last start asked it, and that start is ready; and a start that wasn't spawned created none.
use Rattle.std.proofs.Common.{◌≡◌, ℕ, ◌^◌, ◌<◌, ◌≤◌, Bool, true, false, not, ◌&&◌, ◌||◌, cond, List, [], ◌∷◌, ◌++◌, codes, decimal, filter, find, flat_map, map, nat_eq, if◌then◌else◌, Option, Some, None, refl, sym, ◌∙◌, ap, subst, ltb-true, append-nil, append_assoc, arith}
use Rattle.std.specs.List.{AllByRecursion}
use Rattle.json_text.specs.Json.{Json}
use Rattle.lsp_method.specs.Class.{server_request}
use Rattle.mux_history.specs.declared.cause.Cause.{Cause}
use Rattle.mux_history.specs.declared.cause.Cause.TheVariants.{Joined, FromEditor, EditorGone, Started, StartFailed, FromServer, ServerGone, Drained, Tick}
use Rattle.mux_history.specs.declared.out.Out.{Out}
use Rattle.mux_history.specs.declared.out.Out.TheVariants.{ToEditor, ToServer, Spawn, CloseEditor, EndServer}
use Rattle.rpc_message.specs.Message.{Message, integer, request, notification, message_of}
use Rattle.event_model.specs.declared.phase.Phase.TheVariants.{Running}
use Rattle.event_model.specs.declared.stage.Stage.TheVariants.{Ready, Unspawned}
use Rattle.event_model.specs.Event.{Event, behind, did, heard, requests, said, took, with_cause}
use Rattle.event_model.specs.Members.{named_of}
use Rattle.event_model.specs.Phases.{Desk, desk_of, is_new}
use Rattle.event_model.specs.Requests.{answered_id}
use Rattle.event_model.specs.Settings.{Settings}
use Rattle.event_model.specs.Spawns.{group_of, start_of, starts_behind, starts_of}
use Rattle.event_model.specs.Stages.{Life, is_ended, is_ready, life_of, no_life}
use Rattle.event_model.proofs.Frames.{never}
use Rattle.mux_model.specs.Fits.{fits_behind}
use Rattle.mux_facts.specs.Ranges.{InRange}
use Rattle.mux_facts.proofs.Folds.{desk_more, starts_more}
use Rattle.mux_facts.proofs.Lists.{all_filtered, all_join, all_of}
use Rattle.mux_facts.proofs.Reasons.{reasons_keep}
use Rattle.mux_facts.proofs.Starts.{Starts}
use Rattle.mux_facts.proofs.Words.{number_same, same_number}
use Rattle.group_words.specs.Houses.{home_of}
use Rattle.group_words.proofs.Frames.{home_stays, past_more}
use Rattle.group_rows.specs.registrations.specs.Items.{again}
use Rattle.group_rows.specs.Asks.{asking_of, is_patient, is_taken, next_ask}
use Rattle.group_rows.specs.Created.{Created, Taking, Token, accepts, answered, asked, created_mark, created_next, created_of, created_token, is_answered, is_at, is_begin, is_creating, is_marked, is_over, is_progress, left, lives, may_hold, named_token, no_created, progressed, settled, told, token_called, token_marked, with_asked, with_token}
use Rattle.group_rows.specs.Live.{is_heard, is_registering, live_of}
use Rattle.group_rows.specs.CreatedRows.{create_text}
use Rattle.group_rows.specs.Rows.{outs_of}
use Rattle.group_rows.proofs.CreatedTexts.{create_says, create_tree}
use Rattle.group_rows.proofs.LiveTexts.{again_written, live_written, register_says, registered_written, unregister_says}
use Rattle.group_facts.specs.Facts.{is_exit, is_unready, shuts}
use Rattle.group_facts.specs.Lively.{Lively}
use Rattle.group_facts.specs.Settled as settled_facts
use Rattle.group_facts.specs.Settled.{HasTaken, RunsAt}
use Rattle.group_facts.specs.Why.{Calling, IsCall, Why, WhyToEditor, answers, asks, calls, creates, displaces, enrols, forgets, passes, progresses, recalls, refuses, rejects, releases, restores, resumes, revives, shows, spreads, turns_away, welcomes, loses, winds_up, pays}
use Rattle.group_facts.proofs.AskEntries.{close_runs, onward_rests, took_runs, up_ready}
use Rattle.group_facts.proofs.AskingRows.{still_runs}
use Rattle.group_facts.proofs.Asks.{call_hurried, is_question, response_asks_none, unless_not}
use Rattle.group_facts.proofs.Begun.{Begun}
use Rattle.group_facts.proofs.Facts.{Facts}
use Rattle.group_facts.proofs.Homes.{heard_home, took_home}
use Rattle.group_facts.proofs.Lively.{up_of}
use Rattle.group_facts.proofs.Marks.{mark_start, marked_same}
use Rattle.group_facts.proofs.LastStarts.{AllLast, start_kept}
use Rattle.group_facts.proofs.PutOut.{homes_stay}
use Rattle.group_facts.proofs.Table.{reasons}
use Rattle.group_rows.proofs.DebtsKept.{refresh_uncreating}

pub created_more : (settings : Settings) (s : ℕ) (events : List Event) (event : Event) → created_of settings s (events ++ event ∷ []) ≡ created_next settings s events (created_of settings s events) event
created_more settings s events event = past_more (created_next settings s) [] no_created events event

-- A start that wasn't spawned created nothing

abbrev pub Uncreated : Settings → List Event → Type 0
Uncreated settings events = (s : ℕ) → starts_of events ≤ s → created_of settings s events ≡ no_created

spawns_more : (n : ℕ) (event : Event) → n ≤ starts_behind n event
spawns_more n (did (Spawn s g) m) = omega arith
spawns_more n other = omega arith

pub fewer_starts : (events : List Event) (event : Event) (n : ℕ) → starts_of (events ++ event ∷ []) ≤ n → starts_of events ≤ n
fewer_starts events event n h = let m = starts_more events event in let g = spawns_more (starts_of events) event in omega (arith, m, g, h)

none_left : (b : Bool) → (if b then no_created else no_created) ≡ no_created
none_left true = refl
none_left false = refl

none_both : (a b c : Bool) (x : Created) → c ≡ false → (if a && (b && c) then x else no_created) ≡ no_created
none_both true true c x off = ap (λ d. if d then x else no_created) off
none_both true false c x off = refl
none_both false b c x off = refl

none_took : (settings : Settings) (s : ℕ) (before : List Event) → is_ready (life_of s before).stage ≡ false → (cause : Cause) → created_next settings s before no_created (heard cause) ≡ no_created
none_took settings s before off (FromServer n body) = go (message_of body)
  where
    go : (m : Message) → created_next settings s before no_created (took (FromServer n body) m) ≡ no_created
    go (request id method params) = none_both (nat_eq n s) (is_creating method) (is_heard settings s before id) (with_token (created_token body no_created) no_created) (ap (λ b. b && not (is_taken (Some id) (asking_of settings s before))) off)
    go (notification method params) = none_both (nat_eq n s) (is_progress method) (is_ready (life_of s before).stage) (progressed body params (token_called (named_token params) no_created) no_created) off
    go other = refl
none_took settings s before off (FromEditor e body) = none_left (requests (codes "shutdown") (message_of body))
none_took settings s before off (EditorGone e why) = refl
none_took settings s before off (StartFailed n) = none_left (nat_eq n s)
none_took settings s before off (ServerGone n) = none_left (nat_eq n s)
none_took settings s before off (Joined e) = refl
none_took settings s before off (Started n) = refl
none_took settings s before off (Drained e k) = refl
none_took settings s before off (Tick t) = refl

none_did : (settings : Settings) (s : ℕ) (events : List Event) (out : Out) → created_next settings s events no_created (said out) ≡ no_created
none_did settings s events (ToEditor e body) = go (message_of body)
  where
    go : (m : Message) → created_next settings s events no_created (did (ToEditor e body) m) ≡ no_created
    go (request id method params) = none_left (is_creating method)
    go other = refl
none_did settings s events (ToServer n body) = refl
none_did settings s events (Spawn n g) = refl
none_did settings s events (CloseEditor e) = refl
none_did settings s events (EndServer n) = refl

pub none_outs : (settings : Settings) (s : ℕ) (events : List Event) (xs : List Out) → created_of settings s events ≡ no_created → created_of settings s (behind events xs) ≡ no_created
none_outs settings s events [] h = ap (created_of settings s) (append-nil events) ∙ h
none_outs settings s events (x ∷ xs) h = ap (created_of settings s) (sym (append_assoc events (said x ∷ []) (map said xs)))
    ∙ none_outs settings s (events ++ said x ∷ []) xs (created_more settings s events (said x) ∙ (ap (λ y. created_next settings s events y (said x)) h ∙ none_did settings s events x))

-- nor does it behind a cause
pub uncreated_heard : (settings : Settings) (before : List Event) → Starts before → (cause : Cause) → Uncreated settings before → (s : ℕ) → starts_of before ≤ s → created_of settings s (with_cause before cause) ≡ no_created
uncreated_heard settings before starts cause h s few =
    created_more settings s before (heard cause) ∙ ap (λ x. created_next settings s before x (heard cause)) (h s few) ∙ none_took settings s before (ap (λ (l : Life). is_ready l.stage) (starts s few)) cause

uncreated_took : (settings : Settings) (before : List Event) → Starts before → (cause : Cause) → Uncreated settings before → Uncreated settings (with_cause before cause)
uncreated_took settings before starts cause h s le = uncreated_heard settings before starts cause h s (fewer_starts before (heard cause) s le)

pub uncreated_did : (settings : Settings) (events : List Event) (out : Out) → Uncreated settings events → Uncreated settings (events ++ said out ∷ [])
uncreated_did settings events out h s le = created_more settings s events (said out) ∙ ap (λ x. created_next settings s events x (said out)) (h s (fewer_starts events (said out) s le)) ∙ none_did settings s events out

-- so one that has a live token was spawned
token_start : (settings : Settings) (events : List Event) → Uncreated settings events → (s : ℕ) (test : Token → Bool) (t : Token) → find test (created_of settings s events).tokens ≡ Some t → s < starts_of events
token_start settings events none s test t found = within (λ le. absent (ap (λ (x : Created). find test x.tokens) (none s le)))
  where
    absent : find test (created_of settings s events).tokens ≡ None → ⊥
    absent h = let clash : ◌≡◌ {A = Option Token} None (Some t) = sym h ∙ found in cc

    within : (starts_of events ≤ s → ⊥) → s < starts_of events
    within f = omega (arith, f)

found_test : (test : Token → Bool) (t : Token) (ts : List Token) → find test ts ≡ Some t → test t ≡ true
found_test test t [] h = absurd (cc)
found_test test t (u ∷ ts) h = go (test u) refl (λ k. found_test test t ts k) h
  where
    go : (b : Bool) → test u ≡ b → (find test ts ≡ Some t → test t ≡ true) → cond b (Some u) (find test ts) ≡ Some t → test t ≡ true
    go true is rest k = subst (λ v. test v ≡ true) (let same : u ≡ t = cc in same) is
    go false off rest k = rest k

-- What holds of the editors of takings, behind one event more

abbrev pub AllAt : (ℕ → Type 0) → Created → Type 0
AllAt P x = AllByRecursion (λ (c : Taking). P c.editor) x.takings

told_editor : (k : ℕ) (body : List ℕ) (params : Option Json) (c : Taking) → (told k body params c).editor ≡ c.editor
told_editor k body params c = go (nat_eq c.token k) c.accepted (may_hold params c.held)
  where
    go : (a b d : Bool) → (if a then (if b then record c { begun = c.begun || is_begin params } else (if d then record c { held = c.held ++ body ∷ []; begun = c.begun || is_begin params } else c)) else c).editor ≡ c.editor
    go true true d = refl
    go true false true = refl
    go true false false = refl
    go false b d = refl

pub other_way : (m n : ℕ) → nat_eq m n ≡ false → nat_eq n m ≡ false
other_way m n h = go (nat_eq n m) refl
  where
    go : (b : Bool) → nat_eq n m ≡ b → b ≡ false
    go true same = never (sym (same_number m) ∙ sym (ap (nat_eq m) (number_same n m same)) ∙ h)
    go false other = refl

and_none : (a : Bool) → (a && false) ≡ false
and_none true = refl
and_none false = refl

module _ (P Q : ℕ → Type 0) where
  pub left_all : (n : ℕ) (x : Created) → ((e : ℕ) → nat_eq e n ≡ false → P e → Q e) → AllAt P x → AllAt Q (left n x)
  left_all n x f h = all_filtered (λ (c : Taking). P c.editor) (λ (c : Taking). Q c.editor) (λ c. not (is_at n c)) (λ c away k. f c.editor (unless_not (is_at n c) away) k) x.takings h

  all_so : (x : Created) → ((e : ℕ) → P e → Q e) → AllAt P x → AllAt Q x
  all_so x f h = all_of (λ (c : Taking). P c.editor) (λ (c : Taking). Q c.editor) (λ c k. f c.editor k) x.takings h

module _ (Q : ℕ → Type 0) where
  told_all : (k : ℕ) (body : List ℕ) (params : Option Json) (cs : List Taking) → AllByRecursion (λ (c : Taking). Q c.editor) cs → AllByRecursion (λ (c : Taking). Q c.editor) (map (told k body params) cs)
  told_all k body params [] h = tt
  told_all k body params (c ∷ cs) h = (subst Q (sym (told_editor k body params c)) h.0, told_all k body params cs h.1)

  progressed_all : (body : List ℕ) (params : Option Json) (o : Option Token) (x : Created) → AllAt Q x → AllAt Q (progressed body params o x)
  progressed_all body params None x h = h
  progressed_all body params (Some t) x h = told_all t.number body params (filter (λ c. not (is_over t.number params c)) x.takings)
      (all_filtered (λ (c : Taking). Q c.editor) (λ (c : Taking). Q c.editor) (λ c. not (is_over t.number params c)) (λ c away k. k) x.takings h)

  answered_all : (e : ℕ) (m : Message) (x : Created) → AllAt Q x → AllAt Q (answered e m x)
  answered_all e m x h = spread x.takings h
    where
      one : (c : Taking) → Q c.editor → (a b : Bool) → AllByRecursion (λ (d : Taking). Q d.editor) (if a then (if b then record c { accepted = true; held = [] } ∷ [] else []) else c ∷ [])
      one c k true true = (k, tt)
      one c k true false = tt
      one c k false b = (k, tt)

      spread : (cs : List Taking) → AllByRecursion (λ (c : Taking). Q c.editor) cs → AllByRecursion (λ (c : Taking). Q c.editor) (flat_map (λ c. if is_answered e (answered_id m) c then settled m x c else c ∷ []) cs)
      spread [] k = tt
      spread (c ∷ cs) k = all_join (λ (d : Taking). Q d.editor) (if is_answered e (answered_id m) c then settled m x c else c ∷ []) (flat_map (λ d. if is_answered e (answered_id m) d then settled m x d else d ∷ []) cs)
          (one c k.0 (is_answered e (answered_id m) c) (accepts m && lives c.token x)) (spread cs k.1)

  either_all : (b : Bool) (x y : Created) → AllAt Q x → AllAt Q y → AllAt Q (if b then x else y)
  either_all true x y h k = h
  either_all false x y h k = k

-- a cause
took_takings : (P Q : ℕ → Type 0) (settings : Settings) (s : ℕ) (events : List Event) (x : Created) (cause : Cause) → ((e : ℕ) → shuts cause e ≡ false → P e → Q e) → AllAt P x → AllAt Q (created_next settings s events x (heard cause))
took_takings P Q settings s events x (FromEditor n body) f h = go (requests (codes "shutdown") (message_of body)) refl
  where
    go : (b : Bool) → requests (codes "shutdown") (message_of body) ≡ b → AllAt Q (if b then left n x else answered n (message_of body) x)
    go true shut = left_all P Q n x (λ e other k. f e (ap (λ b. b && requests (codes "shutdown") (message_of body)) (other_way e n other)) k) h
    go false stays = answered_all Q n (message_of body) x (all_so P Q x (λ e k. f e (ap (λ b. nat_eq n e && b) stays ∙ and_none (nat_eq n e)) k) h)
took_takings P Q settings s events x (EditorGone n why) f h = left_all P Q n x (λ e other k. f e (other_way e n other) k) h
took_takings P Q settings s events x (FromServer n body) f h = go (message_of body)
  where
    same : AllAt Q x
    same = all_so P Q x (λ e k. f e refl k) h

    created : (o : Option Token) → AllAt Q (with_token o x)
    created None = same
    created (Some t) = same

    go : (m : Message) → AllAt Q (created_next settings s events x (took (FromServer n body) m))
    go (request id method params) = either_all Q (nat_eq n s && (is_creating method && is_heard settings s events id)) (with_token (created_token body x) x) x (created (created_token body x)) same
    go (notification method params) = either_all Q (nat_eq n s && (is_progress method && is_ready (life_of s events).stage)) (progressed body params (token_called (named_token params) x) x) x
        (progressed_all Q body params (token_called (named_token params) x) x same) same
    go other = same
took_takings P Q settings s events x (StartFailed n) f h = either_all Q (nat_eq n s) no_created x tt (all_so P Q x (λ e k. f e refl k) h)
took_takings P Q settings s events x (ServerGone n) f h = either_all Q (nat_eq n s) no_created x tt (all_so P Q x (λ e k. f e refl k) h)
took_takings P Q settings s events x (Joined n) f h = all_so P Q x (λ e k. f e refl k) h
took_takings P Q settings s events x (Started n) f h = all_so P Q x (λ e k. f e refl k) h
took_takings P Q settings s events x (Drained n k) f h = all_so P Q x (λ e q. f e refl q) h
took_takings P Q settings s events x (Tick t) f h = all_so P Q x (λ e k. f e refl k) h

-- a body to an editor that is no create
abbrev makes : Message → Bool
makes (request id method params) = is_creating method
makes other = false

unquestioned : (m : Message) → is_question m ≡ false → makes m ≡ false
unquestioned (request id method params) h = never h
unquestioned other h = refl

unmade : (settings : Settings) (s : ℕ) (events : List Event) (x : Created) (e : ℕ) (body : List ℕ) (m : Message) → makes m ≡ false → created_next settings s events x (did (ToEditor e body) m) ≡ x
unmade settings s events x e body (request id method params) h = ap (λ b. if b then with_asked e (next_ask e events) (token_marked s params x) x else x) h
unmade settings s events x e body other h = refl

-- In an entry

patient_plain : (method : List ℕ) → is_patient method ≡ true → is_creating method ≡ false
patient_plain method h = go (is_creating method) refl
  where
    or_last : (a b : Bool) → b ≡ true → (a || b) ≡ true
    or_last true b k = refl
    or_last false b k = k

    go : (b : Bool) → is_creating method ≡ b → b ≡ false
    go true is = never (sym h ∙ call_hurried method (or_last (is_registering method) (is_creating method) is))
    go false is = refl

create_made : is_creating (codes "window/workDoneProgress/create") ≡ true
unfolding server_request
create_made = refl

register_plain : is_creating (codes "client/registerCapability") ≡ false
unfolding server_request
register_plain = refl

unregister_plain : is_creating (codes "client/unregisterCapability") ≡ false
unfolding server_request
unregister_plain = refl

module _ (settings : Settings) (before : List Event) (cause : Cause) where
  abbrev now : List Event
  now = with_cause before cause

  -- the editor runs at this place, in the group whose last start s is, which is ready
  record Taker (events : List Event) (s e : ℕ) : Type 0 where
    running : (desk_of e events).phase ≡ Running
    group : ℕ
    home : home_of settings e now ≡ Some group
    last : start_of group before ≡ Some s
    ready : (life_of s before).stage ≡ Ready

  moved : (events later : List Event) (s e : ℕ) → (desk_of e later).phase ≡ Running → Taker events s e → Taker later s e
  moved events later s e at k = record { running = at; group = k.group; home = k.home; last = k.last; ready = k.ready }

  abbrev Takers : List Event → Type 0
  Takers events = starts_of events ≤ 2 ^ 64 → (s : ℕ) → AllAt (Taker events s) (created_of settings s events)

  taker_now : (facts : Facts settings before) → fits_behind before cause ≡ true → (s e : ℕ) → shuts cause e ≡ false → RunsAt settings before s e → Taker now s e
  taker_now facts fits s e stays k = record {
    running = took_runs settings before e k.running cause fits (facts.steady).editors stays;
    group = k.group;
    home = took_home settings before e (ap is_new k.running) cause stays ∙ (k.home ∙ k.kept);
    last = k.last;
    ready = k.ready;
  }

  takers_took : Facts settings before → fits_behind before cause ≡ true → (starts_of before ≤ 2 ^ 64 → (s : ℕ) → AllByRecursion (HasTaken settings before s) (created_of settings s before).takings) → Takers now
  takers_took facts fits h few s = subst (AllAt (Taker now s)) (sym (created_more settings s before (heard cause)))
      (took_takings (RunsAt settings before s) (Taker now s) settings s before (created_of settings s before) cause (λ e stays k. taker_now facts fits s e stays k) (h (fewer_starts before (heard cause) (2 ^ 64) few) s))

  -- outs
  module _ (lasts : AllLast before) (starts : Starts before) (events : List Event) (none : Uncreated settings events) (h : Takers events) where
    still : (out : Out) → ((e : ℕ) → (desk_of e events).phase ≡ Running → (desk_of e (events ++ said out ∷ [])).phase ≡ Running) → starts_of (events ++ said out ∷ []) ≤ 2 ^ 64 → (s : ℕ) → AllAt (Taker (events ++ said out ∷ []) s) (created_of settings s events)
    still out runs few s = all_so (Taker events s) (Taker (events ++ said out ∷ []) s) (created_of settings s events) (λ e k. moved events (events ++ said out ∷ []) s e (runs e k.running) k) (h (fewer_starts events (said out) (2 ^ 64) few) s)

    same_takers : (out : Out) → ((e : ℕ) → (desk_of e events).phase ≡ Running → (desk_of e (events ++ said out ∷ [])).phase ≡ Running) → ((s : ℕ) → created_next settings s events (created_of settings s events) (said out) ≡ created_of settings s events) → Takers (events ++ said out ∷ [])
    same_takers out runs same few s = subst (AllAt (Taker (events ++ said out ∷ []) s)) (sym (created_more settings s events (said out) ∙ same s)) (still out runs few s)

    closed_takers : (n : ℕ) → Takers (events ++ said (CloseEditor n) ∷ [])
    closed_takers n few s = subst (AllAt (Taker (events ++ said (CloseEditor n) ∷ []) s)) (sym (created_more settings s events (said (CloseEditor n))))
        (left_all (Taker events s) (Taker (events ++ said (CloseEditor n) ∷ []) s) n (created_of settings s events) (λ e other k. moved events (events ++ said (CloseEditor n) ∷ []) s e (close_runs events n e (other_way e n other) k.running) k)
        (h (fewer_starts events (said (CloseEditor n)) (2 ^ 64) few) s))

    module _ (e : ℕ) (body : List ℕ) where
      abbrev later : List Event
      later = events ++ said (ToEditor e body) ∷ []

      plain_takers : makes (message_of body) ≡ false → Takers later
      plain_takers plain = same_takers (ToEditor e body) (λ n at. still_runs events e body n at) (λ s. unmade settings s events (created_of settings s events) e body (message_of body) plain)

      -- one that is asked to take a token of start t
      module _ (t k number : ℕ) (small : number < 2 ^ 64) (is : body ≡ create_text t k number) (ready : (life_of t before).stage ≡ Ready) (spawned : starts_of before ≤ starts_of events) (taker : Taker later t e) where
        low : starts_of later ≤ 2 ^ 64 → t < 2 ^ 64
        low few = within (λ le. unready (starts t le))
          where
            few_before : starts_of events ≤ 2 ^ 64
            few_before = fewer_starts events (said (ToEditor e body)) (2 ^ 64) few

            unready : life_of t before ≡ no_life → ⊥
            unready h = let clash : Unspawned ≡ Ready = sym (ap (λ (l : Life). l.stage) h) ∙ ready in cc

            within : (starts_of before ≤ t → ⊥) → t < 2 ^ 64
            within f = omega (arith, f, few_before, spawned)

        new_taker : starts_of later ≤ 2 ^ 64 → (s : ℕ) (o : Option Token) → token_marked s (Some (create_tree t k)) (created_of settings s events) ≡ o → AllAt (Taker later s) (with_asked e (next_ask e events) o (created_of settings s events))
        new_taker few s None found = still (ToEditor e body) (λ n at. still_runs events e body n at) few s
        new_taker few s (Some token) found = all_join (λ (c : Taking). Taker later s c.editor) (created_of settings s events).takings (asked e (next_ask e events) token ∷ []) (still (ToEditor e body) (λ n at. still_runs events e body n at) few s) (subst (λ n. Taker later n e) same taker, tt)
          where
            spawned_there : s < starts_of events
            spawned_there = token_start settings events none s (is_marked s (named_of (codes "token") (Some (create_tree t k)))) token found

            few_before : starts_of events ≤ 2 ^ 64
            few_before = fewer_starts events (said (ToEditor e body)) (2 ^ 64) few

            marked : created_mark s token.number ≡ created_mark t k
            marked = marked_same s t k token (found_test (is_marked s (named_of (codes "token") (Some (create_tree t k)))) token (created_of settings s events).tokens found)

            same : t ≡ s
            same = sym (mark_start s token.number t k (omega (arith, spawned_there, few_before)) (low few) marked)

        made_takers : Takers later
        made_takers few s = subst (AllAt (Taker later s)) (sym (created_more settings s events (said (ToEditor e body)) ∙ ap (λ m. created_next settings s events (created_of settings s events) (did (ToEditor e body) m)) says ∙ creating)) (new_taker few s (token_marked s (Some (create_tree t k)) (created_of settings s events)) refl)
          where
            says : message_of body ≡ request (integer (decimal number)) (codes "window/workDoneProgress/create") (Some (create_tree t k))
            says = ap message_of is ∙ create_says t k number (omega (arith, small))

            creating : (if is_creating (codes "window/workDoneProgress/create") then with_asked e (next_ask e events) (token_marked s (Some (create_tree t k)) (created_of settings s events)) (created_of settings s events) else created_of settings s events)
                ≡ with_asked e (next_ask e events) (token_marked s (Some (create_tree t k)) (created_of settings s events)) (created_of settings s events)
            creating = ap (λ b. if b then with_asked e (next_ask e events) (token_marked s (Some (create_tree t k)) (created_of settings s events)) (created_of settings s events) else created_of settings s events) create_made

      call_small : IsCall settings before cause events e body → next_ask e events < 2 ^ 128
      call_small k = let small : next_ask e events < 2 ^ 64 = ltb-true (next_ask e events) (2 ^ 64) k.room in omega (arith, small)

      called_takers : starts_of before ≤ starts_of events → (k : IsCall settings before cause events e body) → Calling settings before cause e k.start (next_ask e events) body → Takers later
      called_takers spawned k (displaces asked items c found is) = plain_takers (ap makes (ap message_of is ∙ (unregister_says (again items (live_of settings k.start before)) (again_written items (live_of settings k.start before) (live_written settings k.start before)) (next_ask e events) (call_small k)).1) ∙ unregister_plain)
      called_takers spawned k (enrols asked items c found is) = plain_takers (ap makes (ap message_of is ∙ (register_says items (registered_written asked items found) (next_ask e events) (call_small k)).1) ∙ register_plain)
      called_takers spawned k (releases asked items c found is) = plain_takers (ap makes (ap message_of is ∙ (unregister_says (again items (live_of settings k.start before)) (again_written items (live_of settings k.start before) (live_written settings k.start before)) (next_ask e events) (call_small k)).1) ∙ unregister_plain)
      called_takers spawned k (forgets r first is) = plain_takers (ap makes (ap message_of is ∙ (unregister_says (live_of settings k.start before) (live_written settings k.start before) (next_ask e events) (call_small k)).1) ∙ unregister_plain)
      called_takers spawned k (restores r is) = plain_takers (ap makes (ap message_of is ∙ (register_says (live_of settings k.start before) (live_written settings k.start before) (next_ask e events) (call_small k)).1) ∙ register_plain)
      called_takers spawned k (creates asked token c found is) = made_takers k.start token.number (next_ask e events) (ltb-true (next_ask e events) (2 ^ 64) k.room) is k.ready spawned (record {
        running = still_runs events e body e k.running;
        group = c.group;
        home = subst (λ z. home_of settings e (with_cause before z) ≡ Some c.group) (sym c.from) (home_stays settings e before (heard (FromServer k.start asked)) refl ∙ c.home);
        last = lasts k.start c.group c.kept (ap is_ended k.ready);
        ready = k.ready;
      })
      called_takers spawned k (revives token earlier rest r order is) = made_takers k.start token.number (next_ask e events) (ltb-true (next_ask e events) (2 ^ 64) k.room) is k.ready spawned (record {
        running = still_runs events e body e k.running;
        group = r.group;
        home = subst (λ z. home_of settings e (with_cause before z) ≡ Some r.group) (sym r.from) (heard_home settings before e (ap is_new r.waited) e r.text ∙ r.home);
        last = r.last;
        ready = k.ready;
      })

      told_takers : starts_of before ≤ starts_of events → WhyToEditor settings before cause events e body → Takers later
      told_takers spawned (calls k) = called_takers spawned k k.told
      told_takers spawned (asks k) = plain_takers (ap makes k.says ∙ k.plain)
      told_takers spawned (resumes k) = plain_takers (ap makes k.says ∙ patient_plain k.method k.patient)
      told_takers spawned (pays k) = plain_takers (ap makes k.says ∙ refresh_uncreating (k.debt).method k.wants)
      told_takers spawned (rejects k) = plain_takers (ap makes k.says)
      told_takers spawned (refuses k) = plain_takers (ap makes k.says)
      told_takers spawned (answers k) = plain_takers (ap makes k.says)
      told_takers spawned (turns_away k) = plain_takers (ap makes k.says)
      told_takers spawned (welcomes k) = plain_takers (ap makes k.says)
      told_takers spawned (passes k) = plain_takers (unquestioned (message_of body) (response_asks_none (message_of body) k.response))
      told_takers spawned (spreads k) = plain_takers (ap makes k.says)
      told_takers spawned (recalls k) = plain_takers (ap makes k.says)
      told_takers spawned (progresses k) = plain_takers (ap makes k.says)
      told_takers spawned (shows k) = plain_takers (ap makes k.says)
      told_takers spawned (loses k) = plain_takers (ap makes k.says)
      told_takers spawned (winds_up k) = plain_takers (ap makes k.says)

    did_takers : starts_of before ≤ starts_of events → (out : Out) → Why settings before cause events out → Takers (events ++ said out ∷ [])
    did_takers spawned (ToEditor e body) why = told_takers e body spawned why
    did_takers spawned (CloseEditor n) why = closed_takers n
    did_takers spawned (ToServer n body) why = same_takers (ToServer n body) (λ e at. ap (λ (d : Desk). d.phase) (desk_more e events (said (ToServer n body))) ∙ at) (λ s. refl)
    did_takers spawned (Spawn n g) why = same_takers (Spawn n g) (λ e at. ap (λ (d : Desk). d.phase) (desk_more e events (said (Spawn n g))) ∙ at) (λ s. refl)
    did_takers spawned (EndServer n) why = same_takers (EndServer n) (λ e at. ap (λ (d : Desk). d.phase) (desk_more e events (said (EndServer n))) ∙ at) (λ s. refl)

  -- at a place of the entry
  record Place (events : List Event) : Type 0 where
    spawned : starts_of before ≤ starts_of events
    none : Uncreated settings events
    takers : Takers events

  place_did : AllLast before → Starts before → (events : List Event) (out : Out) → Why settings before cause events out → Place events → Place (events ++ said out ∷ [])
  place_did lasts starts events out why h = record {
    spawned = let old : starts_of before ≤ starts_of events = h.spawned in let m = starts_more events (said out) in let g = spawns_more (starts_of events) (said out) in omega (arith, old, m, g);
    none = uncreated_did settings events out h.none;
    takers = did_takers lasts starts events h.none h.takers h.spawned out why;
  }

-- Behind it

abbrev pub AllTaken : Settings → List Event → Type 0
AllTaken settings events = starts_of events ≤ 2 ^ 64 → (s : ℕ) → AllByRecursion (HasTaken settings events s) (created_of settings s events).takings

module _ (settings : Settings) (range : InRange settings) (before : List Event) (facts : Facts settings before) (lasts : AllLast before) (begun : Begun settings before) (cause : Cause) (fits : fits_behind before cause ≡ true)
    (none : Uncreated settings before) (taken : AllTaken settings before) where
  abbrev there : List Event
  there = behind (with_cause before cause) (outs_of settings before cause)

  place_took : Place settings before cause (with_cause before cause)
  place_took = record {
    spawned = let m = starts_more before (heard cause) in let g = spawns_more (starts_of before) (heard cause) in omega (arith, m, g);
    none = uncreated_took settings before (facts.steady).starts cause none;
    takers = takers_took settings before cause facts fits taken;
  }

  place_rests : Place settings before cause there
  place_rests = reasons_keep (λ events out. Why settings before cause events out) (Place settings before cause) (place_did settings before cause lasts (facts.steady).starts) (with_cause before cause) (outs_of settings before cause) (reasons settings range before facts cause).why place_took

  pub uncreated_rests : Uncreated settings there
  uncreated_rests = place_rests.none

  runs_there : Lively settings there → (s e : ℕ) → is_exit cause s ≡ false → Taker settings before cause there s e → RunsAt settings there s e
  runs_there lively s e goes_on k =
      let home : home_of settings e there ≡ Some k.group = homes_stay settings e (with_cause before cause) (outs_of settings before cause) ∙ k.home in
      let last : start_of k.group there ≡ Some s = start_kept settings before cause begun fits lasts k.group s k.last goes_on in
      let kept : group_of s there ≡ Some k.group = (lively.last k.group s last).0 in
      record {
        running = k.running;
        home = home ∙ sym kept;
        group = k.group;
        kept = kept;
        last = last;
        ready = up_ready (life_of s there).stage (up_of settings there lively e k.group s (ap settled_facts.is_answered k.running) home last) (onward_rests settings range before facts cause fits s (ap is_unready k.ready));
      }

  pub taken_rests : Lively settings there → AllTaken settings there
  taken_rests lively few s = by_exit (is_exit cause s) refl
    where
      -- of a start that ends no token is left
      none_now : (c : Cause) → is_exit c s ≡ true → created_next settings s before (created_of settings s before) (heard c) ≡ no_created
      none_now (StartFailed n) is = ap (λ b. if b then no_created else created_of settings s before) is
      none_now (ServerGone n) is = ap (λ b. if b then no_created else created_of settings s before) is
      none_now (Joined n) is = never (sym is)
      none_now (FromEditor n body) is = never (sym is)
      none_now (EditorGone n why) is = never (sym is)
      none_now (Started n) is = never (sym is)
      none_now (FromServer n body) is = never (sym is)
      none_now (Drained n k) is = never (sym is)
      none_now (Tick t) is = never (sym is)

      by_exit : (b : Bool) → is_exit cause s ≡ b → AllByRecursion (HasTaken settings there s) (created_of settings s there).takings
      by_exit true is = subst (λ (x : Created). AllByRecursion (HasTaken settings there s) x.takings) (sym (none_outs settings s (with_cause before cause) (outs_of settings before cause) (created_more settings s before (heard cause) ∙ none_now cause is))) tt
      by_exit false goes_on = all_so (Taker settings before cause there s) (RunsAt settings there s) (created_of settings s there) (λ e k. runs_there lively s e goes_on k) (place_rests.takers few s)

pub none_uncreated : (settings : Settings) → Uncreated settings []
none_uncreated settings s le = refl

pub none_taken : (settings : Settings) → AllTaken settings []
none_taken settings few s = tt
