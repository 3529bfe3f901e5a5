-- Two places of an entry that differ in what editors were asked and told: nothing else that the reasons of an editor's message look at.
use Rattle.std.proofs.Common.{◌≡◌, ℕ, ◌+◌, Bool, true, false, ◌&&◌, List, [], ◌∷◌, ◌++◌, cond, map, nat_eq, if◌then◌else◌, Option, None, Some, refl, sym, ◌∙◌, ap, ap₂, subst, append-nil, append_assoc}
use Rattle.std.specs.List.{AllByRecursion}
use Rattle.std.specs.Option.{option_map, option_map_or, option_and_then}
use Rattle.std.proofs.lemmas.List.Elements.{filter-append}
use Rattle.std.specs.Prelude.{filter, not, slice_get}
use Rattle.std.proofs.lemmas.List.Sums.{fold-append}
use Rattle.mux_history.specs.declared.out.Out.{Out}
use Rattle.mux_history.specs.declared.out.Out.TheVariants.{ToEditor, ToServer, Spawn, CloseEditor, EndServer}
use Rattle.position_codec.specs.declared.Encoding.{Encoding}
use Rattle.document_model.specs.declared.agreement.Agreement.TheVariants.{NotOpen}
use Rattle.document_model.specs.Helds.{HeldText}
use Rattle.document_model.specs.Opens.{Open}
use Rattle.document_model.specs.Sayings.{saying_of}
use Rattle.document_model.specs.Texts.{found, no_texts}
use Rattle.rpc_message.specs.Message.{Message, request, notification, result, error, not_json, not_message, Id, message_of}
use Rattle.event_model.specs.declared.phase.Phase.{Phase}
use Rattle.event_model.specs.declared.phase.Phase.TheVariants.{Absent, New, Waiting, Answered, Running, Down, Closed, Gone}
use Rattle.event_model.specs.Event.{Event, behind, said}
use Rattle.event_model.specs.Parts.{is_of_server, server_part}
use Rattle.event_model.specs.Phases.{desk_behind, desk_of, phase_told}
use Rattle.event_model.specs.Requests.{answered_id, next_number, number_behind, open_behind, open_of, without}
use Rattle.event_model.specs.Settings.{Settings}
use Rattle.event_model.specs.Spawns.{group_behind, group_of, start_behind, start_of}
use Rattle.event_model.specs.Stages.{life_behind, life_of}
use Rattle.event_model.proofs.Frames.{never}
use Rattle.mux_model.specs.Documents.{Sent, held_at, sent_behind, sent_of}
use Rattle.mux_facts.proofs.Folds.{desk_more, life_more, number_more, opens_more}
use Rattle.mux_facts.proofs.Tellings.{sent_more}
use Rattle.group_words.specs.Houses.{groups_of, home_of, is_home}
use Rattle.group_words.proofs.Frames.{groups_stay, home_stays, names_home, past_more, touches_groups}
use Rattle.group_rows.specs.Answers.{shared_texts}
use Rattle.group_rows.specs.held_requests.specs.declared.request.Request.{Request}
use Rattle.group_rows.specs.Forwarded.{forwarding_next, forwarding_of, forwards, sender_waiting}
use Rattle.group_rows.specs.Lists.{agreement_at, agreement_by, changed_next, changed_of, is_about, lists_next, lists_of, sayings_behind, sayings_of, version_at}
use Rattle.group_rows.specs.diagnostics_route.specs.declared.last_list.LastList.{LastList}
use Rattle.group_rows.specs.Texts.{is_synced, texts_next, texts_of, touch_all, toucher, toucher_of}
use Rattle.group_rows.specs.Waiting.{first_waiting, is_answered, waiting_next, waiting_of, without_first, worker_behind, worker_of}
use Rattle.group_rows.proofs.Frames.{forwarding_more, texts_more, waiting_more}
use Rattle.group_facts.specs.Facts.{asked_by, server_behind}
use Rattle.group_facts.specs.Why.{IsQuestion, has_method}
use Rattle.group_facts.proofs.Asks.{asked_by_more}
use Rattle.group_facts.proofs.Begun.{start_more}
use Rattle.group_facts.proofs.Housed.{group_more}

-- a body
abbrev pub IsBody : Out → Type 0
IsBody (ToEditor e body) = Unit {0}
IsBody (ToServer s body) = Unit {0}
IsBody other = ⊥

-- what lists are fitted by, one event more
worker_more : (events : List Event) (event : Event) → worker_of (events ++ event ∷ []) ≡ worker_behind (worker_of events) event
worker_more events event = fold-append worker_behind None events (event ∷ [])

sayings_more : (s : ℕ) (events : List Event) (event : Event) → sayings_of s (events ++ event ∷ []) ≡ sayings_behind s (sayings_of s events) event
sayings_more s events event = fold-append (sayings_behind s) 0 events (event ∷ [])

changed_more : (s : ℕ) (u : List ℕ) (events : List Event) (event : Event) → changed_of s u (events ++ event ∷ []) ≡ changed_next s u events (changed_of s u events) event
changed_more s u events event = past_more (changed_next s u) [] 0 events event

lists_did : (s : ℕ) (events : List Event) (lists : List LastList) (out : Out) → lists_next s events lists (said out) ≡ lists
lists_did s events lists (ToEditor e body) = refl
lists_did s events lists (ToServer n body) = refl
lists_did s events lists (Spawn n g) = refl
lists_did s events lists (CloseEditor e) = refl
lists_did s events lists (EndServer n) = refl

lists_stay : (s : ℕ) (events : List Event) (out : Out) → lists_of s (events ++ said out ∷ []) ≡ lists_of s events
lists_stay s events out = past_more (lists_next s) [] [] events (said out) ∙ lists_did s events (lists_of s events) out

pub record Same (settings : Settings) (x y : List Event) : Type 0 where
  pub life : (s : ℕ) → life_of s x ≡ life_of s y
  pub desk : (e : ℕ) → desk_of e x ≡ desk_of e y
  pub opens : (e : ℕ) → open_of e x ≡ open_of e y
  pub forwarding : (s : ℕ) → forwarding_of settings s x ≡ forwarding_of settings s y
  pub sent : (s : ℕ) (u : List ℕ) → sent_of s u x ≡ sent_of s u y
  pub asked : (s : ℕ) → asked_by s x ≡ asked_by s y
  pub part : (s : ℕ) → server_part s x ≡ server_part s y
  pub next : (s : ℕ) → next_number s x ≡ next_number s y
  pub start : (g : ℕ) → start_of g x ≡ start_of g y
  pub groups : groups_of settings x ≡ groups_of settings y
  pub home : (e : ℕ) → home_of settings e x ≡ home_of settings e y
  pub group : (s : ℕ) → group_of s x ≡ group_of s y
  pub worker : worker_of x ≡ worker_of y
  pub texts : (g : ℕ) → texts_of settings g x ≡ texts_of settings g y
  pub sayings : (s : ℕ) → sayings_of s x ≡ sayings_of s y
  pub changed : (s : ℕ) (u : List ℕ) → changed_of s u x ≡ changed_of s u y
  pub lists : (s : ℕ) → lists_of s x ≡ lists_of s y
  pub waiting : (g : ℕ) → waiting_of settings g x ≡ waiting_of settings g y

pub same_held : {x y : List Event} (settings : Settings) → Same settings x y → (s : ℕ) (u : List ℕ) → held_at s u x ≡ held_at s u y
same_held settings k s u = ap (λ (z : Sent). z.held) (k.sent s u)

-- an editor's document is the same there, and the start agrees alike
same_shared : {x y : List Event} (settings : Settings) → Same settings x y → (s : ℕ) → shared_texts settings s x ≡ shared_texts settings s y
same_shared {x} {y} settings k s = go (group_of s x) ∙ ap (λ o. option_map_or (λ g. texts_of settings g y) o no_texts) (k.group s)
  where
    go : (o : Option ℕ) → option_map_or (λ g. texts_of settings g x) o no_texts ≡ option_map_or (λ g. texts_of settings g y) o no_texts
    go (Some g) = k.texts g
    go None = refl

pub same_agreement : {x y : List Event} (settings : Settings) → Same settings x y → (s e : ℕ) (u : List ℕ) → agreement_at settings s e x u ≡ agreement_at settings s e y u
same_agreement {x} {y} settings k s e u = ap (λ z. option_map_or (agreement_by (held_at s u x) (changed_of s u x)) (found e u z) NotOpen) (same_shared settings k s)
    ∙ ap₂ (λ h n. option_map_or (agreement_by h n) (found e u (shared_texts settings s y)) NotOpen) (same_held settings k s u) (k.changed s u)

pub same_version : {x y : List Event} (settings : Settings) → Same settings x y → (s e : ℕ) (u : List ℕ) → version_at settings s e x u ≡ version_at settings s e y u
same_version settings k s e u = ap (λ z. option_map (λ (o : Open). o.version) (found e u z)) (same_shared settings k s)

-- of what waits the same is the first
pub same_first : {x y : List Event} (settings : Settings) → Same settings x y → (s : ℕ) → first_waiting settings s x ≡ first_waiting settings s y
same_first {x} {y} settings k s = go (group_of s x) ∙ ap (λ o. option_and_then (λ g. slice_get (waiting_of settings g y) 0) o) (k.group s)
  where
    go : (o : Option ℕ) → option_and_then (λ g. slice_get (waiting_of settings g x) 0) o ≡ option_and_then (λ g. slice_get (waiting_of settings g y) 0) o
    go (Some g) = ap (λ rs. slice_get rs 0) (k.waiting g)
    go None = refl

at_place : {x y z : List Event} (settings : Settings) → x ≡ y → Same settings x z → Same settings y z
at_place {x} {y} {z} settings e k = subst (λ w. Same settings w z) e k

before_place : {x y z : List Event} (settings : Settings) → y ≡ z → Same settings x y → Same settings x z
before_place {x} {y} {z} settings e k = subst (λ w. Same settings x w) e k

module _ (settings : Settings) where
  pub same_itself : (x : List Event) → Same settings x x
  same_itself x = record { life = λ s. refl; desk = λ e. refl; opens = λ e. refl; forwarding = λ s. refl; sent = λ s u. refl; asked = λ s. refl; part = λ s. refl; next = λ s. refl; start = λ g. refl; groups = refl; home = λ e. refl; group = λ s. refl; worker = refl; texts = λ g. refl; sayings = λ s. refl; changed = λ s u. refl; lists = λ s. refl; waiting = λ g. refl }

  pub same_both : (x y z : List Event) → Same settings x y → Same settings y z → Same settings x z
  same_both x y z h k = record {
    life = λ s. h.life s ∙ k.life s;
    desk = λ e. h.desk e ∙ k.desk e;
    opens = λ e. h.opens e ∙ k.opens e;
    forwarding = λ s. h.forwarding s ∙ k.forwarding s;
    sent = λ s u. h.sent s u ∙ k.sent s u;
    asked = λ s. h.asked s ∙ k.asked s;
    part = λ s. h.part s ∙ k.part s;
    next = λ s. h.next s ∙ k.next s;
    start = λ g. h.start g ∙ k.start g;
    groups = h.groups ∙ k.groups;
    home = λ e. h.home e ∙ k.home e;
    group = λ s. h.group s ∙ k.group s;
    worker = h.worker ∙ k.worker;
    texts = λ g. h.texts g ∙ k.texts g;
    sayings = λ s. h.sayings s ∙ k.sayings s;
    changed = λ s u. h.changed s u ∙ k.changed s u;
    lists = λ s. h.lists s ∙ k.lists s;
    waiting = λ g. h.waiting g ∙ k.waiting g;
  }

  touches_none : (out : Out) → IsBody out → touches_groups (said out) ≡ false
  touches_none (ToEditor e body) h = refl
  touches_none (ToServer s body) h = refl
  touches_none (Spawn s g) h = absurd h
  touches_none (CloseEditor e) h = absurd h
  touches_none (EndServer s) h = absurd h

  names_none : (e : ℕ) (out : Out) → names_home e (said out) ≡ false
  names_none e (ToEditor n body) = refl
  names_none e (ToServer s body) = refl
  names_none e (Spawn s g) = refl
  names_none e (CloseEditor n) = refl
  names_none e (EndServer s) = refl

  texts_then : (x y : List Event) (out : Out) → IsBody out → Same settings x y → (g : ℕ) → texts_next settings g x (texts_of settings g x) (said out) ≡ texts_next settings g y (texts_of settings g y) (said out)
  texts_then x y (ToEditor e body) is h g = h.texts g
  texts_then x y (ToServer s body) is h g =
      ap (λ o. if is_home g o && is_synced (message_of body) then touch_all (toucher_of settings s x (message_of body)) (texts_of settings g x) else texts_of settings g x) (h.group s)
      ∙ ap₂ (λ w z. if is_home g (group_of s y) && is_synced (message_of body) then touch_all w z else z) (ap₂ (λ w r. toucher w (message_of body) r) h.worker (same_first settings h s)) (h.texts g)
  texts_then x y (Spawn s n) is h g = absurd is
  texts_then x y (CloseEditor e) is h g = absurd is
  texts_then x y (EndServer s) is h g = absurd is

  forwarding_then : (x y : List Event) (out : Out) → IsBody out → Same settings x y → (s : ℕ) → forwarding_next settings s x (forwarding_of settings s x) (said out) ≡ forwarding_next settings s y (forwarding_of settings s y) (said out)
  forwarding_then x y (ToEditor e body) is h s = h.forwarding s
  forwarding_then x y (ToServer n body) is h s = ap₂ (λ r f. if nat_eq n s then forwards (option_and_then sender_waiting r) f (message_of body) else f) (same_first settings h s) (h.forwarding s)
  forwarding_then x y (Spawn n g) is h s = absurd is
  forwarding_then x y (CloseEditor e) is h s = absurd is
  forwarding_then x y (EndServer n) is h s = absurd is

  waiting_then : (x y : List Event) (out : Out) → IsBody out → Same settings x y → (g : ℕ) → waiting_next settings g x (waiting_of settings g x) (said out) ≡ waiting_next settings g y (waiting_of settings g y) (said out)
  waiting_then x y (ToEditor e body) is h g = ap (λ rs. filter (λ r. not (is_answered e (answered_id (message_of body)) r)) rs) (h.waiting g)
  waiting_then x y (ToServer s body) is h g =
      ap (λ o. if is_home g o then without_first (worker_of x) (message_of body) (waiting_of settings g x) else waiting_of settings g x) (h.group s)
      ∙ ap₂ (λ w rs. if is_home g (group_of s y) then without_first w (message_of body) rs else rs) h.worker (h.waiting g)
  waiting_then x y (Spawn s n) is h g = absurd is
  waiting_then x y (CloseEditor e) is h g = absurd is
  waiting_then x y (EndServer s) is h g = absurd is

  changed_then : (x y : List Event) (out : Out) → IsBody out → Same settings x y → (s : ℕ) (u : List ℕ) → changed_next s u x (changed_of s u x) (said out) ≡ changed_next s u y (changed_of s u y) (said out)
  changed_then x y (ToEditor e body) is h s u = h.changed s u
  changed_then x y (ToServer k body) is h s u = ap₂ (λ m n. if nat_eq k s && is_about u (saying_of (message_of body)) then m + 1 else n) (h.sayings s) (h.changed s u)
  changed_then x y (Spawn k n) is h s u = absurd is
  changed_then x y (CloseEditor e) is h s u = absurd is
  changed_then x y (EndServer k) is h s u = absurd is

  -- behind the same body
  pub same_more : (x y : List Event) (out : Out) → IsBody out → Same settings x y → Same settings (x ++ said out ∷ []) (y ++ said out ∷ [])
  same_more x y out is h = record {
    life = λ s. life_more s x (said out) ∙ (ap (λ l. life_behind s l (said out)) (h.life s) ∙ sym (life_more s y (said out)));
    desk = λ e. desk_more e x (said out) ∙ (ap (λ d. desk_behind e d (said out)) (h.desk e) ∙ sym (desk_more e y (said out)));
    opens = λ e. opens_more e x (said out) ∙ (ap (λ ids. open_behind e ids (said out)) (h.opens e) ∙ sym (opens_more e y (said out)));
    forwarding = λ s. forwarding_more settings s x (said out) ∙ (forwarding_then x y out is h s ∙ sym (forwarding_more settings s y (said out)));
    sent = λ s u. sent_more s u x (said out) ∙ (ap (λ z. sent_behind s u z (said out)) (h.sent s u) ∙ sym (sent_more s u y (said out)));
    asked = λ s. asked_by_more s x (said out) ∙ (ap (λ ids. server_behind s ids (said out)) (h.asked s) ∙ sym (asked_by_more s y (said out)));
    part = λ s. filter-append (is_of_server s) x (said out ∷ []) ∙ (ap (λ z. z ++ cond (is_of_server s (said out)) (said out ∷ []) []) (h.part s) ∙ sym (filter-append (is_of_server s) y (said out ∷ [])));
    next = λ s. number_more s x (said out) ∙ (ap (λ n. number_behind s n (said out)) (h.next s) ∙ sym (number_more s y (said out)));
    start = λ g. start_more g x (said out) ∙ (ap (λ o. start_behind g o (said out)) (h.start g) ∙ sym (start_more g y (said out)));
    groups = groups_stay settings x (said out) (touches_none out is) ∙ (h.groups ∙ sym (groups_stay settings y (said out) (touches_none out is)));
    home = λ e. home_stays settings e x (said out) (names_none e out) ∙ (h.home e ∙ sym (home_stays settings e y (said out) (names_none e out)));
    group = λ s. group_more s x (said out) ∙ (ap (λ o. group_behind s o (said out)) (h.group s) ∙ sym (group_more s y (said out)));
    worker = worker_more x (said out) ∙ (ap (λ w. worker_behind w (said out)) h.worker ∙ sym (worker_more y (said out)));
    texts = λ g. texts_more settings g x (said out) ∙ (texts_then x y out is h g ∙ sym (texts_more settings g y (said out)));
    sayings = λ s. sayings_more s x (said out) ∙ (ap (λ n. sayings_behind s n (said out)) (h.sayings s) ∙ sym (sayings_more s y (said out)));
    changed = λ s u. changed_more s u x (said out) ∙ (changed_then x y out is h s u ∙ sym (changed_more s u y (said out)));
    lists = λ s. lists_stay s x out ∙ (h.lists s ∙ sym (lists_stay s y out));
    waiting = λ g. waiting_more settings g x (said out) ∙ (waiting_then x y out is h g ∙ sym (waiting_more settings g y (said out)));
  }

  pub same_behind : (x y : List Event) (xs : List Out) → AllByRecursion IsBody xs → Same settings x y → Same settings (behind x xs) (behind y xs)
  same_behind x y [] all h = at_place settings (sym (append-nil x)) (before_place settings (sym (append-nil y)) h)
  same_behind x y (out ∷ xs) all h = at_place settings (append_assoc x (said out ∷ []) (map said xs)) (before_place settings (append_assoc y (said out ∷ []) (map said xs))
      (same_behind (x ++ said out ∷ []) (y ++ said out ∷ []) xs all.1 (same_more x y out all.0 h)))

  -- behind a request or a notification to an editor

  told_phase : (phase : Phase) (initialize : List ℕ) (m : Message) → has_method m ≡ true → phase_told phase initialize m ≡ phase
  told_phase Waiting initialize (request id method params) h = refl
  told_phase Waiting initialize (notification method params) h = refl
  told_phase Waiting initialize (result id r) h = never (sym h)
  told_phase Waiting initialize (error id r) h = never (sym h)
  told_phase Waiting initialize not_json h = never (sym h)
  told_phase Waiting initialize not_message h = never (sym h)
  told_phase Absent initialize m h = refl
  told_phase New initialize m h = refl
  told_phase Answered initialize m h = refl
  told_phase Running initialize m h = refl
  told_phase Down initialize m h = refl
  told_phase Closed initialize m h = refl
  told_phase Gone initialize m h = refl

  none_answered : (n : ℕ) (rs : List Request) → filter (λ r. not (is_answered n None r)) rs ≡ rs
  none_answered n [] = refl
  none_answered n (r ∷ rs) = ap (λ z. r ∷ z) (none_answered n rs)

  unanswered : (n : ℕ) (m : Message) (rs : List Request) → has_method m ≡ true → filter (λ r. not (is_answered n (answered_id m) r)) rs ≡ rs
  unanswered n (request id method params) rs h = none_answered n rs
  unanswered n (notification method params) rs h = none_answered n rs
  unanswered n (result id r) rs h = never (sym h)
  unanswered n (error id r) rs h = never (sym h)
  unanswered n not_json rs h = never (sym h)
  unanswered n not_message rs h = never (sym h)

  told_none : (m : Message) (ids : List Id) → has_method m ≡ true → without (answered_id m) ids ≡ ids
  told_none (request id method params) ids h = refl
  told_none (notification method params) ids h = refl
  told_none (result id r) ids h = never (sym h)
  told_none (error id r) ids h = never (sym h)
  told_none not_json ids h = never (sym h)
  told_none not_message ids h = never (sym h)

  quiet_sent : (s : ℕ) (u : List ℕ) (n : ℕ) (body : List ℕ) (code : Option Encoding) (held : Option HeldText) → ◌≡◌ {A = Sent} (sent_behind s u (record { encoding = code; held = held }) (said (ToEditor n body))) (record { encoding = code; held = held })
  quiet_sent s u n body None held = refl
  quiet_sent s u n body (Some c) held = refl

  same_asked : (x : List Event) (n : ℕ) (body : List ℕ) → has_method (message_of body) ≡ true → Same settings (x ++ said (ToEditor n body) ∷ []) x
  same_asked x n body h = record {
    life = λ s. life_more s x (said (ToEditor n body));
    desk = λ e. desk_more e x (said (ToEditor n body)) ∙ seated e (nat_eq n e);
    opens = λ e. opens_more e x (said (ToEditor n body)) ∙ ap (λ ids. if nat_eq n e then ids else open_of e x) (told_none (message_of body) (open_of e x) h) ∙ either (nat_eq n e) (open_of e x);
    forwarding = λ s. forwarding_more settings s x (said (ToEditor n body));
    sent = λ s u. sent_more s u x (said (ToEditor n body)) ∙ quiet_sent s u n body (sent_of s u x).encoding (sent_of s u x).held;
    asked = λ s. asked_by_more s x (said (ToEditor n body));
    part = λ s. filter-append (is_of_server s) x (said (ToEditor n body) ∷ []) ∙ append-nil (server_part s x);
    next = λ s. number_more s x (said (ToEditor n body));
    start = λ g. start_more g x (said (ToEditor n body));
    groups = groups_stay settings x (said (ToEditor n body)) refl;
    home = λ e. home_stays settings e x (said (ToEditor n body)) refl;
    group = λ s. group_more s x (said (ToEditor n body));
    worker = worker_more x (said (ToEditor n body));
    texts = λ g. texts_more settings g x (said (ToEditor n body));
    sayings = λ s. sayings_more s x (said (ToEditor n body));
    changed = λ s u. changed_more s u x (said (ToEditor n body));
    lists = λ s. lists_stay s x (ToEditor n body);
    waiting = λ g. waiting_more settings g x (said (ToEditor n body)) ∙ unanswered n (message_of body) (waiting_of settings g x) h;
  }
    where
      either : (b : Bool) (ids : List Id) → (if b then ids else ids) ≡ ids
      either true ids = refl
      either false ids = refl

      seated : (e : ℕ) (b : Bool) → (if b then record { phase = phase_told (desk_of e x).phase (desk_of e x).initialize (message_of body); initialize = (desk_of e x).initialize } else desk_of e x) ≡ desk_of e x
      seated e true = ap (λ p. record { phase = p; initialize = (desk_of e x).initialize }) (told_phase (desk_of e x).phase (desk_of e x).initialize (message_of body) h)
      seated e false = refl

  -- and behind some
  pub same_questions : (e : ℕ) (x : List Event) (xs : List Out) → AllByRecursion (IsQuestion e) xs → Same settings (behind x xs) x
  same_questions e x [] h = at_place settings (sym (append-nil x)) (same_itself x)
  same_questions e x (ToEditor n body ∷ xs) h = at_place settings (append_assoc x (said (ToEditor n body) ∷ []) (map said xs))
      (same_both (behind (x ++ said (ToEditor n body) ∷ []) xs) (x ++ said (ToEditor n body) ∷ []) x (same_questions e (x ++ said (ToEditor n body) ∷ []) xs h.1) (same_asked x n body h.0.1))
  same_questions e x (ToServer n body ∷ xs) h = absurd h.0
  same_questions e x (Spawn n g ∷ xs) h = absurd h.0
  same_questions e x (CloseEditor n ∷ xs) h = absurd h.0
  same_questions e x (EndServer n ∷ xs) h = absurd h.0

  pub sym_same : (x y : List Event) → Same settings x y → Same settings y x
  sym_same x y h = record {
    life = λ s. sym (h.life s);
    desk = λ e. sym (h.desk e);
    opens = λ e. sym (h.opens e);
    forwarding = λ s. sym (h.forwarding s);
    sent = λ s u. sym (h.sent s u);
    asked = λ s. sym (h.asked s);
    part = λ s. sym (h.part s);
    next = λ s. sym (h.next s);
    start = λ g. sym (h.start g);
    groups = sym h.groups;
    home = λ e. sym (h.home e);
    group = λ s. sym (h.group s);
    worker = sym h.worker;
    texts = λ g. sym (h.texts g);
    sayings = λ s. sym (h.sayings s);
    changed = λ s u. sym (h.changed s u);
    lists = λ s. sym (h.lists s);
    waiting = λ g. sym (h.waiting g);
  }
