-- No two open requests are of one editor under one id, at whatever starts.
use Rattle.std.proofs.Common.{◌≡◌, ℕ, Bool, true, false, not, cond, List, [], ◌∷◌, ◌++◌, filter, find, nat_eq, codes, decimal, if◌then◌else◌, Option, Some, None, refl, sym, ◌∙◌, ap, subst, append-nil, arith}
use Rattle.std.specs.List.{AllByRecursion}
use Rattle.json_text.specs.Json.{Json, IsText}
use Rattle.json_text.proofs.Laws.{one_tree}
use Rattle.document_model.proofs.Written.{Spoken, spoken}
use Rattle.mux_history.specs.declared.cause.Cause.{Cause}
use Rattle.mux_history.specs.declared.cause.Cause.TheVariants.{Joined, FromEditor, EditorGone, Started, StartFailed, FromServer, ServerGone, Drained, Tick}
use Rattle.mux_history.specs.declared.out.Out.{Out}
use Rattle.mux_history.specs.declared.out.Out.TheVariants.{ToServer}
use Rattle.rpc_message.specs.Message.{request, Id, id_of, integer, message_of}
use Rattle.rpc_message.specs.ValueTexts.{IsIdText}
use Rattle.rpc_message.proofs.Ids.{id_flat}
use Rattle.event_model.specs.Event.{Event, heard, said, with_cause}
use Rattle.event_model.specs.Phases.{desk_of}
use Rattle.event_model.specs.Requests.{answered_id, next_number, is_open, is_own, open_of}
use Rattle.event_model.specs.Settings.{Settings}
use Rattle.event_model.proofs.Frames.{never}
use Rattle.mux_facts.proofs.Lists.{all_filtered, all_join, all_of, found_is}
use Rattle.mux_facts.proofs.Words.{same_number}
use Rattle.group_rows.specs.Forwarded.{Forwarded, Forwarding, answered_by, first_sender, forwarding_next, forwarding_of, names, no_forwarding, numbered}
use Rattle.group_facts.specs.Facts.{AllForwarded, Apart, IsAlone, IsForwarded, OneRequest, is_early}
use Rattle.group_facts.specs.Why.{IsForward, WhyToServer, begins, greets, conveys, forwarded, notes, tells, shuts, cancels, responds, exits, resolves, cancels_work}
use Rattle.group_rows.proofs.Frames.{forwarding_more}
use Rattle.group_facts.proofs.Forwards.{Fewer, fewer_notified, more_requests, zip_all}
use Rattle.group_facts.proofs.Levels.{each_start}
use Rattle.group_facts.proofs.Numbers.{forwarding_other, forwarding_sent, response_forwards}
use Rattle.mux_facts.specs.Allowed.{is_response}

-- bytes are the text of one id

id_text : (i : Id) (w : List ℕ) (h : IsIdText i w) → IsText w h.tree
id_text i w h = ([], w, refl, tt, (w, [], sym (append-nil w), h.stands, tt))

pub one_id : (i j : Id) (w : List ℕ) → IsIdText i w → IsIdText j w → i ≡ j
one_id i j w h k = same (sym h.is ∙ ap id_of (one_tree w h.tree k.tree (id_text i w h) (omega (arith, id_flat h.tree i h.is)) (id_text j w k) (omega (arith, id_flat k.tree j k.is))) ∙ k.is)
  where
    same : ◌≡◌ {A = Option Id} (Some i) (Some j) → i ≡ j
    same e = cc

-- a request of e under an id that isn't open is open at no start
pub alone_by : (settings : Settings) (before : List Event) → AllForwarded settings before → (e : ℕ) (id : Id) → is_open id (open_of e before) ≡ false → IsAlone settings before e id
alone_by settings before asked e id fresh t = all_of (IsForwarded before) (λ (g : Forwarded). g.editor ≡ e → IsIdText id g.id → ⊥) (λ g k same text. clash g k same (one_id id k.id g.id text k.text)) (forwarding_of settings t before).open_requests (asked t)
  where
    clash : (g : Forwarded) (k : IsForwarded before g) → g.editor ≡ e → id ≡ k.id → ⊥
    clash g k same is = never (sym (subst (λ z. is_open z (open_of g.editor before) ≡ true) (sym is) k.waits) ∙ ap (λ z. is_open id (open_of z before)) same ∙ fresh)

-- nor is one of an editor that got no result yet
pub alone_early : (settings : Settings) (before : List Event) → AllForwarded settings before → (e : ℕ) (id : Id) → is_early (desk_of e before).phase ≡ true → IsAlone settings before e id
alone_early settings before asked e id early t = all_of (IsForwarded before) (λ (g : Forwarded). g.editor ≡ e → IsIdText id g.id → ⊥) (λ g k same text. never (sym early ∙ ap (λ z. is_early (desk_of z before).phase) (sym same) ∙ k.late)) (forwarding_of settings t before).open_requests (asked t)

-- One event more, behind which no request is open that wasn't before

pub apart_fewer : (settings : Settings) (events later : List Event) → Fewer settings events later → Apart settings events → Apart settings later
apart_fewer settings events later fewer h s = fewer s (λ n e i. (t : ℕ) → AllByRecursion (λ (g : Forwarded). (id : Id) → g.editor ≡ e → IsIdText id i → IsIdText id g.id → (t ≡ s) × (g.number ≡ n)) (forwarding_of settings t later).open_requests)
    (all_of (λ (f : Forwarded). (t : ℕ) → AllByRecursion (OneRequest s f t) (forwarding_of settings t events).open_requests) (λ (f : Forwarded). (t : ℕ) → AllByRecursion (OneRequest s f t) (forwarding_of settings t later).open_requests)
    (λ f k t. fewer t (λ n e i. (id : Id) → e ≡ f.editor → IsIdText id f.id → IsIdText id i → (t ≡ s) × (n ≡ f.number)) (k t)) (forwarding_of settings s events).open_requests (h s))

abbrev All3 : (ℕ → ℕ → List ℕ → Type 0) → List Forwarded → Type 0
All3 Q fs = AllByRecursion (λ (f : Forwarded). Q f.number f.editor f.id) fs

fewer_by : (settings : Settings) (events : List Event) (event : Event) → ((t : ℕ) (Q : ℕ → ℕ → List ℕ → Type 0) → All3 Q (forwarding_of settings t events).open_requests → All3 Q (forwarding_next settings t events (forwarding_of settings t events) event).open_requests) → Fewer settings events (events ++ event ∷ [])
fewer_by settings events event f t Q h = subst (λ (x : Forwarding). All3 Q x.open_requests) (sym (forwarding_more settings t events event)) (f t Q h)

answered_fewer : (Q : ℕ → ℕ → List ℕ → Type 0) (b : Bool) (test : Forwarded → Bool) (fs : List Forwarded) → All3 Q fs → All3 Q (if b then filter test fs else fs)
answered_fewer Q true test fs h = all_filtered (λ (f : Forwarded). Q f.number f.editor f.id) (λ (f : Forwarded). Q f.number f.editor f.id) test (λ f t k. k) fs h
answered_fewer Q false test fs h = h

-- what a start that ended had to answer is forgotten
ended_fewer : (Q : ℕ → ℕ → List ℕ → Type 0) (b : Bool) (x : Forwarding) → All3 Q x.open_requests → All3 Q (if b then no_forwarding else record { sender = None; next = x.next; open_requests = x.open_requests }).open_requests
ended_fewer Q true x h = tt
ended_fewer Q false x h = h

pub fewer_took : (settings : Settings) (events : List Event) (cause : Cause) → Fewer settings events (with_cause events cause)
fewer_took settings events (Joined e) = fewer_by settings events (heard (Joined e)) (λ t Q h. h)
fewer_took settings events (FromEditor e body) = fewer_by settings events (heard (FromEditor e body)) (λ t Q h. h)
fewer_took settings events (Started n) = fewer_by settings events (heard (Started n)) (λ t Q h. h)
fewer_took settings events (FromServer n body) = fewer_by settings events (heard (FromServer n body)) (λ t Q h. answered_fewer Q (nat_eq n t) (λ f. not (answered_by (answered_id (message_of body)) f)) (forwarding_of settings t events).open_requests h)
fewer_took settings events (Drained e k) = fewer_by settings events (heard (Drained e k)) (λ t Q h. h)
fewer_took settings events (Tick t) = fewer_by settings events (heard (Tick t)) (λ s Q h. h)
fewer_took settings events (EditorGone e why) = fewer_by settings events (heard (EditorGone e why)) (λ t Q h. h)
fewer_took settings events (StartFailed n) = fewer_by settings events (heard (StartFailed n)) (λ t Q h. ended_fewer Q (nat_eq n t) (forwarding_of settings t events) h)
fewer_took settings events (ServerGone n) = fewer_by settings events (heard (ServerGone n)) (λ t Q h. ended_fewer Q (nat_eq n t) (forwarding_of settings t events) h)

pub asks_fewer : (settings : Settings) (events : List Event) (e : ℕ) (body : List ℕ) → Fewer settings events (with_cause events (FromEditor e body))
asks_fewer settings events e body = fewer_by settings events (heard (FromEditor e body)) (λ t Q h. h)

pub fewer_said : (settings : Settings) (events : List Event) (out : Out) → ((s : ℕ) → (forwarding_next settings s events (forwarding_of settings s events) (said out)).open_requests ≡ (forwarding_of settings s events).open_requests) → Fewer settings events (events ++ said out ∷ [])
fewer_said settings events out same = fewer_by settings events (said out) (λ t Q k. subst (All3 Q) (sym (same t)) k)

pub apart_said : (settings : Settings) (events : List Event) (out : Out) → ((s : ℕ) → (forwarding_next settings s events (forwarding_of settings s events) (said out)).open_requests ≡ (forwarding_of settings s events).open_requests) → Apart settings events → Apart settings (events ++ said out ∷ [])
apart_said settings events out same h = apart_fewer settings events (events ++ said out ∷ []) (fewer_said settings events out same) h

-- A body to a start

module _ (settings : Settings) (before : List Event) (cause : Cause) (events : List Event) (n : ℕ) (body : List ℕ) where
  abbrev sent : List Event
  sent = events ++ said (ToServer n body) ∷ []

  pub own_fewer : (id : Id) (method : List ℕ) (params : Option Json) → message_of body ≡ request id method params → is_own method ≡ true → Fewer settings events sent
  own_fewer id method params says own t Q h = each_start (λ z. All3 Q (forwarding_of settings z events).open_requests → All3 Q (forwarding_of settings z sent).open_requests) n
      (λ k. subst (λ (x : Forwarding). All3 Q x.open_requests) (sym (forwarding_sent settings events n body (request id method params) says ∙ ap (λ c. if c then forwarding_of settings n events else more_requests (first_sender settings n events) (forwarding_of settings n events)) own)) k)
      (λ z other k. subst (λ (x : Forwarding). All3 Q x.open_requests) (sym (forwarding_other settings events n body z other)) k) t h

  pub response_fewer : is_response (message_of body) ≡ true → Fewer settings events sent
  response_fewer answer t Q h = each_start (λ z. All3 Q (forwarding_of settings z events).open_requests → All3 Q (forwarding_of settings z sent).open_requests) n
      (λ k. subst (λ (x : Forwarding). All3 Q x.open_requests) (sym (forwarding_sent settings events n body (message_of body) refl ∙ response_forwards (first_sender settings n events) (forwarding_of settings n events) (message_of body) answer)) k)
      (λ z other k. subst (λ (x : Forwarding). All3 Q x.open_requests) (sym (forwarding_other settings events n body z other)) k) t h

  -- an editor's request: it alone is new
  module _ (k : IsForward settings before cause events n body) where
    unfoldable pub new : Forwarded
    new = record { number = (forwarding_of settings n events).next; editor = (k.sender).editor; id = (k.sender).id; work = (k.sender).work; partial = (k.sender).partial; cancelled = false }

    list_now : (forwarding_of settings n sent).open_requests ≡ (forwarding_of settings n events).open_requests ++ new ∷ []
    unfolding new
    list_now = ap (λ (x : Forwarding). x.open_requests) (forwarding_sent settings events n body (request (integer (decimal (forwarding_of settings n events).next)) k.method k.params) k.says
        ∙ ap (λ c. if c then forwarding_of settings n events else more_requests (first_sender settings n events) (forwarding_of settings n events)) k.other)
        ∙ ap (λ o. (forwarding_of settings n events).open_requests ++ numbered o (forwarding_of settings n events).next) k.at_work

    pub grow : (t : ℕ) (P : Forwarded → Type 0) → AllByRecursion P (forwarding_of settings t events).open_requests → (n ≡ t → P new) → AllByRecursion P (forwarding_of settings t sent).open_requests
    grow t P h f = each_start (λ z. AllByRecursion P (forwarding_of settings z events).open_requests → (n ≡ z → P new) → AllByRecursion P (forwarding_of settings z sent).open_requests) n
        (λ a g. subst (AllByRecursion P) (sym list_now) (all_join P (forwarding_of settings n events).open_requests (new ∷ []) a (g refl, tt)))
        (λ z other a g. subst (λ (x : Forwarding). AllByRecursion P x.open_requests) (sym (forwarding_other settings events n body z other)) a) t h f

    -- another request isn't under its id
    old_new : (s t : ℕ) (f : Forwarded) → (f.editor ≡ (k.sender).editor → IsIdText k.id f.id → ⊥) → OneRequest s f t new
    unfolding new
    old_new s t f alone id same text mine = absurd (alone (sym same) (subst (λ z. IsIdText z f.id) (one_id id k.id (k.sender).id mine k.text) text))

    new_old : (s t : ℕ) (g : Forwarded) → (g.editor ≡ (k.sender).editor → IsIdText k.id g.id → ⊥) → OneRequest s new t g
    unfolding new
    new_old s t g alone id same mine text = absurd (alone same (subst (λ z. IsIdText z g.id) (one_id id k.id (k.sender).id mine k.text) text))

    forwarded_apart : Apart settings events → Apart settings sent
    forwarded_apart h s = grow s (λ (f : Forwarded). (t : ℕ) → AllByRecursion (OneRequest s f t) (forwarding_of settings t sent).open_requests)
        (zip_all (λ (f : Forwarded). (t : ℕ) → AllByRecursion (OneRequest s f t) (forwarding_of settings t events).open_requests) (λ (f : Forwarded). f.editor ≡ (k.sender).editor → IsIdText k.id f.id → ⊥)
        (λ (f : Forwarded). (t : ℕ) → AllByRecursion (OneRequest s f t) (forwarding_of settings t sent).open_requests) (λ f a alone t. grow t (OneRequest s f t) (a t) (λ same. old_new s t f alone)) (forwarding_of settings s events).open_requests (h s) (k.alone s))
        (λ here t. grow t (OneRequest s new t) (all_of (λ (g : Forwarded). g.editor ≡ (k.sender).editor → IsIdText k.id g.id → ⊥) (OneRequest s new t) (λ g alone. new_old s t g alone) (forwarding_of settings t events).open_requests (k.alone t))
        (λ there id same text mine. (sym there ∙ here, refl)))

  pub apart_sent : WhyToServer settings before cause events n body → Apart settings events → Apart settings sent
  apart_sent (begins k) h = apart_fewer settings events sent (own_fewer (integer (codes "1")) (codes "initialize") k.params k.says refl) h
  apart_sent (greets k) h = apart_fewer settings events sent (fewer_notified settings n events body (codes "initialized") k.params k.says) h
  apart_sent (conveys k) h = apart_fewer settings events sent (fewer_notified settings n events body (codes "workspace/didChangeConfiguration") k.params k.says) h
  apart_sent (forwarded k) h = forwarded_apart k h
  apart_sent (notes k) h = apart_fewer settings events sent (fewer_notified settings n events body k.method k.params k.says) h
  apart_sent (tells k) h = let m : Spoken (message_of body) = spoken (message_of body) k.spoken in apart_fewer settings events sent (fewer_notified settings n events body m.method m.params m.is) h
  apart_sent (cancels k) h = apart_fewer settings events sent (fewer_notified settings n events body (codes "$/cancelRequest") (Some k.params) k.says) h
  apart_sent (cancels_work k) h = apart_fewer settings events sent (fewer_notified settings n events body (codes "window/workDoneProgress/cancel") k.params k.says) h
  apart_sent (responds k) h = apart_fewer settings events sent (response_fewer k.response) h
  apart_sent (resolves k) h = apart_fewer settings events sent (response_fewer k.response) h
  apart_sent (exits k) h = apart_fewer settings events sent (fewer_notified settings n events body (codes "exit") None k.says) h
  apart_sent (shuts k) h = apart_fewer settings events sent (own_fewer (integer (decimal (next_number n events))) (codes "shutdown") None k.says refl) h

-- A response that is passed on

pub find_true : (test : Forwarded → Bool) (fs : List Forwarded) (f : Forwarded) → find test fs ≡ Some f → test f ≡ true
find_true test [] f h = absurd (cc)
find_true test (g ∷ fs) f h = go (test g) refl (λ k. find_true test fs f k) h
  where
    go : (b : Bool) → test g ≡ b → (find test fs ≡ Some f → test f ≡ true) → cond b (Some g) (find test fs) ≡ Some f → test f ≡ true
    go true e rest k = subst (λ z. test z ≡ true) (let same : g ≡ f = cc in same) e
    go false e rest k = rest k

-- behind the answer to f no other is open of its editor and under its id
pub alone_answered : (settings : Settings) (before : List Event) (s : ℕ) (body : List ℕ) (f : Forwarded) (id : Id) → Apart settings before → find (answered_by (answered_id (message_of body))) (forwarding_of settings s before).open_requests ≡ Some f → IsIdText id f.id → IsAlone settings (with_cause before (FromServer s body)) f.editor id
alone_answered settings before s body f id apart found text t = subst (λ (x : Forwarding). AllByRecursion (λ (g : Forwarded). g.editor ≡ f.editor → IsIdText id g.id → ⊥) x.open_requests) (sym (forwarding_more settings t before (heard (FromServer s body)))) (go (nat_eq s t) refl)
  where
    of_f : AllByRecursion (OneRequest s f t) (forwarding_of settings t before).open_requests
    of_f = found_is (λ (z : Forwarded). (t : ℕ) → AllByRecursion (OneRequest s z t) (forwarding_of settings t before).open_requests) (answered_by (answered_id (message_of body))) f (forwarding_of settings s before).open_requests (apart s) found t

    answered : answered_by (answered_id (message_of body)) f ≡ true
    answered = find_true (answered_by (answered_id (message_of body))) (forwarding_of settings s before).open_requests f found

    go : (b : Bool) → nat_eq s t ≡ b → AllByRecursion (λ (g : Forwarded). g.editor ≡ f.editor → IsIdText id g.id → ⊥) (if b then filter (λ g. not (answered_by (answered_id (message_of body)) g)) (forwarding_of settings t before).open_requests else (forwarding_of settings t before).open_requests)
    go true same = all_filtered (OneRequest s f t) (λ (g : Forwarded). g.editor ≡ f.editor → IsIdText id g.id → ⊥) (λ g. not (answered_by (answered_id (message_of body)) g))
        (λ g left one editor mine. never (sym left ∙ ap not (ap (names (answered_id (message_of body))) (one id editor text mine).1 ∙ answered))) (forwarding_of settings t before).open_requests of_f
    go false other = all_of (OneRequest s f t) (λ (g : Forwarded). g.editor ≡ f.editor → IsIdText id g.id → ⊥) (λ g one editor mine. never (sym (ap (λ z. nat_eq s z) (one id editor text mine).0 ∙ same_number s) ∙ other)) (forwarding_of settings t before).open_requests of_f
