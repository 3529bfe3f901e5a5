-- Each request that is open at a start is one of an editor that got its result, under the bytes of an id.
use Rattle.std.proofs.Common.{◌≡◌, ℕ, Bool, true, false, not, List, [], ◌∷◌, ◌++◌, filter, nat_eq, codes, decimal, if◌then◌else◌, Option, None, Some, refl, sym, ◌∙◌, ap, subst, arith}
use Rattle.std.specs.List.{AllByRecursion}
use Rattle.json_text.specs.Json.{Json}
use Rattle.document_model.proofs.Written.{Spoken, spoken}
use Rattle.mux_history.specs.declared.cause.Cause.{Cause}
use Rattle.mux_history.specs.declared.cause.Cause.TheVariants.{Joined, FromEditor, EditorGone, Started, StartFailed, FromServer, ServerGone, Drained, Tick}
use Rattle.mux_history.specs.declared.out.Out.{Out}
use Rattle.mux_history.specs.declared.out.Out.TheVariants.{ToEditor, ToServer, CloseEditor}
use Rattle.rpc_message.specs.Message.{Message, request, notification, Id, integer, message_of}
use Rattle.rpc_message.specs.ValueTexts.{IsIdText}
use Rattle.event_model.specs.declared.phase.Phase.TheVariants.{New, Waiting, Gone}
use Rattle.event_model.specs.Event.{Event, heard, said, same_id, with_cause}
use Rattle.event_model.specs.Phases.{Desk, desk_of, desk_behind, desk_hears, editors_of, phase_closed, phase_told}
use Rattle.event_model.specs.Requests.{answered_id, next_number, is_open, is_own, open_behind, open_of, without}
use Rattle.event_model.specs.Settings.{Settings}
use Rattle.event_model.proofs.Frames.{never}
use Rattle.mux_model.specs.Fits.{fits_behind}
use Rattle.mux_facts.proofs.Asked.{either_late, hears_open}
use Rattle.mux_facts.proofs.Editors.{Editors}
use Rattle.mux_facts.proofs.FactLaws.{closed_late}
use Rattle.mux_facts.proofs.Folds.{desk_more, opens_more}
use Rattle.mux_facts.proofs.Late.{hears_late, told_late}
use Rattle.mux_facts.proofs.Lists.{all_filtered, all_join, all_of}
use Rattle.mux_facts.proofs.Waits.{late_not}
use Rattle.mux_facts.proofs.Why.{is_early}
use Rattle.mux_facts.proofs.Words.{id_same, number_same, still_open}
use Rattle.group_rows.specs.Asks.{next_ask}
use Rattle.group_rows.specs.Forwarded.{Forwarded, Forwarding, Sender, answered_by, first_sender, forwarding_next, forwarding_of, forwards, no_forwarding, numbered}
use Rattle.group_rows.specs.StopRows.{stopped}
use Rattle.group_facts.specs.Facts.{AllForwarded, IsAlone, IsAsker, IsForwarded}
use Rattle.group_rows.proofs.Frames.{forwarding_more}
use Rattle.group_facts.proofs.Forwards.{more_requests, notified_all, zip_all}
use Rattle.group_facts.proofs.Levels.{each_start}
use Rattle.group_facts.proofs.Numbers.{forwarding_other, forwarding_sent, response_forwards}
use Rattle.group_facts.specs.Why.{IsForward, WhyToEditor, WhyToServer, begins, greets, conveys, forwarded, notes, tells, shuts, cancels, calls, rejects, resumes, refuses, answers, turns_away, welcomes, passes, responds, exits, asks, loses, winds_up, recalls, resolves, spreads, cancels_work, progresses, shows, asker_at, pays}

-- An editor that got its result stays one that did

module _ (events : List Event) (e : ℕ) (late : is_early (desk_of e events).phase ≡ false) where
  pub late_heard : (cause : Cause) → fits_behind events cause ≡ true → Editors events → is_early (desk_behind e (desk_of e events) (heard cause)).phase ≡ false
  late_heard (Joined n) fits none = go (nat_eq n e) refl
    where
      go : (b : Bool) → nat_eq n e ≡ b → is_early (if b then record { phase = New; initialize = [] } else desk_of e events).phase ≡ false
      go true same = never (sym (ap is_early (none e (omega (arith, number_same n e same, number_same n (editors_of events) fits)))) ∙ late)
      go false other = late
  late_heard (FromEditor n body) fits none = either_late (nat_eq n e) (desk_hears (desk_of e events).phase (desk_of e events).initialize body (message_of body)) (desk_of e events)
      (hears_late (desk_of e events).phase (desk_of e events).initialize body (message_of body) late) late
  late_heard (EditorGone n why) fits none = either_late (nat_eq n e) (record { phase = Gone; initialize = (desk_of e events).initialize }) (desk_of e events) refl late
  late_heard cause fits none = late

  pub late_said : (out : Out) → is_early (desk_behind e (desk_of e events) (said out)).phase ≡ false
  late_said (ToEditor n body) = either_late (nat_eq n e) (record { phase = phase_told (desk_of e events).phase (desk_of e events).initialize (message_of body); initialize = (desk_of e events).initialize }) (desk_of e events)
      (ap is_early (told_late (desk_of e events).phase (desk_of e events).initialize (message_of body) late) ∙ late) late
  late_said (CloseEditor n) = either_late (nat_eq n e) (record { phase = phase_closed (desk_of e events).phase; initialize = (desk_of e events).initialize }) (desk_of e events) (closed_late (desk_of e events).phase) late
  late_said out = late

asker_more : (events : List Event) (event : Event) (e : ℕ) (bytes : List ℕ) (k : IsAsker events e bytes) → is_early (desk_behind e (desk_of e events) event).phase ≡ false → is_open k.id (open_behind e (open_of e events) event) ≡ true → IsAsker (events ++ event ∷ []) e bytes
asker_more events event e bytes k late waits = record {
  id = k.id;
  text = k.text;
  late = ap (λ (d : Desk). is_early d.phase) (desk_more e events event) ∙ late;
  waits = ap (is_open k.id) (opens_more e events event) ∙ waits;
}

pub open_heard : (events : List Event) (e : ℕ) (id : Id) → is_open id (open_of e events) ≡ true → (cause : Cause) → is_open id (open_behind e (open_of e events) (heard cause)) ≡ true
open_heard events e id h (FromEditor n body) = hears_open (nat_eq n e) (message_of body) (open_of e events) id h
open_heard events e id h cause = h

asker_heard : (events : List Event) (cause : Cause) → fits_behind events cause ≡ true → Editors events → (f : Forwarded) → IsForwarded events f → IsForwarded (with_cause events cause) f
asker_heard events cause fits none f k = asker_more events (heard cause) f.editor f.id k (late_heard events f.editor k.late cause fits none) (open_heard events f.editor k.id k.waits cause)

-- an out that answers none of them
asker_said : (events : List Event) (out : Out) → ((e : ℕ) → open_behind e (open_of e events) (said out) ≡ open_of e events) → (f : Forwarded) → IsForwarded events f → IsForwarded (events ++ said out ∷ []) f
asker_said events out same f k = asker_more events (said out) f.editor f.id k (late_said events f.editor k.late out) (ap (is_open k.id) (same f.editor) ∙ k.waits)

-- One event more

asked_list : (settings : Settings) (events : List Event) (event : Event) (s : ℕ) (fs : List Forwarded) → (forwarding_next settings s events (forwarding_of settings s events) event).open_requests ≡ fs → AllByRecursion (IsForwarded (events ++ event ∷ [])) fs → AllByRecursion (IsForwarded (events ++ event ∷ [])) (forwarding_of settings s (events ++ event ∷ [])).open_requests
asked_list settings events event s fs same h = subst (AllByRecursion (IsForwarded (events ++ event ∷ []))) (sym (ap (λ (x : Forwarding). x.open_requests) (forwarding_more settings s events event) ∙ same)) h

module _ (settings : Settings) (events : List Event) (event : Event) (asker : (f : Forwarded) → IsForwarded events f → IsForwarded (events ++ event ∷ []) f) where
  all_later : (fs : List Forwarded) → AllByRecursion (IsForwarded events) fs → AllByRecursion (IsForwarded (events ++ event ∷ [])) fs
  all_later fs h = all_of (IsForwarded events) (IsForwarded (events ++ event ∷ [])) asker fs h

  pub asked_by_list : (s : ℕ) (fs : List Forwarded) → (forwarding_next settings s events (forwarding_of settings s events) event).open_requests ≡ fs → AllByRecursion (IsForwarded (events ++ event ∷ [])) fs → AllByRecursion (IsForwarded (events ++ event ∷ [])) (forwarding_of settings s (events ++ event ∷ [])).open_requests
  asked_by_list s fs same h = subst (AllByRecursion (IsForwarded (events ++ event ∷ []))) (sym (ap (λ (x : Forwarding). x.open_requests) (forwarding_more settings s events event) ∙ same)) h

  -- one that leaves the requests alone
  pub asked_still : ((s : ℕ) → (forwarding_next settings s events (forwarding_of settings s events) event).open_requests ≡ (forwarding_of settings s events).open_requests) → AllForwarded settings events → AllForwarded settings (events ++ event ∷ [])
  asked_still same h s = asked_by_list s (forwarding_of settings s events).open_requests (same s) (all_later (forwarding_of settings s events).open_requests (h s))

answered_less : (events later : List Event) (asker : (f : Forwarded) → IsForwarded events f → IsForwarded later f) (b : Bool) (test : Forwarded → Bool) (fs : List Forwarded) → AllByRecursion (IsForwarded events) fs → AllByRecursion (IsForwarded later) (if b then filter test fs else fs)
answered_less events later asker true test fs h = all_filtered (IsForwarded events) (IsForwarded later) test (λ f t k. asker f k) fs h
answered_less events later asker false test fs h = all_of (IsForwarded events) (IsForwarded later) asker fs h

-- what a start that ended had to answer is forgotten
ended_less : (later : List Event) (b : Bool) (x : Forwarding) → AllByRecursion (IsForwarded later) x.open_requests
    → AllByRecursion (IsForwarded later) (if b then no_forwarding else record { sender = None; next = x.next; open_requests = x.open_requests }).open_requests
ended_less later true x h = tt
ended_less later false x h = h

pub asked_took : (settings : Settings) (events : List Event) (cause : Cause) → fits_behind events cause ≡ true → Editors events → AllForwarded settings events → AllForwarded settings (with_cause events cause)
asked_took settings events (Joined e) fits none h = asked_still settings events (heard (Joined e)) (asker_heard events (Joined e) fits none) (λ s. refl) h
asked_took settings events (FromEditor e body) fits none h = asked_still settings events (heard (FromEditor e body)) (asker_heard events (FromEditor e body) fits none) (λ s. refl) h
asked_took settings events (Started n) fits none h = asked_still settings events (heard (Started n)) (asker_heard events (Started n) fits none) (λ s. refl) h
asked_took settings events (FromServer n body) fits none h = λ s. asked_by_list settings events (heard (FromServer n body)) (asker_heard events (FromServer n body) fits none) s _ refl
    (answered_less events (with_cause events (FromServer n body)) (asker_heard events (FromServer n body) fits none) (nat_eq n s) (λ f. not (answered_by (answered_id (message_of body)) f)) (forwarding_of settings s events).open_requests (h s))
asked_took settings events (Drained e k) fits none h = asked_still settings events (heard (Drained e k)) (asker_heard events (Drained e k) fits none) (λ s. refl) h
asked_took settings events (Tick t) fits none h = asked_still settings events (heard (Tick t)) (asker_heard events (Tick t) fits none) (λ s. refl) h
asked_took settings events (EditorGone e why) fits none h = asked_still settings events (heard (EditorGone e why)) (asker_heard events (EditorGone e why) fits none) (λ s. refl) h
asked_took settings events (StartFailed n) fits none h = λ s. asked_by_list settings events (heard (StartFailed n)) (asker_heard events (StartFailed n) fits none) s _ refl
    (ended_less (with_cause events (StartFailed n)) (nat_eq n s) (forwarding_of settings s events) (all_of (IsForwarded events) (IsForwarded (with_cause events (StartFailed n))) (asker_heard events (StartFailed n) fits none) (forwarding_of settings s events).open_requests (h s)))
asked_took settings events (ServerGone n) fits none h = λ s. asked_by_list settings events (heard (ServerGone n)) (asker_heard events (ServerGone n) fits none) s _ refl
    (ended_less (with_cause events (ServerGone n)) (nat_eq n s) (forwarding_of settings s events) (all_of (IsForwarded events) (IsForwarded (with_cause events (ServerGone n))) (asker_heard events (ServerGone n) fits none) (forwarding_of settings s events).open_requests (h s)))

-- A body to a start

module _ (settings : Settings) (before : List Event) (cause : Cause) (events : List Event) (n : ℕ) (body : List ℕ) where
  abbrev sent : List Event
  sent = events ++ said (ToServer n body) ∷ []

  abbrev Later : ℕ → Type 0
  Later s = AllByRecursion (IsForwarded events) (forwarding_of settings s events).open_requests → AllByRecursion (IsForwarded sent) (forwarding_of settings s sent).open_requests

  still : (fs : List Forwarded) → AllByRecursion (IsForwarded events) fs → AllByRecursion (IsForwarded sent) fs
  still fs h = all_of (IsForwarded events) (IsForwarded sent) (asker_said events (ToServer n body) (λ e. refl)) fs h

  -- the list of the open requests by what the body says
  by_message : (m : Message) → message_of body ≡ m → AllByRecursion (IsForwarded sent) (forwards (first_sender settings n events) (forwarding_of settings n events) m).open_requests → AllByRecursion (IsForwarded sent) (forwarding_of settings n sent).open_requests
  by_message m says h = subst (λ (x : Forwarding). AllByRecursion (IsForwarded sent) x.open_requests) (sym (forwarding_sent settings events n body m says)) h

  own_request : (id : Id) (method : List ℕ) (params : Option Json) → message_of body ≡ request id method params → is_own method ≡ true → Later n
  own_request id method params says own h = by_message (request id method params) says
      (subst (λ c. AllByRecursion (IsForwarded sent) (if c then forwarding_of settings n events else more_requests (first_sender settings n events) (forwarding_of settings n events)).open_requests) (sym own) (still (forwarding_of settings n events).open_requests h))

  notified : (method : List ℕ) (params : Option Json) → message_of body ≡ notification method params → Later n
  notified method params says h = by_message (notification method params) says (notified_all (first_sender settings n events) (forwarding_of settings n events) method params (λ k. IsAsker sent) (still (forwarding_of settings n events).open_requests h))

  numbered_known : (o : Option Sender) (a : Sender) (k : ℕ) → o ≡ Some a → IsAsker sent a.editor a.id → AllByRecursion (IsForwarded sent) (numbered o k)
  numbered_known o a k e known = subst (λ z. AllByRecursion (IsForwarded sent) (numbered z k)) (sym e) (known, tt)

  asked_on : IsForward settings before cause events n body → Later n
  asked_on k h = by_message (request (integer (decimal (forwarding_of settings n events).next)) k.method k.params) k.says
      (subst (λ c. AllByRecursion (IsForwarded sent) (if c then forwarding_of settings n events else more_requests (first_sender settings n events) (forwarding_of settings n events)).open_requests) (sym k.other)
      (all_join (IsForwarded sent) (forwarding_of settings n events).open_requests (numbered (asker_at settings n events) (forwarding_of settings n events).next) (still (forwarding_of settings n events).open_requests h)
      (numbered_known (asker_at settings n events) k.sender (forwarding_of settings n events).next k.at_work
      (asker_more events (said (ToServer n body)) (k.sender).editor (k.sender).id (record { id = k.id; text = k.text; late = k.late; waits = k.waits }) (late_said events (k.sender).editor k.late (ToServer n body)) k.waits))))

  one_asked : WhyToServer settings before cause events n body → Later n
  one_asked (begins k) h = own_request (integer (codes "1")) (codes "initialize") k.params k.says refl h
  one_asked (greets k) h = notified (codes "initialized") k.params k.says h
  one_asked (conveys k) h = notified (codes "workspace/didChangeConfiguration") k.params k.says h
  one_asked (forwarded k) h = asked_on k h
  one_asked (notes k) h = notified k.method k.params k.says h
  one_asked (tells k) h = let m : Spoken (message_of body) = spoken (message_of body) k.spoken in notified m.method m.params m.is h
  one_asked (cancels k) h = notified (codes "$/cancelRequest") (Some k.params) k.says h
  one_asked (cancels_work k) h = notified (codes "window/workDoneProgress/cancel") k.params k.says h
  one_asked (responds k) h = by_message (message_of body) refl (subst (λ (x : Forwarding). AllByRecursion (IsForwarded sent) x.open_requests) (sym (response_forwards (first_sender settings n events) (forwarding_of settings n events) (message_of body) k.response)) (still (forwarding_of settings n events).open_requests h))
  one_asked (resolves k) h = by_message (message_of body) refl (subst (λ (x : Forwarding). AllByRecursion (IsForwarded sent) x.open_requests) (sym (response_forwards (first_sender settings n events) (forwarding_of settings n events) (message_of body) k.response)) (still (forwarding_of settings n events).open_requests h))
  one_asked (exits k) h = notified (codes "exit") None k.says h
  one_asked (shuts k) h = own_request (integer (decimal (next_number n events))) (codes "shutdown") None k.says refl h

  pub asked_sent : WhyToServer settings before cause events n body → AllForwarded settings events → AllForwarded settings sent
  asked_sent why h s = each_start Later n (one_asked why)
      (λ s other k. subst (λ (x : Forwarding). AllByRecursion (IsForwarded sent) x.open_requests) (sym (forwarding_other settings events n body s other)) (still (forwarding_of settings s events).open_requests k)) s (h s)

-- any other out, but a body to an editor
pub asked_said : (settings : Settings) (events : List Event) (out : Out) → ((s : ℕ) → (forwarding_next settings s events (forwarding_of settings s events) (said out)).open_requests ≡ (forwarding_of settings s events).open_requests) → ((e : ℕ) → open_behind e (open_of e events) (said out) ≡ open_of e events)
    → AllForwarded settings events → AllForwarded settings (events ++ said out ∷ [])
asked_said settings events out same opens h = asked_still settings events (said out) (asker_said events out opens) same h

-- A body to an editor

module _ (settings : Settings) (before : List Event) (cause : Cause) (events : List Event) (n : ℕ) (body : List ℕ) where
  abbrev told : List Event
  told = events ++ said (ToEditor n body) ∷ []

  -- it leaves the request open, where it is to its editor
  by_open : (f : Forwarded) (k : IsForwarded events f) → (n ≡ f.editor → is_open k.id (without (answered_id (message_of body)) (open_of f.editor events)) ≡ true) → IsForwarded told f
  by_open f k h = asker_more events (said (ToEditor n body)) f.editor f.id k (late_said events f.editor k.late (ToEditor n body)) (go (nat_eq n f.editor) (λ same. h (number_same n f.editor same)))
    where
      go : (b : Bool) → (b ≡ true → is_open k.id (without (answered_id (message_of body)) (open_of f.editor events)) ≡ true) → is_open k.id (if b then without (answered_id (message_of body)) (open_of f.editor events) else open_of f.editor events) ≡ true
      go true g = g refl
      go false g = k.waits

  -- a response to another request
  by_alone : (id : Id) → answered_id (message_of body) ≡ Some id → (f : Forwarded) → (f.editor ≡ n → IsIdText id f.id → ⊥) → IsForwarded events f → IsForwarded told f
  by_alone id replies f alone k = by_open f k (λ same. ap (λ o. is_open k.id (without o (open_of f.editor events))) replies ∙ still_open id k.id (open_of f.editor events) k.waits (other (same_id id k.id) refl (sym same)))
    where
      other : (b : Bool) → same_id id k.id ≡ b → f.editor ≡ n → b ≡ false
      other true e same = absurd (alone same (subst (λ z. IsIdText z f.id) (sym (id_same id k.id e)) k.text))
      other false e same = refl

  -- an editor that waits has none
  by_waiting : (desk_of n events).phase ≡ Waiting → (f : Forwarded) → IsForwarded events f → IsForwarded told f
  by_waiting at f k = by_open f k (λ same. absurd (late_not (desk_of f.editor events).phase k.late (ap (λ z. (desk_of z events).phase) (sym same) ∙ at)))

  -- no response
  unanswered : (m : Message) → message_of body ≡ m → answered_id m ≡ None → AllForwarded settings events → AllForwarded settings told
  unanswered m says none h = asked_still settings events (said (ToEditor n body)) (λ f a. by_open f a (λ same. ap (λ o. is_open a.id (without o (open_of f.editor events))) (ap answered_id says ∙ none) ∙ a.waits)) (λ s. refl) h

  all_alone : (id : Id) → answered_id (message_of body) ≡ Some id → IsAlone settings events n id → AllForwarded settings events → AllForwarded settings told
  all_alone id replies alone h s = asked_list settings events (said (ToEditor n body)) s (forwarding_of settings s events).open_requests refl
      (zip_all (IsForwarded events) (λ (f : Forwarded). f.editor ≡ n → IsIdText id f.id → ⊥) (IsForwarded told) (λ f k a. by_alone id replies f a k) (forwarding_of settings s events).open_requests (h s) (alone s))

  pub asked_told : WhyToEditor settings before cause events n body → stopped events ≡ false → AllForwarded settings events → AllForwarded settings told
  asked_told (rejects k) on h = asked_still settings events (said (ToEditor n body)) (λ f a. by_open f a (λ same. ap (λ m. is_open a.id (without (answered_id m) (open_of f.editor events))) k.says ∙ a.waits)) (λ s. refl) h
  asked_told (refuses k) on h = all_alone k.id (ap answered_id k.says) k.alone h
  asked_told (answers k) on h = all_alone k.id (ap answered_id k.says) k.alone h
  asked_told (turns_away k) on h = asked_still settings events (said (ToEditor n body)) (by_waiting (k.waiting).phase) (λ s. refl) h
  asked_told (welcomes k) on h = asked_still settings events (said (ToEditor n body)) (by_waiting (k.waiting).phase) (λ s. refl) h
  asked_told (passes k) on h = all_alone k.id k.answers k.alone h
  asked_told (asks k) on h = unanswered (request (integer (decimal (next_ask n events))) k.method k.params) k.says refl h
  asked_told (resumes k) on h = unanswered (request (integer (decimal (next_ask n events))) k.method k.params) k.says refl h
  asked_told (pays k) on h = unanswered (request (integer (decimal (next_ask n events))) (k.debt).method k.params) k.says refl h
  asked_told (calls k) on h = unanswered (request (integer (decimal (next_ask n events))) k.method k.params) k.says refl h
  asked_told (spreads k) on h = unanswered (notification k.method k.params) k.says refl h
  asked_told (recalls k) on h = unanswered (notification (codes "$/cancelRequest") (Some k.params)) k.says refl h
  asked_told (progresses k) on h = unanswered (notification k.method k.params) k.says refl h
  asked_told (shows k) on h = unanswered (notification k.method k.params) k.says refl h
  asked_told (winds_up k) on h = unanswered (notification k.method (Some k.params)) k.says refl h
  asked_told (loses k) on h = never (sym k.over ∙ on)
