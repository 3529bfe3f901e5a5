-- The tokens of an editor's open requests: each that is kept of a request at a start is one of an open request of the editor's part.
use Rattle.std.proofs.Common.{◌≡◌, ℕ, ◌+◌, Bool, true, false, not, List, [], ◌∷◌, ◌++◌, bytes_eq, codes, filter, map, nat_eq, if◌then◌else◌, Option, Some, None, refl, sym, ◌∙◌, ap, subst, append-nil, append_assoc}
use Rattle.std.specs.List.{AllByRecursion}
use Rattle.json_text.specs.Json.{Json}
use Rattle.mux_history.specs.declared.cause.Cause.{Cause}
use Rattle.mux_history.specs.declared.cause.Cause.TheVariants.{Joined, FromEditor, EditorGone, Started, StartFailed, FromServer, ServerGone, Drained, Tick}
use Rattle.mux_history.specs.declared.out.Out.{Out}
use Rattle.mux_history.specs.declared.out.Out.TheVariants.{ToEditor, ToServer, Spawn, CloseEditor, EndServer}
use Rattle.rpc_message.specs.Message.{Id, Message, request, notification, result, error, not_json, not_message, message_of}
use Rattle.rpc_message.specs.ValueTexts.{IsIdText}
use Rattle.event_model.specs.Event.{Event, behind, did, heard, said, same_id, with_cause}
use Rattle.event_model.specs.Members.{named_of}
use Rattle.event_model.specs.Parts.{is_of_editor}
use Rattle.event_model.specs.Requests.{answered_id, is_own}
use Rattle.event_model.specs.Settings.{Settings}
use Rattle.event_model.proofs.Frames.{never}
use Rattle.mux_facts.proofs.Lists.{all_filtered, all_of}
use Rattle.mux_facts.proofs.Words.{id_same, number_same}
use Rattle.session_laws.proofs.Client4Law.{is_told}
use Rattle.session_laws.proofs.Client6Law.{tokened, tokened_grows, tokened_left}
use Rattle.session_laws.proofs.Tokens.{holds}
use Rattle.group_rows.specs.Forwarded.{Forwarded, Forwarding, answered_by, cancelled_by, forwarding_next, forwarding_of, forwards, is_written, no_forwarding, numbered, Sender, sender_or, first_sender}
use Rattle.group_facts.specs.Facts.{AllForwarded, IsAlone, is_early}
use Rattle.group_facts.specs.Why.{WhyToEditor, answers, asks, calls, passes, progresses, recalls, refuses, rejects, resumes, shows, spreads, turns_away, welcomes, loses, winds_up, pays}
use Rattle.group_facts.proofs.Apart.{alone_early}
use Rattle.group_rows.proofs.Frames.{forwarding_more}
use Rattle.group_facts.proofs.Forwards.{zip_all}
use Rattle.group_rows.specs.StopRows.{stopped}

-- a token of this text is one of an open request under this id
pub record HasToken (e : ℕ) (id : Id) (events : List Event) (bytes : List ℕ) : Type 0 where
  pub token : Id
  pub text : IsIdText token bytes
  pub there : holds id token (tokened e events) ≡ true

-- those of a request that was sent on are
pub record IsTold (events : List Event) (f : Forwarded) : Type 0 where
  pub id : Id
  pub is : IsIdText id f.id
  pub work : (bytes : List ℕ) → f.work ≡ Some bytes → HasToken f.editor id events bytes
  pub partial : (bytes : List ℕ) → f.partial ≡ Some bytes → HasToken f.editor id events bytes

abbrev pub AllTold : List Event → List Forwarded → Type 0
AllTold events fs = AllByRecursion (IsTold events) fs

abbrev pub Ties : Settings → List Event → Type 0
Ties settings events = (s : ℕ) → AllTold events (forwarding_of settings s events).open_requests

-- Later

told_later : (events later : List Event) (f : Forwarded) (h : IsTold events f) → ((token : Id) → holds h.id token (tokened f.editor events) ≡ true → holds h.id token (tokened f.editor later) ≡ true) → IsTold later f
told_later events later f h more = record {
  id = h.id;
  is = h.is;
  work = λ bytes e. let k : HasToken f.editor h.id events bytes = h.work bytes e in record { token = k.token; text = k.text; there = more k.token k.there };
  partial = λ bytes e. let k : HasToken f.editor h.id events bytes = h.partial bytes e in record { token = k.token; text = k.text; there = more k.token k.there };
}

pub all_grown : (events : List Event) (event : Event) → is_told event ≡ false → (fs : List Forwarded) → AllTold events fs → AllTold (events ++ event ∷ []) fs
all_grown events event off fs h = all_of (IsTold events) (IsTold (events ++ event ∷ [])) (λ f k. told_later events (events ++ event ∷ []) f k (λ token there. tokened_grows f.editor events event off k.id token there)) fs h

-- The requests that are open at a start, behind one event

-- a message that is no editor's request
abbrev pub Adds : Message → Type 0
Adds (request id method ps) = is_own method ≡ true
Adds other = Unit {0}

module _ (settings : Settings) (events : List Event) where
  uncancelled : (j : Option Json) (f : Forwarded) (b : Bool) → IsTold events (if b then record f { cancelled = true } else f) → IsTold events f
  uncancelled j f true h = record { id = h.id; is = h.is; work = h.work; partial = h.partial }
  uncancelled j f false h = h

  cancelled : (f : Forwarded) (b : Bool) → IsTold events f → IsTold events (if b then record f { cancelled = true } else f)
  cancelled f true h = record { id = h.id; is = h.is; work = h.work; partial = h.partial }
  cancelled f false h = h

  all_cancelled : (j : Option Json) (fs : List Forwarded) → AllTold events fs → AllTold events (map (cancelled_by j) fs)
  all_cancelled j [] h = tt
  all_cancelled j (f ∷ fs) h = (cancelled f (is_written j f.number) h.0, all_cancelled j fs h.1)

  all_uncancelled : (j : Option Json) (fs : List Forwarded) → AllTold events (map (cancelled_by j) fs) → AllTold events fs
  all_uncancelled j [] h = tt
  all_uncancelled j (f ∷ fs) h = (uncancelled j f (is_written j f.number) h.0, all_uncancelled j fs h.1)

  all_front : (fs gs : List Forwarded) → AllTold events (fs ++ gs) → AllTold events fs
  all_front [] gs h = tt
  all_front (f ∷ fs) gs h = (h.0, all_front fs gs h.1)

  -- a message of a start that answers nothing leaves all of them
  pub unfiltered : (fs : List Forwarded) → AllTold events (filter (λ f. not (answered_by None f)) fs) → AllTold events fs
  unfiltered [] h = tt
  unfiltered (f ∷ fs) h = (h.0, unfiltered fs h.1)

  -- what holds behind outs holds of those that were open before
  forwards_back : (first : Option Sender) (x : Forwarding) (m : Message) → AllTold events (forwards first x m).open_requests → AllTold events x.open_requests
  forwards_back first x (request id method ps) h = go (is_own method) h
    where
      go : (b : Bool) → AllTold events (if b then x else record { sender = x.sender; next = x.next + 1; open_requests = x.open_requests ++ numbered (sender_or x.sender first) x.next }).open_requests → AllTold events x.open_requests
      go true k = k
      go false k = all_front x.open_requests (numbered (sender_or x.sender first) x.next) k
  forwards_back first x (notification method ps) h = go (bytes_eq method (codes "$/cancelRequest")) h
    where
      go : (b : Bool) → AllTold events (if b then record { sender = x.sender; next = x.next; open_requests = map (cancelled_by (named_of (codes "id") ps)) x.open_requests } else x).open_requests → AllTold events x.open_requests
      go true k = all_uncancelled (named_of (codes "id") ps) x.open_requests k
      go false k = k
  forwards_back first x (result id r) h = h
  forwards_back first x (error id r) h = h
  forwards_back first x not_json h = h
  forwards_back first x not_message h = h

  out_back : (s : ℕ) (before : List Event) (x : Forwarding) (out : Out) → AllTold events (forwarding_next settings s before x (said out)).open_requests → AllTold events x.open_requests
  out_back s before x (ToServer n body) h = go (nat_eq n s) h
    where
      go : (b : Bool) → AllTold events (if b then forwards (first_sender settings s before) x (message_of body) else x).open_requests → AllTold events x.open_requests
      go true k = forwards_back (first_sender settings s before) x (message_of body) k
      go false k = k
  out_back s before x (ToEditor e body) h = h
  out_back s before x (Spawn n g) h = h
  out_back s before x (CloseEditor e) h = h
  out_back s before x (EndServer n) h = h

  pub outs_back : (s : ℕ) (first : List Event) (outs : List Out) → AllTold events (forwarding_of settings s (behind first outs)).open_requests → AllTold events (forwarding_of settings s first).open_requests
  outs_back s first [] h = subst (λ z. AllTold events (forwarding_of settings s z).open_requests) (append-nil first) h
  outs_back s first (out ∷ outs) h = out_back s first (forwarding_of settings s first) out (subst (λ (x : Forwarding). AllTold events x.open_requests) (forwarding_more settings s first (said out))
      (outs_back s (first ++ said out ∷ []) outs (subst (λ z. AllTold events (forwarding_of settings s z).open_requests) (sym (append_assoc first (said out ∷ []) (map said outs))) h)))

  -- it adds none
  pub forwards_told : (first : Option Sender) (x : Forwarding) (m : Message) → Adds m → AllTold events x.open_requests → AllTold events (forwards first x m).open_requests
  forwards_told first x (request id method ps) own h = go (is_own method) own
    where
      go : (b : Bool) → b ≡ true → AllTold events (if b then x else record { sender = x.sender; next = x.next + 1; open_requests = x.open_requests ++ numbered (sender_or x.sender first) x.next }).open_requests
      go true k = h
      go false k = never (sym k)
  forwards_told first x (notification method ps) own h = go (bytes_eq method (codes "$/cancelRequest"))
    where
      go : (b : Bool) → AllTold events (if b then record { sender = x.sender; next = x.next; open_requests = map (cancelled_by (named_of (codes "id") ps)) x.open_requests } else x).open_requests
      go true = all_cancelled (named_of (codes "id") ps) x.open_requests h
      go false = h
  forwards_told first x (result id r) own h = h
  forwards_told first x (error id r) own h = h
  forwards_told first x not_json own h = h
  forwards_told first x not_message own h = h

  fewer : (b : Bool) (test : Forwarded → Bool) (fs : List Forwarded) → AllTold events fs → AllTold events (if b then filter test fs else fs)
  fewer true test fs h = all_filtered (IsTold events) (IsTold events) test (λ f on k. k) fs h
  fewer false test fs h = h

  ended : (b : Bool) (x : Forwarding) → AllTold events x.open_requests → AllTold events (if b then no_forwarding else record { sender = None; next = x.next; open_requests = x.open_requests }).open_requests
  ended true x h = tt
  ended false x h = h

  heard_told : (s : ℕ) (before : List Event) (x : Forwarding) (cause : Cause) → AllTold events x.open_requests → AllTold events (forwarding_next settings s before x (heard cause)).open_requests
  heard_told s before x (FromServer n body) h = fewer (nat_eq n s) (λ f. not (answered_by (answered_id (message_of body)) f)) x.open_requests h
  heard_told s before x (StartFailed n) h = ended (nat_eq n s) x h
  heard_told s before x (ServerGone n) h = ended (nat_eq n s) x h
  heard_told s before x (FromEditor e body) h = h
  heard_told s before x (Joined e) h = h
  heard_told s before x (EditorGone e why) h = h
  heard_told s before x (Started n) h = h
  heard_told s before x (Drained e k) h = h
  heard_told s before x (Tick t) h = h

pub ties_by : (settings : Settings) (events later : List Event) (event : Event) → later ≡ events ++ event ∷ [] → ((s : ℕ) → AllTold later (forwarding_next settings s events (forwarding_of settings s events) event).open_requests) → Ties settings later
ties_by settings events later event is h s = subst (λ (x : Forwarding). AllTold later x.open_requests) (sym (ap (forwarding_of settings s) is ∙ forwarding_more settings s events event)) (h s)

silent_cause : (cause : Cause) → is_told (heard cause) ≡ false
silent_cause (FromEditor e body) = refl
silent_cause (FromServer s body) = refl
silent_cause (Joined e) = refl
silent_cause (EditorGone e why) = refl
silent_cause (Started s) = refl
silent_cause (StartFailed s) = refl
silent_cause (ServerGone s) = refl
silent_cause (Drained e k) = refl
silent_cause (Tick t) = refl

pub ties_took : (settings : Settings) (before : List Event) (cause : Cause) → Ties settings before → Ties settings (with_cause before cause)
ties_took settings before cause h = ties_by settings before (with_cause before cause) (heard cause) refl
    (λ s. heard_told settings (with_cause before cause) s before (forwarding_of settings s before) cause (all_grown before (heard cause) (silent_cause cause) (forwarding_of settings s before).open_requests (h s)))

-- an out that is no body
pub ties_free : (settings : Settings) (events : List Event) (out : Out) → is_told (said out) ≡ false → ((s : ℕ) → (forwarding_next settings s events (forwarding_of settings s events) (said out)).open_requests ≡ (forwarding_of settings s events).open_requests) → Ties settings events → Ties settings (events ++ said out ∷ [])
ties_free settings events out off same h = ties_by settings events (events ++ said out ∷ []) (said out) refl
    (λ s. subst (AllTold (events ++ said out ∷ [])) (sym (same s)) (all_grown events (said out) off (forwarding_of settings s events).open_requests (h s)))

-- A body to an editor answers a request that is open at no start

some_same : {A : Type 0} (a b : A) → ◌≡◌ {A = Option A} (Some a) (Some b) → a ≡ b
some_same a b e = cc

each_of : {A : Type 0} (P : A → Type 0) → ((x : A) → P x) → (xs : List A) → AllByRecursion P xs
each_of P f [] = tt
each_of P f (x ∷ xs) = (f x, each_of P f xs)

module _ (settings : Settings) (before : List Event) (cause : Cause) (events : List Event) (n : ℕ) (body : List ℕ) where
  abbrev Alone : Type 0
  Alone = (i : Id) → answered_id (message_of body) ≡ Some i → IsAlone settings events n i

  none : answered_id (message_of body) ≡ None → Alone
  none at i h = absurd (let clash : ◌≡◌ {A = Option Id} None (Some i) = sym at ∙ h in cc)

  one : (id : Id) → answered_id (message_of body) ≡ Some id → IsAlone settings events n id → Alone
  one id at alone i h = subst (IsAlone settings events n) (some_same id i (sym at ∙ h)) alone

  pub alone_answered : stopped events ≡ false → AllForwarded settings events → WhyToEditor settings before cause events n body → Alone
  alone_answered on asked (rejects k) = none (ap answered_id k.says)
  alone_answered on asked (refuses k) = one k.id (ap answered_id k.says) k.alone
  alone_answered on asked (answers k) = one k.id (ap answered_id k.says) k.alone
  alone_answered on asked (turns_away k) = one k.id (ap answered_id k.says) (alone_early settings events asked n k.id (ap is_early (k.waiting).phase))
  alone_answered on asked (welcomes k) = one k.id (ap answered_id k.says) (alone_early settings events asked n k.id (ap is_early (k.waiting).phase))
  alone_answered on asked (passes k) = one k.id k.answers k.alone
  alone_answered on asked (asks k) = none (ap answered_id k.says)
  alone_answered on asked (resumes k) = none (ap answered_id k.says)
  alone_answered on asked (pays k) = none (ap answered_id k.says)
  alone_answered on asked (calls k) = none (ap answered_id k.says)
  alone_answered on asked (spreads k) = none (ap answered_id k.says)
  alone_answered on asked (recalls k) = none (ap answered_id k.says)
  alone_answered on asked (progresses k) = none (ap answered_id k.says)
  alone_answered on asked (shows k) = none (ap answered_id k.says)
  alone_answered on asked (winds_up k) = none (ap answered_id k.says)
  alone_answered on asked (loses k) = never (sym k.over ∙ on)

  abbrev sent : List Event
  sent = events ++ said (ToEditor n body) ∷ []

  apart_all : Alone → (s : ℕ) → AllByRecursion (λ (f : Forwarded). (i : Id) → answered_id (message_of body) ≡ Some i → f.editor ≡ n → IsIdText i f.id → ⊥) (forwarding_of settings s events).open_requests
  apart_all alone s = go (answered_id (message_of body)) refl
    where
      go : (o : Option Id) → answered_id (message_of body) ≡ o → AllByRecursion (λ (f : Forwarded). (i : Id) → answered_id (message_of body) ≡ Some i → f.editor ≡ n → IsIdText i f.id → ⊥) (forwarding_of settings s events).open_requests
      go None at = each_of (λ (f : Forwarded). (i : Id) → answered_id (message_of body) ≡ Some i → f.editor ≡ n → IsIdText i f.id → ⊥) (λ f i is same text. absurd (let clash : ◌≡◌ {A = Option Id} None (Some i) = sym at ∙ is in cc)) (forwarding_of settings s events).open_requests
      go (Some k) at = all_of (λ (f : Forwarded). f.editor ≡ n → IsIdText k f.id → ⊥) (λ (f : Forwarded). (i : Id) → answered_id (message_of body) ≡ Some i → f.editor ≡ n → IsIdText i f.id → ⊥)
          (λ f a i is same text. a same (subst (λ z. IsIdText z f.id) (some_same i k (sym is ∙ at)) text)) (forwarding_of settings s events).open_requests (alone k at s)

  told_one : (f : Forwarded) → IsTold events f → ((i : Id) → answered_id (message_of body) ≡ Some i → f.editor ≡ n → IsIdText i f.id → ⊥) → IsTold sent f
  told_one f h apart = told_later events sent f h (λ token there. tokened_left f.editor n events body (message_of body) h.id token other there)
    where
      other : is_of_editor f.editor (did (ToEditor n body) (message_of body)) ≡ true → (i : Id) → answered_id (message_of body) ≡ Some i → same_id i h.id ≡ false
      other same i is = go (same_id i h.id) refl
        where
          go : (b : Bool) → same_id i h.id ≡ b → b ≡ false
          go true e = absurd (apart i is (sym (number_same n f.editor same)) (subst (λ z. IsIdText z f.id) (sym (id_same i h.id e)) h.is))
          go false e = refl

  pub ties_told : stopped events ≡ false → AllForwarded settings events → WhyToEditor settings before cause events n body → Ties settings events → Ties settings sent
  ties_told on asked why h = ties_by settings events sent (said (ToEditor n body)) refl
      (λ s. zip_all (IsTold events) (λ (f : Forwarded). (i : Id) → answered_id (message_of body) ≡ Some i → f.editor ≡ n → IsIdText i f.id → ⊥) (IsTold sent) told_one (forwarding_of settings s events).open_requests (h s) (apart_all (alone_answered on asked why) s))
