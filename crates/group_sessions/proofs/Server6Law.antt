-- A cancel names a request that waits for its response: what a start has to answer, and wasn't cancelled, is among the requests of its part that may be named.
use Rattle.std.proofs.Common.{◌≡◌, ℕ, ◌+◌, Bool, true, false, not, ◌||◌, cond, List, [], ◌∷◌, ◌++◌, filter, map, nat_eq, codes, decimal, bytes_eq, if◌then◌else◌, Option, Some, None, IsTrue, refl, sym, ◌∙◌, ap, subst, subst₂}
use Rattle.std.specs.List.{AllByRecursion, list_any}
use Rattle.std.proofs.lemmas.Bool.{and_parts}
use Rattle.json_text.specs.Json.{Json, word, number, string, array, object}
use Rattle.document_model.specs.Sayings.{saying_of, speaks}
use Rattle.mux_history.specs.declared.cause.Cause.{Cause}
use Rattle.mux_history.specs.declared.cause.Cause.TheVariants.{Joined, FromEditor, EditorGone, Started, StartFailed, FromServer, ServerGone, Drained, Tick}
use Rattle.mux_history.specs.declared.entry.Entry.{Entry}
use Rattle.mux_history.specs.declared.out.Out.TheVariants.{ToEditor, ToServer, CloseEditor, EndServer, Spawn}
use Rattle.rpc_message.specs.Message.{Message, request, notification, result, error, not_json, not_message, Id, integer, text, is_integer, integer_if, message_of}
use Rattle.event_model.specs.Event.{Event, heard, said, with_cause}
use Rattle.event_model.specs.Members.{named_of}
use Rattle.event_model.specs.Parts.{is_of_server}
use Rattle.event_model.specs.Requests.{answered_id, is_open, is_own, without}
use Rattle.event_model.specs.Settings.{Settings}
use Rattle.event_model.specs.Spawns.{starts_of}
use Rattle.mux_facts.specs.Allowed.{is_response}
use Rattle.mux_facts.specs.Ranges.{InRange}
use Rattle.mux_facts.proofs.Lists.{all_filtered, all_join, all_of}
use Rattle.mux_facts.proofs.Words.{number_same, open_last, open_more, still_open}
use Rattle.session_laws.specs.ServerRules.{KeepsServer6, ServerRule6, cancelled_id, id_at, is_among, may_cancel, waiting_behind, waiting_told}
use Rattle.session_laws.proofs.Server6Law.{free, response_free, spoken_free, waiting, waiting_more}
use Rattle.group_rows.specs.Forwarded.{Forwarded, Forwarding, Sender, answered_by, cancelled_by, first_sender, forwarding_next, forwarding_of, forwards, is_written, names, numbered, sender_or}
use Rattle.group_rows.proofs.Going.{not_cancel}
use Rattle.group_facts.specs.Legal.{Legal}
use Rattle.group_facts.specs.Why.{WhyToServer, begins, greets, conveys, forwarded, notes, tells, shuts, cancels, is_uncancelled, responds, exits, resolves, cancels_work}
use Rattle.group_rows.proofs.Frames.{forwarding_more}
use Rattle.group_facts.proofs.RestLaws.{Inside, Law}
use Rattle.group_sessions.proofs.PartLaws.{ServerRule, server_history}

-- it may be named, unless it was cancelled
abbrev Named : List Id → Forwarded → Type 0
Named ids f = f.cancelled ≡ false → is_open (integer (decimal f.number)) ids ≡ true

abbrev TiedTo : Forwarding → List Id → Type 0
TiedTo x ids = AllByRecursion (Named ids) x.open_requests

abbrev Ties : Settings → List Event → Type 0
Ties settings events = (s : ℕ) → TiedTo (forwarding_of settings s events) (waiting s events)

more : (settings : Settings) (s : ℕ) (events : List Event) (event : Event) → TiedTo (forwarding_next settings s events (forwarding_of settings s events) event) (cond (is_of_server s event) (waiting_behind (waiting s events) event) (waiting s events)) → TiedTo (forwarding_of settings s (events ++ event ∷ [])) (waiting s (events ++ event ∷ []))
more settings s events event h = subst₂ TiedTo (sym (forwarding_more settings s events event)) (sym (waiting_more s events event)) h

either : (b : Bool) (x : Forwarding) (ids : List Id) → TiedTo x ids → TiedTo x (cond b ids ids)
either true x ids h = h
either false x ids h = h

-- What a response, or a cancel, leaves

not_so : (b : Bool) → not b ≡ true → b ≡ false
not_so true h = absurd (cc)
not_so false h = refl

unanswered : (k : Option Id) (n : ℕ) (ids : List Id) → not (names k n) ≡ true → is_open (integer (decimal n)) ids ≡ true → is_open (integer (decimal n)) (without k ids) ≡ true
unanswered None n ids other h = h
unanswered (Some (integer digits)) n ids other h = still_open (integer digits) (integer (decimal n)) ids h (not_so (bytes_eq digits (decimal n)) other)
unanswered (Some (text characters)) n ids other h = still_open (text characters) (integer (decimal n)) ids h refl

unnamed : (j : Option Json) (n : ℕ) (ids : List Id) → is_written j n ≡ false → is_open (integer (decimal n)) ids ≡ true → is_open (integer (decimal n)) (without (id_at j) ids) ≡ true
unnamed None n ids other h = h
unnamed (Some (number s digits)) n ids other h = go (is_integer digits)
  where
    go : (b : Bool) → is_open (integer (decimal n)) (without (integer_if b digits) ids) ≡ true
    go true = still_open (integer digits) (integer (decimal n)) ids h other
    go false = h
unnamed (Some (string s characters)) n ids other h = still_open (text characters) (integer (decimal n)) ids h refl
unnamed (Some (word s w)) n ids other h = h
unnamed (Some (array s js)) n ids other h = h
unnamed (Some (object s ms)) n ids other h = h

cancelled_all : (j : Option Json) (ids : List Id) (fs : List Forwarded) → AllByRecursion (Named ids) fs → AllByRecursion (Named (without (id_at j) ids)) (map (cancelled_by j) fs)
cancelled_all j ids [] h = tt
cancelled_all j ids (f ∷ fs) h = (go (is_written j f.number) refl, cancelled_all j ids fs h.1)
  where
    go : (b : Bool) → is_written j f.number ≡ b → Named (without (id_at j) ids) (if b then record f { cancelled = true } else f)
    go true e = λ open_still. absurd (cc)
    go false e = λ open_still. unnamed j f.number ids e (h.0 open_still)

-- A cause

hears : (n s : ℕ) (m : Message) (x : Forwarding) (ids : List Id) → TiedTo x ids
    → AllByRecursion (Named (cond (nat_eq n s) (without (answered_id m) ids) ids)) (if nat_eq n s then filter (λ f. not (answered_by (answered_id m) f)) x.open_requests else x.open_requests)
hears n s m x ids h = go (nat_eq n s)
  where
    go : (b : Bool) → AllByRecursion (Named (cond b (without (answered_id m) ids) ids)) (if b then filter (λ f. not (answered_by (answered_id m) f)) x.open_requests else x.open_requests)
    go true = all_filtered (Named ids) (Named (without (answered_id m) ids)) (λ f. not (answered_by (answered_id m) f)) (λ f other k open_still. unanswered (answered_id m) f.number ids other (k open_still)) x.open_requests h
    go false = h

ends : (n s : ℕ) (x : Forwarding) (ids : List Id) → TiedTo x ids → TiedTo (if nat_eq n s then record { sender = None; next = 2; open_requests = [] } else record { sender = None; next = x.next; open_requests = x.open_requests }) (cond (nat_eq n s) ids ids)
ends n s x ids h = go (nat_eq n s)
  where
    go : (b : Bool) → TiedTo (if b then record { sender = None; next = 2; open_requests = [] } else record { sender = None; next = x.next; open_requests = x.open_requests }) (cond b ids ids)
    go true = tt
    go false = h

took_it : (settings : Settings) (before : List Event) (cause : Cause) → Ties settings before → Ties settings (with_cause before cause)
took_it settings before (FromServer n body) h s = more settings s before (heard (FromServer n body)) (hears n s (message_of body) (forwarding_of settings s before) (waiting s before) (h s))
took_it settings before (StartFailed n) h s = more settings s before (heard (StartFailed n)) (ends n s (forwarding_of settings s before) (waiting s before) (h s))
took_it settings before (ServerGone n) h s = more settings s before (heard (ServerGone n)) (ends n s (forwarding_of settings s before) (waiting s before) (h s))
took_it settings before (Started n) h s = more settings s before (heard (Started n)) (either (nat_eq n s) (forwarding_of settings s before) (waiting s before) (h s))
took_it settings before (FromEditor e body) h s = more settings s before (heard (FromEditor e body)) (h s)
took_it settings before (Joined e) h s = more settings s before (heard (Joined e)) (h s)
took_it settings before (EditorGone e why) h s = more settings s before (heard (EditorGone e why)) (h s)
took_it settings before (Drained e k) h s = more settings s before (heard (Drained e k)) (h s)
took_it settings before (Tick t) h s = more settings s before (heard (Tick t)) (h s)

-- A body to a start

-- a request of an editor has the next number
abbrev IsNumbered : ℕ → Message → Type 0
IsNumbered n (request id method params) = is_own method ≡ false → id ≡ integer (decimal n)
IsNumbered n other = Unit {0}

all_more : (ids : List Id) (id : Id) (fs : List Forwarded) → AllByRecursion (Named ids) fs → AllByRecursion (Named (ids ++ id ∷ [])) fs
all_more ids id fs h = all_of (Named ids) (Named (ids ++ id ∷ [])) (λ f k open_still. open_more (integer (decimal f.number)) ids (id ∷ []) (k open_still)) fs h

one_more : (ids : List Id) (id : Id) (o : Option Sender) (n : ℕ) → id ≡ integer (decimal n) → AllByRecursion (Named (ids ++ id ∷ [])) (numbered o n)
one_more ids id None n is = tt
one_more ids id (Some sender) n is = (λ open_still. subst (λ z. is_open z (ids ++ id ∷ []) ≡ true) is (open_last id ids), tt)

told : (first : Option Sender) (x : Forwarding) (ids : List Id) (m : Message) → IsNumbered x.next m → TiedTo x ids → TiedTo (forwards first x m) (waiting_told ids m)
told first x ids (request id method params) next_is h = go (is_own method) refl
  where
    go : (b : Bool) → is_own method ≡ b → TiedTo (if b then x else record { sender = x.sender; next = x.next + 1; open_requests = x.open_requests ++ numbered (sender_or x.sender first) x.next }) (ids ++ id ∷ [])
    go true own = all_more ids id x.open_requests h
    go false other = all_join (Named (ids ++ id ∷ [])) x.open_requests (numbered (sender_or x.sender first) x.next) (all_more ids id x.open_requests h) (one_more ids id (sender_or x.sender first) x.next (next_is other))
told first x ids (notification method params) next_is h = go (bytes_eq method (codes "$/cancelRequest"))
  where
    go : (b : Bool) → TiedTo (if b then record { sender = x.sender; next = x.next; open_requests = map (cancelled_by (named_of (codes "id") params)) x.open_requests } else x) (if b then without (cancelled_id params) ids else ids)
    go true = cancelled_all (named_of (codes "id") params) ids x.open_requests h
    go false = h
told first x ids (result id r) next_is h = h
told first x ids (error id e) next_is h = h
told first x ids not_json next_is h = h
told first x ids not_message next_is h = h

sent_it : (settings : Settings) (events : List Event) (n : ℕ) (body : List ℕ) → IsNumbered (forwarding_of settings n events).next (message_of body) → Ties settings events → Ties settings (events ++ said (ToServer n body) ∷ [])
sent_it settings events n body next_is h s = more settings s events (said (ToServer n body)) (go (nat_eq n s) refl)
  where
    go : (b : Bool) → nat_eq n s ≡ b → TiedTo (if b then forwards (first_sender settings s events) (forwarding_of settings s events) (message_of body) else forwarding_of settings s events) (cond b (waiting_told (waiting s events) (message_of body)) (waiting s events))
    go true same = told (first_sender settings s events) (forwarding_of settings s events) (waiting s events) (message_of body) (subst (λ k. IsNumbered (forwarding_of settings k events).next (message_of body)) (number_same n s same) next_is) (h s)
    go false other = h s

response_numbered : (n : ℕ) (m : Message) → is_response m ≡ true → IsNumbered n m
response_numbered n (result id r) h = tt
response_numbered n (error id e) h = tt
response_numbered n (request id method params) h = absurd (cc)
response_numbered n (notification method params) h = tt
response_numbered n not_json h = tt
response_numbered n not_message h = tt

spoken_numbered : (n : ℕ) (m : Message) → speaks (saying_of m) ≡ true → IsNumbered n m
spoken_numbered n (notification method params) h = tt
spoken_numbered n (request id method params) h = absurd (cc)
spoken_numbered n (result id r) h = tt
spoken_numbered n (error id e) h = tt
spoken_numbered n not_json h = tt
spoken_numbered n not_message h = tt

-- a request that waits, and wasn't cancelled, may be named
may_name : (n : ℕ) (ids : List Id) (fs : List Forwarded) → AllByRecursion (Named ids) fs → list_any (is_uncancelled n) fs ≡ true → is_open (integer (decimal n)) ids ≡ true
may_name n ids [] h some = absurd (cc)
may_name n ids (f ∷ fs) h some = go (is_uncancelled n f) refl (λ e. may_name n ids fs h.1 e) some
  where
    go : (b : Bool) → is_uncancelled n f ≡ b → (list_any (is_uncancelled n) fs ≡ true → is_open (integer (decimal n)) ids ≡ true) → (b || list_any (is_uncancelled n) fs) ≡ true → is_open (integer (decimal n)) ids ≡ true
    go true here later e = let p = and_parts (nat_eq f.number n) (not f.cancelled) here in
        subst (λ k. is_open (integer (decimal k)) ids ≡ true) (number_same f.number n p.0) (h.0 (not_so f.cancelled p.1))
    go false here later e = later e

module _ (settings : Settings) (before : List Event) (cause : Cause) (events : List Event) (s : ℕ) (body : List ℕ) where
  numbered_by : WhyToServer settings before cause events s body → IsNumbered (forwarding_of settings s events).next (message_of body)
  numbered_by (begins k) = subst (IsNumbered (forwarding_of settings s events).next) (sym k.says) (λ other. absurd (cc))
  numbered_by (shuts k) = subst (IsNumbered (forwarding_of settings s events).next) (sym k.says) (λ other. absurd (cc))
  numbered_by (forwarded k) = subst (IsNumbered (forwarding_of settings s events).next) (sym k.says) (λ other. refl)
  numbered_by (greets k) = subst (IsNumbered (forwarding_of settings s events).next) (sym k.says) tt
  numbered_by (conveys k) = subst (IsNumbered (forwarding_of settings s events).next) (sym k.says) tt
  numbered_by (cancels k) = subst (IsNumbered (forwarding_of settings s events).next) (sym k.says) tt
  numbered_by (cancels_work k) = subst (IsNumbered (forwarding_of settings s events).next) (sym k.says) tt
  numbered_by (exits k) = subst (IsNumbered (forwarding_of settings s events).next) (sym k.says) tt
  numbered_by (notes k) = subst (IsNumbered (forwarding_of settings s events).next) (sym k.says) tt
  numbered_by (tells k) = spoken_numbered (forwarding_of settings s events).next (message_of body) k.spoken
  numbered_by (resolves k) = response_numbered (forwarding_of settings s events).next (message_of body) k.response
  numbered_by (responds k) = response_numbered (forwarding_of settings s events).next (message_of body) k.response

  abbrev May : Message → Type 0
  May m = IsTrue (may_cancel (waiting s events) m)

  may_send : WhyToServer settings before cause events s body → Ties settings events → May (message_of body)
  may_send (begins k) h = subst May (sym k.says) refl
  may_send (shuts k) h = subst May (sym k.says) refl
  may_send (forwarded k) h = subst May (sym k.says) refl
  may_send (greets k) h = subst May (sym k.says) refl
  may_send (conveys k) h = subst May (sym k.says) refl
  may_send (exits k) h = subst May (sym k.says) refl
  may_send (notes k) h = subst May (sym k.says) (ap (λ b. not b || is_among (cancelled_id k.params) (waiting s events)) (not_cancel k.method k.going))
  may_send (tells k) h = spoken_free (waiting s events) (message_of body) k.spoken
  may_send (responds k) h = response_free (waiting s events) (message_of body) k.response
  may_send (resolves k) h = response_free (waiting s events) (message_of body) k.response
  may_send (cancels k) h = subst May (sym k.says) (ap (λ j. is_among (id_at j) (waiting s events)) k.named ∙ ap (λ i. is_among i (waiting s events)) k.id ∙ may_name k.number (waiting s events) (forwarding_of settings s events).open_requests (h s) k.waits)
  may_send (cancels_work k) h = subst May (sym k.says) refl

law : (settings : Settings) → Law settings (Ties settings)
law settings = record {
  took = λ before cause fits known h. took_it settings before cause h;
  to_editor = λ before cause events e body why known here h i. λ s. more settings s events (said (ToEditor e body)) (i s);
  to_server = λ before cause events n body why known here h i. sent_it settings events n body (numbered_by settings before cause events n body why) i;
  close = λ before cause events e turned there known here h i. λ s. more settings s events (said (CloseEditor e)) (i s);
  end = λ before cause events n starting known here h i. λ s. more settings s events (said (EndServer n)) (either (nat_eq n s) (forwarding_of settings s events) (waiting s events) (i s));
  spawn = λ before cause events g inside known here h i. λ s. more settings s events (said (Spawn (starts_of events) g)) (i s);
  rest = λ before cause fits known h i. i;
  turn = λ place e slow known h. h;
  left = λ place e slow known h i. i;
}

rule : (settings : Settings) → ServerRule settings (Ties settings) (Inside (Ties settings)) ServerRule6
rule settings = record {
  law = law settings;
  free = free;
  sent = λ before cause events s body why known here h i. may_send settings before cause events s body why i;
}

pub server_6_law : (settings : Settings) → InRange settings → (history : List Entry) → Legal settings history → KeepsServer6 history
server_6_law settings range history legal = server_history settings (Ties settings) (Inside (Ties settings)) ServerRule6 (rule settings) range (λ s. tt) history legal
