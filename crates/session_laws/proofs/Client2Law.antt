-- Each response to an editor has the id of an open request of it.
use Rattle.std.proofs.Common.{◌≡◌, ℕ, ◌+◌, ◌<◌, ◌≤◌, Bool, true, false, cond, List, [], ◌∷◌, ◌++◌, nat_eq, if◌then◌else◌, None, refl, sym, ◌∙◌, ap, subst, arith}
use Rattle.mux_history.specs.declared.cause.Cause.TheVariants.{Joined, FromEditor, EditorGone, Started, StartFailed, FromServer, ServerGone, Drained, Tick}
use Rattle.mux_history.specs.declared.out.Out.TheVariants.{ToEditor, ToServer, Spawn, CloseEditor, EndServer}
use Rattle.json_text.specs.Json.{Json}
use Rattle.rpc_message.specs.Message.{Message, request, notification, result, error, not_json, not_message, Id, message_of}
use Rattle.event_model.specs.Event.{Event, took, did, said, heard, with_cause}
use Rattle.event_model.specs.Phases.{is_malformed}
use Rattle.event_model.specs.Requests.{answered_id, open_of, open_behind, is_open, with_request, without}
use Rattle.event_model.specs.Always.{Always}
use Rattle.session_laws.specs.ClientRules.{IsAnswer, null_errors_of, null_errors_behind, malformed_of, malformed_behind, ClientRule2}
use Rattle.event_model.specs.Parts.{editor_part, is_of_editor}
use Rattle.mux_facts.proofs.Bodies.{IsResponseTo, is_result, is_error}
use Rattle.mux_facts.proofs.Rules.{rule_more, word_more, word_of_part}
use Rattle.mux_facts.proofs.Words.{number_same}
use Rattle.mux_history.specs.declared.cause.Cause.{Cause}

-- the rule holds, and no more errors under a null id went to e than malformed bodies came from it
pub record Here (e : ℕ) (events : List Event) : Type 0 where
  pub always : Always (ClientRule2 e) (editor_part e events)
  pub counted : null_errors_of (editor_part e events) ≤ malformed_of (editor_part e events)

abbrev pub Everywhere : List Event → Type 0
Everywhere events = (e : ℕ) → Here e events

-- what is open by the part is open
others_still : (e : ℕ) (ids : List Id) (event : Event) → is_of_editor e event ≡ false → open_behind e ids event ≡ ids
others_still e ids (took (FromEditor n body) m) h = ap (λ b. if b then with_request m ids else ids) h
others_still e ids (took (Joined n) m) h = refl
others_still e ids (took (EditorGone n why) m) h = refl
others_still e ids (took (Started s) m) h = refl
others_still e ids (took (StartFailed s) m) h = refl
others_still e ids (took (FromServer s body) m) h = refl
others_still e ids (took (ServerGone s) m) h = refl
others_still e ids (took (Drained n k) m) h = refl
others_still e ids (took (Tick t) m) h = refl
others_still e ids (did (ToEditor n body) m) h = ap (λ b. if b then without (answered_id m) ids else ids) h
others_still e ids (did (ToServer s body) m) h = refl
others_still e ids (did (Spawn s g) m) h = refl
others_still e ids (did (CloseEditor n) m) h = refl
others_still e ids (did (EndServer s) m) h = refl

open_by_part : (e : ℕ) (events : List Event) → open_of e (editor_part e events) ≡ open_of e events
open_by_part e events = word_of_part (open_behind e) (is_of_editor e) (others_still e) [] events

abbrev is_to_editor : Event → Bool
is_to_editor (did (ToEditor e body) m) = true
is_to_editor other = false

pub free : (e : ℕ) (part : List Event) (event : Event) → is_to_editor event ≡ false → ClientRule2 e part event
free e part (took cause m) h = tt
free e part (did (ToEditor n body) m) h = absurd (cc)
free e part (did (ToServer s body) m) h = tt
free e part (did (Spawn s g) m) h = tt
free e part (did (CloseEditor n) m) h = tt
free e part (did (EndServer s) m) h = tt

-- The two counts, behind one more event

cond_same : {A : Type 0} (b : Bool) (x y : A) → x ≡ y → cond b x y ≡ y
cond_same true x y h = h
cond_same false x y h = refl

cond_above : (b : Bool) (x y : ℕ) → y ≤ x → y ≤ cond b x y
cond_above true x y h = h
cond_above false x y h = omega arith

nulls_kept : (n : ℕ) (event : Event) → is_to_editor event ≡ false → null_errors_behind n event ≡ n
nulls_kept n (took cause m) h = refl
nulls_kept n (did (ToEditor e body) m) h = absurd (cc)
nulls_kept n (did (ToServer s body) m) h = refl
nulls_kept n (did (Spawn s g) m) h = refl
nulls_kept n (did (CloseEditor e) m) h = refl
nulls_kept n (did (EndServer s) m) h = refl

one_if : (b : Bool) (n : ℕ) → n ≤ (if b then n + 1 else n)
one_if true n = omega arith
one_if false n = omega arith

malformed_grows : (n : ℕ) (event : Event) → n ≤ malformed_behind n event
malformed_grows n (took (FromEditor e body) m) = one_if (is_malformed m) n
malformed_grows n (took (Joined e) m) = omega arith
malformed_grows n (took (EditorGone e why) m) = omega arith
malformed_grows n (took (Started s) m) = omega arith
malformed_grows n (took (StartFailed s) m) = omega arith
malformed_grows n (took (FromServer s body) m) = omega arith
malformed_grows n (took (ServerGone s) m) = omega arith
malformed_grows n (took (Drained e k) m) = omega arith
malformed_grows n (took (Tick t) m) = omega arith
malformed_grows n (did out m) = omega arith

module _ (e : ℕ) (events : List Event) (event : Event) where
  nulls_more : null_errors_of (editor_part e (events ++ event ∷ [])) ≡ cond (is_of_editor e event) (null_errors_behind (null_errors_of (editor_part e events)) event) (null_errors_of (editor_part e events))
  nulls_more = word_more null_errors_behind 0 (is_of_editor e) events event

  malformed_more : malformed_of (editor_part e (events ++ event ∷ [])) ≡ cond (is_of_editor e event) (malformed_behind (malformed_of (editor_part e events)) event) (malformed_of (editor_part e events))
  malformed_more = word_more malformed_behind 0 (is_of_editor e) events event

  nulls_still : null_errors_behind (null_errors_of (editor_part e events)) event ≡ null_errors_of (editor_part e events) → null_errors_of (editor_part e (events ++ event ∷ [])) ≡ null_errors_of (editor_part e events)
  nulls_still h = nulls_more ∙ cond_same (is_of_editor e event) (null_errors_behind (null_errors_of (editor_part e events)) event) (null_errors_of (editor_part e events)) h

  malformed_later : malformed_of (editor_part e events) ≤ malformed_of (editor_part e (events ++ event ∷ []))
  malformed_later = subst (λ n. malformed_of (editor_part e events) ≤ n) (sym malformed_more)
      (cond_above (is_of_editor e event) (malformed_behind (malformed_of (editor_part e events)) event) (malformed_of (editor_part e events)) (malformed_grows (malformed_of (editor_part e events)) event))

  -- an event that is no error under a null id
  more_of : (is_of_editor e event ≡ true → ClientRule2 e (editor_part e events) event) → null_errors_behind (null_errors_of (editor_part e events)) event ≡ null_errors_of (editor_part e events)
      → Here e events → Here e (events ++ event ∷ [])
  more_of rule kept h = record {
    always = rule_more (ClientRule2 e) (is_of_editor e) events event h.always rule;
    counted = let nulls = nulls_still kept in let later = malformed_later in let before = h.counted in omega (arith, nulls, later, before);
  }

pub more : (events : List Event) (event : Event) → is_to_editor event ≡ false → Everywhere events → Everywhere (events ++ event ∷ [])
more events event other h e = more_of e events event (λ same. free e (editor_part e events) event other) (nulls_kept (null_errors_of (editor_part e events)) event other) (h e)

-- a message of the sender's own, a request or a notification
abbrev pub is_own_word : Message → Bool
is_own_word (request id method params) = true
is_own_word (notification method params) = true
is_own_word _ = false

-- a response to an open request
answers : (ids : List Id) (sent malformed : ℕ) (id : Id) (m : Message) → IsResponseTo id m → is_open id ids ≡ true → IsAnswer ids sent malformed m
answers ids sent malformed id m (is_result r e) h = subst (IsAnswer ids sent malformed) (sym e) h
answers ids sent malformed id m (is_error x e) h = subst (IsAnswer ids sent malformed) (sym e) h

-- it is no error under a null id
not_null : (n k : ℕ) (body : List ℕ) (id : Id) (m : Message) → IsResponseTo id m → null_errors_behind n (did (ToEditor k body) m) ≡ n
not_null n k body id m (is_result r e) = ap (λ x. null_errors_behind n (did (ToEditor k body) x)) e
not_null n k body id m (is_error x e) = ap (λ x. null_errors_behind n (did (ToEditor k body) x)) e

pub to_editor : (events : List Event) (n : ℕ) (body : List ℕ) (id : Id) → IsResponseTo id (message_of body) → is_open id (open_of n events) ≡ true → Everywhere events → Everywhere (events ++ said (ToEditor n body) ∷ [])
to_editor events n body id response waits h e = more_of e events (said (ToEditor n body))
    (λ same. answers (open_of e (editor_part e events)) (null_errors_of (editor_part e events)) (malformed_of (editor_part e events)) id (message_of body) response
    (ap (is_open id) (open_by_part e events ∙ ap (λ k. open_of k events) (sym (number_same n e same))) ∙ waits))
    (not_null (null_errors_of (editor_part e events)) n body id (message_of body) response) (h e)

-- a request, or a notification
pub asks_editor : (events : List Event) (n : ℕ) (body : List ℕ) (m : Message) → message_of body ≡ m → is_own_word m ≡ true → Everywhere events → Everywhere (events ++ said (ToEditor n body) ∷ [])
asks_editor events n body m says own h e = more_of e events (said (ToEditor n body))
    (λ same. subst (IsAnswer (open_of e (editor_part e events)) (null_errors_of (editor_part e events)) (malformed_of (editor_part e events))) (sym says) (any_time m own))
    (ap (λ x. null_errors_behind (null_errors_of (editor_part e events)) (did (ToEditor n body) x)) says ∙ uncounted m own) (h e)
  where
    any_time : (m : Message) → is_own_word m ≡ true → IsAnswer (open_of e (editor_part e events)) (null_errors_of (editor_part e events)) (malformed_of (editor_part e events)) m
    any_time (request id method params) own = tt
    any_time (notification method params) own = tt
    any_time (result id r) own = absurd (cc)
    any_time (error id x) own = absurd (cc)
    any_time not_json own = absurd (cc)
    any_time not_message own = absurd (cc)

    uncounted : (m : Message) → is_own_word m ≡ true → null_errors_behind (null_errors_of (editor_part e events)) (did (ToEditor n body) m) ≡ null_errors_of (editor_part e events)
    uncounted (request id method params) own = refl
    uncounted (notification method params) own = refl
    uncounted (result id r) own = absurd (cc)
    uncounted (error id x) own = absurd (cc)
    uncounted not_json own = absurd (cc)
    uncounted not_message own = absurd (cc)

-- a malformed body, and the error under a null id that answers it
module _ (events : List Event) (n : ℕ) (body text : List ℕ) (x : Json) (malformed : is_malformed (message_of body) ≡ true) (says : message_of text ≡ error None x) where
  abbrev pub heard_it : List Event
  heard_it = events ++ took (FromEditor n body) (message_of body) ∷ []

  one_malformed : (e : ℕ) → nat_eq n e ≡ true → malformed_of (editor_part e heard_it) ≡ malformed_of (editor_part e events) + 1
  one_malformed e same = malformed_more e events (took (FromEditor n body) (message_of body))
      ∙ (ap (λ b. cond b (if is_malformed (message_of body) then malformed_of (editor_part e events) + 1 else malformed_of (editor_part e events)) (malformed_of (editor_part e events))) same
      ∙ ap (λ b. if b then malformed_of (editor_part e events) + 1 else malformed_of (editor_part e events)) malformed)

  no_null : (e : ℕ) → null_errors_of (editor_part e heard_it) ≡ null_errors_of (editor_part e events)
  no_null e = nulls_still e events (took (FromEditor n body) (message_of body)) refl

  fewer : (e : ℕ) → Here e events → nat_eq n e ≡ true → null_errors_of (editor_part e heard_it) < malformed_of (editor_part e heard_it)
  fewer e h same = let one = one_malformed e same in let none = no_null e in let before = h.counted in omega (arith, one, none, before)

  one_null : (e k : ℕ) → null_errors_behind k (said (ToEditor n text)) ≡ k + 1
  one_null e k = ap (λ m. null_errors_behind k (did (ToEditor n text) m)) says

  pub refused : Everywhere events → Everywhere (heard_it ++ said (ToEditor n text) ∷ [])
  refused h e = record {
    always = rule_more (ClientRule2 e) (is_of_editor e) heard_it (said (ToEditor n text)) taken.always
        (λ same. subst (IsAnswer (open_of e (editor_part e heard_it)) (null_errors_of (editor_part e heard_it)) (malformed_of (editor_part e heard_it))) (sym says) (fewer e (h e) same));
    counted = go (nat_eq n e) refl;
  }
    where
      taken : Here e heard_it
      taken = more events (took (FromEditor n body) (message_of body)) refl h e

      nulls : null_errors_of (editor_part e (heard_it ++ said (ToEditor n text) ∷ [])) ≡ cond (nat_eq n e) (null_errors_of (editor_part e heard_it) + 1) (null_errors_of (editor_part e heard_it))
      nulls = nulls_more e heard_it (said (ToEditor n text)) ∙ ap (λ k. cond (nat_eq n e) k (null_errors_of (editor_part e heard_it))) (one_null e (null_errors_of (editor_part e heard_it)))

      go : (b : Bool) → nat_eq n e ≡ b → null_errors_of (editor_part e (heard_it ++ said (ToEditor n text) ∷ [])) ≤ malformed_of (editor_part e (heard_it ++ said (ToEditor n text) ∷ []))
      go true same =
          let count = nulls ∙ ap (λ b. cond b (null_errors_of (editor_part e heard_it) + 1) (null_errors_of (editor_part e heard_it))) same in
          let less = fewer e (h e) same in
          let later = malformed_later e heard_it (said (ToEditor n text)) in
          omega (arith, count, less, later)
      go false same =
          let count = nulls ∙ ap (λ b. cond b (null_errors_of (editor_part e heard_it) + 1) (null_errors_of (editor_part e heard_it))) same in
          let before = taken.counted in
          let later = malformed_later e heard_it (said (ToEditor n text)) in
          omega (arith, count, before, later)

pub took_it : (before : List Event) (cause : Cause) → Everywhere before → Everywhere (with_cause before cause)
took_it before (Joined e) h = more before (heard (Joined e)) refl h
took_it before cause h = more before (heard cause) refl h

pub none_yet : Everywhere []
none_yet e = record { always = tt; counted = omega arith }
