-- The end of a session with a start: `shutdown`, its response, and `exit`.
use Rattle.std.proofs.Common.{◌≡◌, ℕ, ◌-◌, Bool, true, false, not, ◌&&◌, cond, List, [], ◌∷◌, ◌++◌, nat_eq, codes, decimal, bytes_eq, if◌then◌else◌, Option, refl, sym, ◌∙◌, ap, subst, arith}
use Rattle.std.proofs.lemmas.Slice.Eq.{bytes_eq-Decides}
use Rattle.json_text.specs.Json.{Json}
use Rattle.mux_history.specs.declared.cause.Cause.{Cause}
use Rattle.mux_history.specs.declared.cause.Cause.TheVariants.{Joined, FromEditor, EditorGone, Started, StartFailed, FromServer, ServerGone, Drained, Tick}
use Rattle.mux_history.specs.declared.out.Out.TheVariants.{ToEditor, ToServer, Spawn, CloseEditor, EndServer}
use Rattle.rpc_message.specs.Message.{Message, request, notification, result, error, not_json, not_message, Id, integer, message_of}
use Rattle.document_model.specs.Sayings.{saying_by, saying_of, speaks}
use Rattle.event_model.specs.declared.stage.Stage.{Stage}
use Rattle.event_model.specs.declared.stage.Stage.TheVariants.{Unspawned, Spawning, Initializing, Ready, Stopping, Ending, Ended}
use Rattle.event_model.specs.Event.{Event, took, did, requests, notifies, heard, said, with_cause}
use Rattle.event_model.specs.Parts.{server_part, is_of_server}
use Rattle.event_model.specs.Requests.{next_number, number_behind, number_told}
use Rattle.event_model.specs.Spawns.{starts_of}
use Rattle.event_model.specs.Stages.{Life, is_first_result, life_behind, life_of, stage_ending, stage_hears, stage_started, stage_told}
use Rattle.mux_facts.specs.Allowed.{is_response}
use Rattle.mux_facts.proofs.Folds.{life_more, number_more}
use Rattle.mux_facts.proofs.Rules.{word_more}
use Rattle.mux_facts.proofs.Starts.{Starts}
use Rattle.mux_facts.proofs.Words.{number_same, pick, pick_life, same_number}
use Rattle.session_laws.specs.ServerRules.{Farewell, ServerRule8, exited, farewell_behind, farewell_heard, farewell_of, farewell_told, may_exit, may_say, responds_to, serving, shut_down}
use Rattle.session_laws.proofs.PartLaws.{is_to_server}

pub free : (part : List Event) (event : Event) → is_to_server event ≡ false → ServerRule8 part event
free part (took cause m) h = tt
free part (did (ToServer s body) m) h = absurd (cc)
free part (did (ToEditor e body) m) h = tt
free part (did (Spawn s g) m) h = tt
free part (did (CloseEditor e) m) h = tt
free part (did (EndServer s) m) h = tt

-- the id of the last request of a start: of one that is to stop, of `shutdown`
abbrev pub last_id : ℕ → Id
last_id next = integer (decimal (next - 1))

-- how far a start's session is, by its stage and the number of its next request
abbrev pub Link : Stage → ℕ → Farewell → Type 0
Link Unspawned next w = w ≡ serving
Link Spawning next w = w ≡ serving
Link Initializing next w = w ≡ serving
Link Ready next w = w ≡ serving
Link Stopping next w = w ≡ shut_down (last_id next)
Link Ending next w = Unit {0}
Link Ended next w = Unit {0}

abbrev pub farewell : ℕ → List Event → Farewell
farewell s events = farewell_of (server_part s events)

abbrev pub TiedAt : ℕ → List Event → Type 0
TiedAt s events = Link (life_of s events).stage (next_number s events) (farewell s events)

pub farewell_more : (s : ℕ) (events : List Event) (event : Event) → farewell s (events ++ event ∷ []) ≡ cond (is_of_server s event) (farewell_behind (farewell s events) event) (farewell s events)
farewell_more s events event = word_more farewell_behind serving (is_of_server s) events event

pub more : (s : ℕ) (events : List Event) (event : Event)
    → Link (life_behind s (life_of s events) event).stage (number_behind s (next_number s events) event) (cond (is_of_server s event) (farewell_behind (farewell s events) event) (farewell s events)) → TiedAt s (events ++ event ∷ [])
more s events event h = subst (λ (l : Life). Link l.stage (next_number s (events ++ event ∷ [])) (farewell s (events ++ event ∷ []))) (sym (life_more s events event))
    (subst (λ n. Link (life_behind s (life_of s events) event).stage n (farewell s (events ++ event ∷ []))) (sym (number_more s events event))
    (subst (λ w. Link (life_behind s (life_of s events) event).stage (number_behind s (next_number s events) event) w) (sym (farewell_more s events event)) h))

-- A cause

abbrev pub is_stopping : Stage → Bool
is_stopping Stopping = true
is_stopping _ = false

-- a start responds to its `shutdown`
abbrev pub parts_now : List Event → Cause → ℕ → Bool
parts_now before (FromServer n body) s = nat_eq n s && (is_stopping (life_of n before).stage && responds_to (last_id (next_number n before)) (message_of body))
parts_now before other s = false

starts : (stage : Stage) (n : ℕ) (w : Farewell) → Link stage n w → Link (stage_started stage) n w
starts Spawning n w h = h
starts other n w h = h

first_or_not : (b : Bool) (n : ℕ) (w : Farewell) → w ≡ serving → Link (if b then Ready else Initializing) n w
first_or_not true n w h = h
first_or_not false n w h = h

hears : (stage : Stage) (n : ℕ) (w : Farewell) (m : Message) → (is_stopping stage && responds_to (last_id n) m) ≡ false → Link stage n w → Link (stage_hears stage m) n (farewell_heard w m)
hears Unspawned n w m none h = ap (λ z. farewell_heard z m) h
hears Spawning n w m none h = ap (λ z. farewell_heard z m) h
hears Initializing n w m none h = first_or_not (is_first_result m) n (farewell_heard w m) (ap (λ z. farewell_heard z m) h)
hears Ready n w m none h = ap (λ z. farewell_heard z m) h
hears Stopping n w m none h = ap (λ z. farewell_heard z m) h ∙ ap (λ b. if b then may_exit else shut_down (last_id n)) none
hears Ending n w m none h = tt
hears Ended n w m none h = tt

pub took_it : (before : List Event) (cause : Cause) (s : ℕ) → parts_now before cause s ≡ false → TiedAt s before → TiedAt s (with_cause before cause)
took_it before (Started n) s none h = more s before (heard (Started n)) (pick (λ x w. Link x (next_number s before) w) (nat_eq n s) (record { stage = stage_started (life_of s before).stage; started = true }) (life_of s before) (farewell s before) (farewell s before)
    (λ same. starts (life_of s before).stage (next_number s before) (farewell s before) h) h)
took_it before (FromServer n body) s none h = more s before (heard (FromServer n body)) (pick (λ x w. Link x (next_number s before) w) (nat_eq n s) (record { stage = stage_hears (life_of s before).stage (message_of body); started = (life_of s before).started }) (life_of s before)
    (farewell_heard (farewell s before) (message_of body)) (farewell s before) (λ same. hears (life_of s before).stage (next_number s before) (farewell s before) (message_of body) (silent same) h) h)
  where
    silent : nat_eq n s ≡ true → (is_stopping (life_of s before).stage && responds_to (last_id (next_number s before)) (message_of body)) ≡ false
    silent same = subst (λ k. (is_stopping (life_of k before).stage && responds_to (last_id (next_number k before)) (message_of body)) ≡ false) (number_same n s same)
        (ap (λ b. b && (is_stopping (life_of n before).stage && responds_to (last_id (next_number n before)) (message_of body))) (sym same) ∙ none)
took_it before (StartFailed n) s none h = more s before (heard (StartFailed n)) (pick (λ x w. Link x (next_number s before) w) (nat_eq n s) (record { stage = Ended; started = (life_of s before).started }) (life_of s before) (farewell s before) (farewell s before) (λ same. tt) h)
took_it before (ServerGone n) s none h = more s before (heard (ServerGone n)) (pick (λ x w. Link x (next_number s before) w) (nat_eq n s) (record { stage = Ended; started = (life_of s before).started }) (life_of s before) (farewell s before) (farewell s before) (λ same. tt) h)
took_it before (Joined e) s none h = more s before (heard (Joined e)) h
took_it before (FromEditor e body) s none h = more s before (heard (FromEditor e body)) h
took_it before (EditorGone e why) s none h = more s before (heard (EditorGone e why)) h
took_it before (Drained e k) s none h = more s before (heard (Drained e k)) h
took_it before (Tick t) s none h = more s before (heard (Tick t)) h

-- the start that responds may be sent `exit`
pub may_exit_now : (before : List Event) (n : ℕ) (body : List ℕ) → (life_of n before).stage ≡ Stopping → responds_to (last_id (next_number n before)) (message_of body) ≡ true → TiedAt n before → farewell n (with_cause before (FromServer n body)) ≡ may_exit
may_exit_now before n body at responds h = farewell_more n before (heard (FromServer n body)) ∙ ap (λ b. cond b (farewell_heard (farewell n before) (message_of body)) (farewell n before)) (same_number n)
    ∙ ap (λ w. farewell_heard w (message_of body)) (subst (λ x. Link x (next_number n before) (farewell n before)) at h) ∙ ap (λ b. if b then may_exit else shut_down (last_id (next_number n before))) responds

-- Outs

-- a body to n
pub told_more : (s : ℕ) (events : List Event) (n : ℕ) (body : List ℕ)
    → (nat_eq n s ≡ true → Link (stage_told (life_of s events).stage (message_of body)) (number_told (next_number s events) (message_of body)) (farewell_told (farewell s events) (message_of body))) → TiedAt s events → TiedAt s (events ++ said (ToServer n body) ∷ [])
told_more s events n body f h = more s events (said (ToServer n body)) (go (nat_eq n s) f)
  where
    go : (b : Bool) → (b ≡ true → Link (stage_told (life_of s events).stage (message_of body)) (number_told (next_number s events) (message_of body)) (farewell_told (farewell s events) (message_of body)))
        → Link (if b then record { stage = stage_told (life_of s events).stage (message_of body); started = (life_of s events).started } else life_of s events).stage (if b then number_told (next_number s events) (message_of body) else next_number s events)
        (cond b (farewell_told (farewell s events) (message_of body)) (farewell s events))
    go true g = g refl
    go false g = h

pub ending_link : (stage : Stage) (n : ℕ) (w : Farewell) → Link (stage_ending stage) n w
ending_link Ended n w = tt
ending_link other n w = tt

pub ended_more : (s : ℕ) (events : List Event) (n : ℕ) → TiedAt s events → TiedAt s (events ++ said (EndServer n) ∷ [])
ended_more s events n h = more s events (said (EndServer n)) (pick (λ x w. Link x (next_number s events) w) (nat_eq n s) (record { stage = stage_ending (life_of s events).stage; started = (life_of s events).started }) (life_of s events) (farewell s events) (farewell s events)
    (λ same. ending_link (life_of s events).stage (next_number s events) (farewell s events)) h)

-- that of a start which is to end
pub end_more : (s : ℕ) (events : List Event) → TiedAt s (events ++ said (EndServer s) ∷ [])
end_more s events = more s events (said (EndServer s)) (go (nat_eq s s) (same_number s))
  where
    go : (b : Bool) → b ≡ true → Link (if b then record { stage = stage_ending (life_of s events).stage; started = (life_of s events).started } else life_of s events).stage (next_number s events) (cond b (farewell s events) (farewell s events))
    go true same = ending_link (life_of s events).stage (next_number s events) (farewell s events)
    go false same = absurd (cc)

pub spawned_more : (s : ℕ) (events : List Event) (g : ℕ) → Starts events → TiedAt s events → TiedAt s (events ++ said (Spawn (starts_of events) g) ∷ [])
spawned_more s events g none h = more s events (said (Spawn (starts_of events) g)) (pick_life (λ x w. Link x (next_number s events) w) (nat_eq (starts_of events) s) (record { stage = Spawning; started = false }) (life_of s events) (farewell s events)
    (λ same. subst (λ x. Link x (next_number s events) (farewell s events)) (ap (λ (l : Life). l.stage) (none s (omega (arith, number_same (starts_of events) s same)))) h) h)

-- Bodies that are neither `shutdown` nor `exit`

pub record IsCalm (m : Message) : Type 0 where
  pub stays : requests (codes "shutdown") m ≡ false
  pub goes_on : notifies (codes "exit") m ≡ false

pub calm_says : (m : Message) → IsCalm m → may_say serving m ≡ true
calm_says m h = ap not h.goes_on

pub calm_told : (m : Message) → IsCalm m → farewell_told serving m ≡ serving
calm_told (request id method params) h = ap (λ b. if b then shut_down id else serving) h.stays
calm_told (notification method params) h = ap (λ b. if b then exited else serving) h.goes_on
calm_told (result id r) h = refl
calm_told (error id e) h = refl
calm_told not_json h = refl
calm_told not_message h = refl

-- what speaks of a document
speaks_calmly : (method : List ℕ) (params : Option Json) → speaks (saying_by method params) ≡ true → bytes_eq (codes "exit") method ≡ false
speaks_calmly method params h = go (bytes_eq (codes "exit") method) refl
  where
    go : (b : Bool) → bytes_eq (codes "exit") method ≡ b → b ≡ false
    go true e = absurd (let silent : speaks (saying_by (codes "exit") params) ≡ true = subst (λ w. speaks (saying_by w params) ≡ true) (sym ((bytes_eq-Decides (codes "exit") method).0 e)) h in cc)
    go false e = refl

pub spoken_calm : (m : Message) → speaks (saying_of m) ≡ true → IsCalm m
spoken_calm (notification method params) h = record { stays = refl; goes_on = speaks_calmly method params h }
spoken_calm (request id method params) h = absurd (cc)
spoken_calm (result id r) h = absurd (cc)
spoken_calm (error id e) h = absurd (cc)
spoken_calm not_json h = absurd (cc)
spoken_calm not_message h = absurd (cc)

pub response_calm : (m : Message) → is_response m ≡ true → IsCalm m
response_calm (result id r) h = record { stays = refl; goes_on = refl }
response_calm (error id e) h = record { stays = refl; goes_on = refl }
response_calm (request id method params) h = absurd (cc)
response_calm (notification method params) h = absurd (cc)
response_calm not_json h = absurd (cc)
response_calm not_message h = absurd (cc)
