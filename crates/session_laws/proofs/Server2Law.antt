-- The handshake with a start.
use Rattle.std.proofs.Common.{◌≡◌, ℕ, Bool, true, false, not, ◌&&◌, List, codes, IsTrue, if◌then◌else◌, refl, sym, ◌∙◌, ap, ap₂, subst, arith, cond, [], ◌∷◌, ◌++◌, nat_eq, subst₂}
use Rattle.mux_history.specs.declared.cause.Cause.TheVariants.{Started, FromServer, StartFailed, ServerGone}
use Rattle.mux_history.specs.declared.out.Out.TheVariants.{ToEditor, ToServer, Spawn, CloseEditor, EndServer}
use Rattle.rpc_message.specs.Message.{Message, not_message, message_of}
use Rattle.event_model.specs.declared.stage.Stage.{Stage}
use Rattle.event_model.specs.declared.stage.Stage.TheVariants.{Unspawned, Spawning, Initializing, Ready, Stopping, Ending, Ended}
use Rattle.event_model.specs.Event.{Event, took, did, requests, heard, said, with_cause}
use Rattle.event_model.specs.Settings.{Settings}
use Rattle.event_model.specs.Stages.{stage_started, stage_hears, stage_told, is_first_result, Life, life_of, life_behind, is_spawning, is_initializing}
use Rattle.document_model.specs.Sayings.{saying_of, speaks}
use Rattle.document_model.proofs.Written.{Spoken, spoken}
use Rattle.mux_facts.specs.Ranges.{InRange}
use Rattle.session_laws.specs.ServerRules.{Handshake, silent, asked, answered, open_to_all, handshake_behind, allows, ServerRule2, handshake_of}
use Rattle.mux_facts.proofs.Why.{moves}
use Rattle.session_laws.proofs.PartLaws.{is_to_server}
use Rattle.mux_history.specs.declared.cause.Cause.{Cause}
use Rattle.event_model.specs.Spawns.{starts_of}
use Rattle.event_model.specs.Parts.{server_part, is_of_server}
use Rattle.mux_facts.proofs.Folds.{life_more}
use Rattle.mux_facts.proofs.Rules.{word_more}
use Rattle.mux_facts.proofs.Starts.{Starts}
use Rattle.mux_facts.proofs.Words.{pick, pick_life, same_number, number_same}

abbrev pub Link : Stage → Handshake → Type 0
Link Unspawned w = w ≡ silent
Link Spawning w = w ≡ silent
Link Initializing w = w ≡ asked
Link Ready w = w ≡ open_to_all
Link Stopping w = w ≡ open_to_all
Link Ending w = Unit {0}
Link Ended w = Unit {0}

abbrev Allows : Handshake → Message → Type 0
Allows w m = IsTrue (allows w m)

pub free : (part : List Event) (event : Event) → is_to_server event ≡ false → ServerRule2 part event
free part (took cause m) h = tt
free part (did (ToServer s body) m) h = absurd (cc)
free part (did (ToEditor e body) m) h = tt
free part (did (Spawn s g) m) h = tt
free part (did (CloseEditor e) m) h = tt
free part (did (EndServer s) m) h = tt

pub starts : (stage : Stage) (w : Handshake) (n : ℕ) → is_spawning stage ≡ false → Link stage w → Link (stage_started stage) (handshake_behind w (took (Started n) not_message))
starts Unspawned w n other h = ap (λ z. handshake_behind z (took (Started n) not_message)) h
starts Spawning w n other h = absurd (cc)
starts Initializing w n other h = ap (λ z. handshake_behind z (took (Started n) not_message)) h
starts Ready w n other h = ap (λ z. handshake_behind z (took (Started n) not_message)) h
starts Stopping w n other h = ap (λ z. handshake_behind z (took (Started n) not_message)) h
starts Ending w n other h = tt
starts Ended w n other h = tt

no_answer : (b : Bool) → b ≡ false → Link (if b then Ready else Initializing) (if b then answered else asked)
no_answer true e = absurd (cc)
no_answer false e = refl

pub hears : (stage : Stage) (w : Handshake) (n : ℕ) (body : List ℕ) (m : Message) → (is_initializing stage && is_first_result m) ≡ false → Link stage w
    → Link (stage_hears stage m) (handshake_behind w (took (FromServer n body) m))
hears Unspawned w n body m other h = ap (λ z. handshake_behind z (took (FromServer n body) m)) h
hears Spawning w n body m other h = ap (λ z. handshake_behind z (took (FromServer n body) m)) h
hears Initializing w n body m other h = subst (λ z. Link (if is_first_result m then Ready else Initializing) (handshake_behind z (took (FromServer n body) m))) (sym h) (no_answer (is_first_result m) other)
hears Ready w n body m other h = ap (λ z. handshake_behind z (took (FromServer n body) m)) h
hears Stopping w n body m other h = ap (λ z. handshake_behind z (took (FromServer n body) m)) h
hears Ending w n body m other h = tt
hears Ended w n body m other h = tt

pub still_open : (b : Bool) (w : Handshake) → w ≡ open_to_all → Link (if b then Stopping else Ready) w
still_open true w h = h
still_open false w h = h

module _ (settings : Settings) (range : InRange settings) where
  pub tells_on : (w : Handshake) (n : ℕ) (body : List ℕ) (m : Message) → speaks (saying_of m) ≡ true → w ≡ open_to_all → Allows w m × Link (stage_told Ready m) (handshake_behind w (did (ToServer n body) m))
  tells_on w n body m says h = let s : Spoken m = spoken m says in
      (ap₂ allows h s.is ∙ ap not s.other, still_open (requests (codes "shutdown") m) (handshake_behind w (did (ToServer n body) m)) (ap (λ z. handshake_behind z (did (ToServer n body) m)) h))

abbrev pub hand : ℕ → List Event → Handshake
hand s events = handshake_of (server_part s events)

abbrev pub HandAt : ℕ → List Event → Type 0
HandAt s events = Link (life_of s events).stage (hand s events)

pub hand_more : (s : ℕ) (events : List Event) (event : Event) → hand s (events ++ event ∷ []) ≡ cond (is_of_server s event) (handshake_behind (hand s events) event) (hand s events)
hand_more s events event = word_more handshake_behind silent (is_of_server s) events event

pub more : (s : ℕ) (events : List Event) (event : Event) → Link (life_behind s (life_of s events) event).stage (cond (is_of_server s event) (handshake_behind (hand s events) event) (hand s events)) → HandAt s (events ++ event ∷ [])
more s events event f = subst₂ (λ (l : Life) w. Link l.stage w) (sym (life_more s events event)) (sym (hand_more s events event)) f

-- a start whose program begins, and one that answers its `initialize`

pub begun_stage : (before : List Event) (s : ℕ) → (life_of s before).stage ≡ Spawning → (life_of s (with_cause before (Started s))).stage ≡ Initializing
begun_stage before s at = ap (λ (l : Life). l.stage) (life_more s before (heard (Started s)))
    ∙ ap (λ b. (if b then record { stage = stage_started (life_of s before).stage; started = true } else life_of s before).stage) (same_number s) ∙ ap stage_started at

pub begun_hand : (before : List Event) (s : ℕ) → hand s before ≡ silent → hand s (with_cause before (Started s)) ≡ silent
begun_hand before s h = hand_more s before (heard (Started s)) ∙ ap (λ b. cond b (handshake_behind (hand s before) (heard (Started s))) (hand s before)) (same_number s) ∙ ap (λ w. handshake_behind w (heard (Started s))) h

pub greeted_hand : (before : List Event) (s : ℕ) (body : List ℕ) → is_first_result (message_of body) ≡ true → hand s before ≡ asked → hand s (with_cause before (FromServer s body)) ≡ answered
greeted_hand before s body first h = hand_more s before (heard (FromServer s body)) ∙ ap (λ b. cond b (handshake_behind (hand s before) (heard (FromServer s body))) (hand s before)) (same_number s)
    ∙ ap (λ w. handshake_behind w (heard (FromServer s body))) h ∙ ap (λ b. if b then answered else asked) first

unmoved : (a b : Bool) → (a && b) ≡ false → a ≡ true → b ≡ false
unmoved true b h e = h
unmoved false b h e = absurd (cc)

-- the cause

pub hand_took : (before : List Event) (cause : Cause) (s : ℕ) → moves before cause s ≡ false → HandAt s before → HandAt s (with_cause before cause)
hand_took before (Started n) s still h = more s before (heard (Started n)) (pick Link (nat_eq n s) (record { stage = stage_started (life_of s before).stage; started = true }) (life_of s before) _ (hand s before)
    (λ same. starts (life_of s before).stage (hand s before) n (subst (λ k. is_spawning (life_of k before).stage ≡ false) (number_same n s same) (unmoved (nat_eq n s) (is_spawning (life_of n before).stage) still same)) h) h)
hand_took before (FromServer n body) s still h = more s before (heard (FromServer n body)) (pick Link (nat_eq n s) (record { stage = stage_hears (life_of s before).stage (message_of body); started = (life_of s before).started }) (life_of s before) _ (hand s before)
    (λ same. hears (life_of s before).stage (hand s before) n body (message_of body) (subst (λ k. (is_initializing (life_of k before).stage && is_first_result (message_of body)) ≡ false) (number_same n s same)
    (unmoved (nat_eq n s) (is_initializing (life_of n before).stage && is_first_result (message_of body)) still same)) h) h)
hand_took before (StartFailed n) s still h = more s before (heard (StartFailed n)) (pick Link (nat_eq n s) (record { stage = Ended; started = (life_of s before).started }) (life_of s before) _ (hand s before) (λ same. tt) h)
hand_took before (ServerGone n) s still h = more s before (heard (ServerGone n)) (pick Link (nat_eq n s) (record { stage = Ended; started = (life_of s before).started }) (life_of s before) _ (hand s before) (λ same. tt) h)
hand_took before cause s still h = more s before (heard cause) h

-- a body to a start

-- what an entry did with the start that it moves

-- a body to s, where its stage and its handshake are these
pub told_more : (s : ℕ) (events : List Event) (body : List ℕ) (stage : Stage) (w : Handshake) (m : Message) → (life_of s events).stage ≡ stage → hand s events ≡ w → message_of body ≡ m
    → Link (stage_told stage m) (handshake_behind w (did (ToServer s body) m)) → HandAt s (events ++ said (ToServer s body) ∷ [])
told_more s events body stage w m at now says f = more s events (said (ToServer s body)) (subst (λ b. Link (if b then record { stage = stage_told (life_of s events).stage (message_of body); started = (life_of s events).started } else life_of s events).stage
    (cond b (handshake_behind (hand s events) (said (ToServer s body))) (hand s events))) (sym (same_number s))
    (subst₂ (λ z v. Link (stage_told z (message_of body)) (handshake_behind v (did (ToServer s body) (message_of body)))) (sym at) (sym now)
    (subst (λ z. Link (stage_told stage z) (handshake_behind w (did (ToServer s body) z))) (sym says) f)))

-- the next start is spawned
pub hand_spawned : (events : List Event) (g s : ℕ) → Starts events → HandAt s events → HandAt s (events ++ said (Spawn (starts_of events) g) ∷ [])
hand_spawned events g s none h = more s events (said (Spawn (starts_of events) g)) (pick_life Link (nat_eq (starts_of events) s) (record { stage = Spawning; started = false }) (life_of s events) (hand s events)
    (λ same. subst (λ z. Link z (hand s events)) (ap (λ (l : Life). l.stage) (none s (omega (arith, number_same (starts_of events) s same)))) h) h)
