-- Bodies go to a start's program while it runs.
use Rattle.std.proofs.Common.{◌≡◌, ℕ, Bool, true, false, not, ◌&&◌, List, codes, if◌then◌else◌, refl, ap₂, cond, [], ◌∷◌, ◌++◌, nat_eq, sym, ◌∙◌, ap, subst, subst₂, arith}
use Rattle.mux_history.specs.declared.cause.Cause.TheVariants.{Started, StartFailed, FromServer, ServerGone}
use Rattle.mux_history.specs.declared.out.Out.TheVariants.{ToEditor, ToServer, Spawn, CloseEditor, EndServer}
use Rattle.rpc_message.specs.Message.{Message, not_message, message_of}
use Rattle.event_model.specs.declared.stage.Stage.{Stage}
use Rattle.event_model.specs.declared.stage.Stage.TheVariants.{Unspawned, Spawning, Initializing, Ready, Stopping, Ending, Ended}
use Rattle.event_model.specs.Event.{Event, took, did, requests, heard, said, with_cause}
use Rattle.event_model.specs.Stages.{stage_started, stage_hears, stage_told, is_first_result, Life, life_of, life_behind}
use Rattle.session_laws.specs.ServerRules.{Program, program_behind, ServerRule1, program_of}
use Rattle.session_laws.proofs.PartLaws.{is_to_server}
use Rattle.mux_history.specs.declared.cause.Cause.{Cause}
use Rattle.event_model.specs.Spawns.{starts_of}
use Rattle.event_model.specs.Parts.{server_part, is_of_server}
use Rattle.mux_facts.proofs.Folds.{life_more}
use Rattle.mux_facts.proofs.Rules.{word_more}
use Rattle.mux_facts.proofs.Starts.{Starts}
use Rattle.mux_facts.proofs.Words.{pick, pick_life, same_number, number_same}

-- it runs and isn't over
abbrev pub IsUp : Program → Type 0
IsUp p = (p.started ≡ true) × (p.over ≡ false)

abbrev pub Link : Stage → Program → Type 0
Link Unspawned p = p.over ≡ false
Link Spawning p = p.over ≡ false
Link Initializing p = IsUp p
Link Ready p = IsUp p
Link Stopping p = IsUp p
Link Ending p = Unit {0}
Link Ended p = Unit {0}

pub free : (part : List Event) (event : Event) → is_to_server event ≡ false → ServerRule1 part event
free part (took cause m) h = tt
free part (did (ToServer s body) m) h = absurd (cc)
free part (did (ToEditor e body) m) h = tt
free part (did (Spawn s g) m) h = tt
free part (did (CloseEditor e) m) h = tt
free part (did (EndServer s) m) h = tt

pub two_stages : (b : Bool) (x y : Stage) (p : Program) → Link x p → Link y p → Link (if b then x else y) p
two_stages true x y p h g = h
two_stages false x y p h g = g

pub hears : (stage : Stage) (p : Program) (m : Message) → Link stage p → Link (stage_hears stage m) p
hears Unspawned p m h = h
hears Spawning p m h = h
hears Initializing p m h = two_stages (is_first_result m) Ready Initializing p h h
hears Ready p m h = h
hears Stopping p m h = h
hears Ending p m h = tt
hears Ended p m h = tt

pub is_up : (p : Program) → IsUp p → (p.started && not p.over) ≡ true
is_up p h = ap₂ (λ a b. a && not b) h.0 h.1

-- the program runs in the stages that say so
abbrev pub Running : List Event → Type 0
Running events = (s : ℕ) → Link (life_of s events).stage (program_of (server_part s events))

pub more : (events : List Event) (event : Event) → ((s : ℕ) → Link (life_behind s (life_of s events) event).stage (cond (is_of_server s event) (program_behind (program_of (server_part s events)) event) (program_of (server_part s events)))) → Running (events ++ event ∷ [])
more events event f s = subst₂ (λ (l : Life) w. Link l.stage w) (sym (life_more s events event)) (sym (word_more program_behind (record { started = false; over = false }) (is_of_server s) events event)) (f s)

starts : (stage : Stage) (p : Program) (n : ℕ) → Link stage p → Link (stage_started stage) (program_behind p (took (Started n) not_message))
starts Unspawned p n h = h
starts Spawning p n h = (refl, h)
starts Initializing p n h = (refl, h.1)
starts Ready p n h = (refl, h.1)
starts Stopping p n h = (refl, h.1)
starts Ending p n h = tt
starts Ended p n h = tt

told : (stage : Stage) (p : Program) (m : Message) → Link stage p → Link (stage_told stage m) p
told Ready p m h = two_stages (requests (codes "shutdown") m) Stopping Ready p h h
told Unspawned p m h = h
told Spawning p m h = h
told Initializing p m h = h
told Stopping p m h = h
told Ending p m h = h
told Ended p m h = h

pub running_took : (before : List Event) (cause : Cause) → Running before → Running (with_cause before cause)
running_took events (Started n) h = more events (took (Started n) not_message) (λ s. pick Link (nat_eq n s) (record { stage = stage_started (life_of s events).stage; started = true }) (life_of s events) _ (program_of (server_part s events))
    (λ same. starts (life_of s events).stage (program_of (server_part s events)) n (h s)) (h s))
running_took events (StartFailed n) h = more events (took (StartFailed n) not_message) (λ s. pick Link (nat_eq n s) (record { stage = Ended; started = (life_of s events).started }) (life_of s events) _ (program_of (server_part s events)) (λ same. tt) (h s))
running_took events (ServerGone n) h = more events (took (ServerGone n) not_message) (λ s. pick Link (nat_eq n s) (record { stage = Ended; started = (life_of s events).started }) (life_of s events) _ (program_of (server_part s events)) (λ same. tt) (h s))
running_took events (FromServer n body) h = more events (took (FromServer n body) (message_of body)) (λ s. pick Link (nat_eq n s) (record { stage = stage_hears (life_of s events).stage (message_of body); started = (life_of s events).started }) (life_of s events) _ (program_of (server_part s events))
    (λ same. hears (life_of s events).stage (program_of (server_part s events)) (message_of body) (h s)) (h s))
running_took events cause h = more events (heard cause) h

-- a body to a start
pub running_sent : (events : List Event) (n : ℕ) (body : List ℕ) → Running events → Running (events ++ said (ToServer n body) ∷ [])
running_sent events n body h = more events (said (ToServer n body))
    (λ s. pick Link (nat_eq n s) (record { stage = stage_told (life_of s events).stage (message_of body); started = (life_of s events).started }) (life_of s events) _ (program_of (server_part s events))
    (λ same. told (life_of s events).stage (program_of (server_part s events)) (message_of body) (h s)) (h s))

-- the next start is spawned
pub running_spawned : (events : List Event) (g : ℕ) → Starts events → Running events → Running (events ++ said (Spawn (starts_of events) g) ∷ [])
running_spawned events g none h = more events (said (Spawn (starts_of events) g)) (λ s. pick_life Link (nat_eq (starts_of events) s) (record { stage = Spawning; started = false }) (life_of s events) (program_of (server_part s events))
    (λ same. subst (λ z. Link z (program_of (server_part s events))) (ap (λ (l : Life). l.stage) (none s (omega (arith, number_same (starts_of events) s same)))) (h s)) (h s))

-- a body finds the program running

pub begun_up : (before : List Event) (cause : Cause) (events : List Event) (s : ℕ) → (life_of s before).stage ≡ Spawning → cause ≡ Started s → events ≡ with_cause before cause → Running events → IsUp (program_of (server_part s events))
begun_up before cause events s at from place h = subst (λ z. Link z (program_of (server_part s events)))
    (ap (λ z. (life_of s z).stage) (place ∙ ap (with_cause before) from) ∙ ap (λ (l : Life). l.stage) (life_more s before (heard (Started s)))
    ∙ ap (λ b. (if b then record { stage = stage_started (life_of s before).stage; started = true } else life_of s before).stage) (same_number s) ∙ ap stage_started at) (h s)

pub ready_up : (events : List Event) (s : ℕ) → (life_of s events).stage ≡ Ready → Running events → IsUp (program_of (server_part s events))
ready_up events s ready h = subst (λ z. Link z (program_of (server_part s events))) ready (h s)
