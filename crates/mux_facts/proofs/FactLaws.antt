-- What causes and outs change of editors, of starts, and of what waits.
use Rattle.std.proofs.Common.{◌≡◌, ℕ, ◌+◌, Bool, true, false, List, [], ◌∷◌, ◌++◌, nat_eq, codes, if◌then◌else◌, refl, ◌∙◌, ap, arith}
use Rattle.mux_history.specs.declared.cause.Cause.{Cause}
use Rattle.mux_history.specs.declared.cause.Cause.TheVariants.{Joined, FromEditor, EditorGone, Started, StartFailed, FromServer, ServerGone}
use Rattle.mux_history.specs.declared.out.Out.TheVariants.{Spawn}
use Rattle.rpc_message.specs.Message.{Message, not_message, Id, message_of}
use Rattle.event_model.specs.declared.stage.Stage.{Stage}
use Rattle.event_model.specs.declared.stage.Stage.TheVariants.{Unspawned, Spawning, Initializing, Ready, Stopping, Ending, Ended}
use Rattle.event_model.specs.declared.phase.Phase.{Phase}
use Rattle.event_model.specs.declared.phase.Phase.TheVariants.{Absent, New, Gone}
use Rattle.event_model.specs.Event.{Event, took, did, heard, said, with_cause, requests}
use Rattle.mux_model.specs.Fits.{fits_behind}
use Rattle.event_model.specs.Phases.{is_there, phase_closed, Desk, desk_of, editors_of}
use Rattle.event_model.specs.Requests.{open_of}
use Rattle.event_model.specs.Spawns.{starts_of}
use Rattle.event_model.specs.Stages.{life_of, no_life, stage_started, stage_hears, stage_told, is_first_result}
use Rattle.mux_facts.proofs.Why.{is_early}
use Rattle.mux_facts.proofs.Editors as editors
use Rattle.mux_facts.proofs.Editors.{Editors}
use Rattle.mux_facts.proofs.Folds.{desk_more, editors_more, life_more, starts_more}
use Rattle.mux_facts.proofs.Known.{is_unbegun}
use Rattle.mux_facts.proofs.Rules.{unless}
use Rattle.mux_facts.proofs.Starts as starts
use Rattle.mux_facts.proofs.Starts.{Starts}
use Rattle.mux_facts.proofs.Waits as waits
use Rattle.mux_facts.proofs.Waits.{AllWaiting, WaitsIf}
use Rattle.mux_facts.proofs.Words.{number_same}

-- A close

pub there_not : (events : List Event) (n e : ℕ) → (desk_of e events).phase ≡ Absent → nat_eq n e ≡ true → is_there (desk_of n events).phase ≡ true → ⊥
there_not events n e absent same there = let l : is_there (desk_of n events).phase ≡ is_there Absent = ap is_there (ap (λ k. (desk_of k events).phase) (number_same n e same) ∙ absent) in cc

pub closed_late : (phase : Phase) → is_early (phase_closed phase) ≡ false
closed_late Gone = refl
closed_late other = refl

pub closed_waits : (phase : Phase) (initialize : List ℕ) (ids : List Id) → WaitsIf (phase_closed phase) initialize ids
closed_waits Gone initialize ids = tt
closed_waits other initialize ids = tt

-- Starts that were not spawned

pub starts_took : (before : List Event) (cause : Cause) → fits_behind before cause ≡ true → Starts before → Starts (with_cause before cause)
starts_took events (Started n) fits h = starts.more events (took (Started n) not_message) h refl
    (λ s none. unless (nat_eq n s) (record { stage = Unspawned; started = true }) no_life (λ same. starts.may_not events n s none same fits))
starts_took events (StartFailed n) fits h = starts.more events (took (StartFailed n) not_message) h refl
    (λ s none. unless (nat_eq n s) (record { stage = Ended; started = false }) no_life (λ same. starts.may_not events n s none same fits))
starts_took events (FromServer n body) fits h = starts.more events (took (FromServer n body) (message_of body)) h refl
    (λ s none. unless (nat_eq n s) (record { stage = Unspawned; started = false }) no_life (λ same. starts.runs_not events n s none same fits))
starts_took events (ServerGone n) fits h = starts.more events (took (ServerGone n) not_message) h refl
    (λ s none. unless (nat_eq n s) (record { stage = Ended; started = false }) no_life (λ same. starts.runs_not events n s none same fits))
starts_took events cause fits h = starts.more events (heard cause) h refl (λ s none. refl)

pub starts_spawn : (events : List Event) (g : ℕ) → Starts events → Starts (events ++ said (Spawn (starts_of events) g) ∷ [])
starts_spawn events g h s le =
    let next : starts_of (events ++ did (Spawn (starts_of events) g) not_message ∷ []) ≡ starts_of events + 1 = starts_more events (did (Spawn (starts_of events) g) not_message) in
    let none : life_of s events ≡ no_life = h s (omega (arith, next)) in
    life_more s events (did (Spawn (starts_of events) g) not_message)
    ∙ unless (nat_eq (starts_of events) s) (record { stage = Spawning; started = false }) (life_of s events) (λ same. let e : starts_of events ≡ s = number_same (starts_of events) s same in omega (arith, next))
    ∙ none

-- Starts whose program never ran

pub started_back : (stage : Stage) → is_unbegun (stage_started stage) ≡ true → is_unbegun stage ≡ true
started_back Unspawned h = refl
started_back Spawning h = refl
started_back Initializing h = h
started_back Ready h = h
started_back Stopping h = h
started_back Ending h = h
started_back Ended h = h

pub hears_back : (stage : Stage) (m : Message) → is_unbegun (stage_hears stage m) ≡ true → is_unbegun stage ≡ true
hears_back Initializing m h = absurd (go (is_first_result m) h)
  where
    go : (b : Bool) → is_unbegun (if b then Ready else Initializing) ≡ true → ⊥
    go true e = cc
    go false e = cc
hears_back Unspawned m h = h
hears_back Spawning m h = h
hears_back Ready m h = h
hears_back Stopping m h = h
hears_back Ending m h = h
hears_back Ended m h = h

pub told_not : (stage : Stage) (m : Message) → is_unbegun stage ≡ false → is_unbegun (stage_told stage m) ≡ false
told_not Ready m h = go (requests (codes "shutdown") m)
  where
    go : (b : Bool) → is_unbegun (if b then Stopping else Ready) ≡ false
    go true = refl
    go false = refl
told_not Unspawned m h = h
told_not Spawning m h = h
told_not Initializing m h = h
told_not Stopping m h = h
told_not Ending m h = h
told_not Ended m h = h

-- Editors that did not join

pub editors_took : (before : List Event) (cause : Cause) → fits_behind before cause ≡ true → Editors before → Editors (with_cause before cause)
editors_took events (Joined n) fits h = λ e le.
    let count : editors_of (events ++ took (Joined n) not_message ∷ []) ≡ editors_of events + 1 = editors_more events (took (Joined n) not_message) in
    let absent : (desk_of e events).phase ≡ Absent = h e (omega (arith, count)) in
    let at : n ≡ editors_of events = number_same n (editors_of events) fits in
    ap (λ (d : Desk). d.phase) (desk_more e events (took (Joined n) not_message)
    ∙ unless (nat_eq n e) (record { phase = New; initialize = [] }) (desk_of e events) (λ same. let here : n ≡ e = number_same n e same in omega (arith, count))) ∙ absent
editors_took events (FromEditor n body) fits h = editors.from_editor events n body fits h
editors_took events (EditorGone n why) fits h = editors.more events (took (EditorGone n why) not_message) h refl
    (λ e absent. ap (λ (d : Desk). d.phase) (unless (nat_eq n e) (record { phase = Gone; initialize = (desk_of e events).initialize }) (desk_of e events) (λ same. editors.linked_not events n e absent same fits)) ∙ absent)
editors_took events cause fits h = editors.more events (heard cause) h refl (λ e absent. absent)

-- Editors that wait

pub waits_took : (before : List Event) (cause : Cause) → AllWaiting before → AllWaiting (with_cause before cause)
waits_took events (Joined n) h = waits.more events (took (Joined n) not_message) (λ e. waits.pick_desk (nat_eq n e) (record { phase = New; initialize = [] }) (desk_of e events) (open_of e events) (λ same. tt) (h e))
waits_took events (FromEditor n body) h = waits.from_editor events n body h
waits_took events (EditorGone n why) h = waits.more events (took (EditorGone n why) not_message)
    (λ e. waits.pick_desk (nat_eq n e) (record { phase = Gone; initialize = (desk_of e events).initialize }) (desk_of e events) (open_of e events) (λ same. tt) (h e))
waits_took events cause h = waits.more events (heard cause) h
