-- What the causes tell of editors and programs holds of the events, whatever the outs of a legal history.
use Rattle.std.proofs.Common.{◌≡◌, ℕ, ◌+◌, ◌<◌, ◌≤◌, Bool, true, false, not, ◌&&◌, List, [], ◌∷◌, ◌++◌, codes, nat_eq, nat_lt, if◌then◌else◌, Option, Some, None, refl, sym, subst, ap, ◌∙◌, arith}
use Rattle.std.proofs.lemmas.Bool.Decides.{nat_tests}
use Rattle.mux_history.specs.declared.cause.Cause.{Cause}
use Rattle.mux_history.specs.declared.cause.Cause.TheVariants.{Joined, FromEditor, EditorGone, Started, StartFailed, FromServer, ServerGone, Drained, Tick}
use Rattle.mux_history.specs.declared.out.Out.{Out}
use Rattle.mux_history.specs.declared.out.Out.TheVariants.{ToEditor, ToServer, Spawn, CloseEditor, EndServer}
use Rattle.event_model.specs.rpc_message.specs.Message.{Message, error, message_of, not_json, not_message, notification, request, result}
use Rattle.event_model.specs.declared.phase.Phase.{Phase}
use Rattle.event_model.specs.declared.phase.Phase.TheVariants.{Absent, New, Waiting, Answered, Running, Down, Closed, Gone}
use Rattle.event_model.specs.declared.stage.Stage.{Stage}
use Rattle.event_model.specs.declared.stage.Stage.TheVariants.{Unspawned, Spawning, Initializing, Ready, Stopping, Ending, Ended}
use Rattle.event_model.specs.Event.{Event, heard, requests, said, with_cause}
use Rattle.event_model.specs.Phases.{Desk, desk_behind, desk_hears, desk_of, editors_behind, editors_of, has_id, is_linked, makes_running, phase_closed, phase_told}
use Rattle.event_model.specs.Spawns.{starts_behind, starts_of}
use Rattle.event_model.specs.Stages.{Life, is_ended, is_first_result, life_behind, life_of, may_start, runs, stage_ending, stage_hears, stage_started, stage_told}
use Rattle.mux_model.specs.Fits.{fits_behind}
use Rattle.mux_facts.proofs.Folds.{desk_more, editors_more, life_more, starts_more}
use Rattle.mux_facts.proofs.Words.{number_same, same_number}
use Rattle.group_facts.specs.Facts.{NoStarts}
use Rattle.made_histories.specs.Coming.{Comers, comers_behind, is_running_one, may_come}

abbrev pub Runs : Option ℕ → List Event → Type 0
Runs None events = Unit {0}
Runs (Some s) events = (runs (life_of s events) ≡ true) × (s < starts_of events)

-- so many editors joined and have a link, and this program runs
pub record Tied (x : Comers) (events : List Event) : Type 0 where
  pub joined : editors_of events ≡ x.joined
  pub linked : (e : ℕ) → e < x.joined → is_linked (desk_of e events).phase ≡ true
  pub running : Runs x.running events

pub no_ties : (x : Comers) → x.joined ≡ 0 → x.running ≡ None → Tied x []
no_ties x j r = record { joined = sym j; linked = λ e h. absurd (omega (arith, j, h)); running = subst (λ o. Runs o []) (sym r) tt }

either : {A : Type 0} (test : A → Bool) (b : Bool) (x y : A) → test x ≡ true → test y ≡ true → test (if b then x else y) ≡ true
either test true x y f g = f
either test false x y f g = g

-- events by which no link ends, no program ends, and no start is spawned anew
abbrev KeepsLinks : List Event → Event → Type 0
KeepsLinks events event = (e : ℕ) → is_linked (desk_of e events).phase ≡ true → is_linked (desk_behind e (desk_of e events) event).phase ≡ true

abbrev KeepsRuns : List Event → Event → Type 0
KeepsRuns events event = (s : ℕ) → s < starts_of events → runs (life_of s events) ≡ true → runs (life_behind s (life_of s events) event) ≡ true

linked_more : (events : List Event) (event : Event) (e : ℕ) → is_linked (desk_behind e (desk_of e events) event).phase ≡ true → is_linked (desk_of e (events ++ event ∷ [])).phase ≡ true
linked_more events event e h = ap (λ (d : Desk). is_linked d.phase) (desk_more e events event) ∙ h

runs_more : (events : List Event) (event : Event) (s : ℕ) → runs (life_behind s (life_of s events) event) ≡ true → s < starts_behind (starts_of events) event → Runs (Some s) (events ++ event ∷ [])
runs_more events event s h k = (ap runs (life_more s events event) ∙ h, subst (λ n. s < n) (sym (starts_more events event)) k)

still_runs : (o : Option ℕ) (events : List Event) (event : Event) → KeepsRuns events event → starts_of events ≤ starts_behind (starts_of events) event → Runs o events → Runs o (events ++ event ∷ [])
still_runs None events event keep le h = tt
still_runs (Some s) events event keep le h = runs_more events event s (keep s h.1 h.0) (let k : s < starts_of events = h.1 in omega (arith, k, le))

more : (x : Comers) (events : List Event) (event : Event) → editors_behind (editors_of events) event ≡ editors_of events → KeepsLinks events event → KeepsRuns events event
    → starts_of events ≤ starts_behind (starts_of events) event → Tied x events → Tied x (events ++ event ∷ [])
more x events event same links lives le h = record {
  joined = editors_more events event ∙ same ∙ h.joined;
  linked = λ e k. linked_more events event e (links e (h.linked e k));
  running = still_runs x.running events event lives le h.running;
}

-- What an editor says and is told, what a start says and is told

hears_linked : (phase : Phase) (initialize body : List ℕ) (m : Message) → is_linked phase ≡ true → is_linked (desk_hears phase initialize body m).phase ≡ true
hears_linked Absent initialize body m h = h
hears_linked New initialize body m h = either (λ (d : Desk). is_linked d.phase) (requests (codes "initialize") m) (record { phase = Waiting; initialize = body }) (record { phase = New; initialize = initialize }) refl refl
hears_linked Waiting initialize body m h = refl
hears_linked Answered initialize body m h = either is_linked (requests (codes "shutdown") m) Down (if makes_running m then Running else Answered) refl (either is_linked (makes_running m) Running Answered refl refl)
hears_linked Running initialize body m h = either is_linked (requests (codes "shutdown") m) Down Running refl refl
hears_linked Down initialize body m h = refl
hears_linked Closed initialize body m h = refl
hears_linked Gone initialize body m h = h

told_linked : (phase : Phase) (initialize : List ℕ) (m : Message) → is_linked phase ≡ true → is_linked (phase_told phase initialize m) ≡ true
told_linked Absent initialize m h = h
told_linked New initialize m h = h
told_linked Waiting initialize not_json h = h
told_linked Waiting initialize not_message h = h
told_linked Waiting initialize (request id method params) h = h
told_linked Waiting initialize (notification method params) h = h
told_linked Waiting initialize (result None r) h = h
told_linked Waiting initialize (result (Some id) r) h = either is_linked (has_id id (message_of initialize)) Answered Waiting refl refl
told_linked Waiting initialize (error id r) h = h
told_linked Answered initialize m h = h
told_linked Running initialize m h = h
told_linked Down initialize m h = h
told_linked Closed initialize m h = h
told_linked Gone initialize m h = h

closed_linked : (phase : Phase) → is_linked phase ≡ true → is_linked (phase_closed phase) ≡ true
closed_linked Absent h = refl
closed_linked New h = refl
closed_linked Waiting h = refl
closed_linked Answered h = refl
closed_linked Running h = refl
closed_linked Down h = refl
closed_linked Closed h = refl
closed_linked Gone h = h

started_runs : (stage : Stage) (begun : Bool) → may_start (record { stage = stage; started = begun }) ≡ true → is_ended (stage_started stage) ≡ false
started_runs Unspawned begun h = refl
started_runs Spawning begun h = refl
started_runs Initializing begun h = refl
started_runs Ready begun h = refl
started_runs Stopping begun h = refl
started_runs Ending begun h = refl
started_runs Ended begun h = absurd (cc)

hears_ended : (stage : Stage) (m : Message) → is_ended (stage_hears stage m) ≡ is_ended stage
hears_ended Unspawned m = refl
hears_ended Spawning m = refl
hears_ended Initializing m = both (is_first_result m)
  where
    both : (b : Bool) → is_ended (if b then Ready else Initializing) ≡ false
    both true = refl
    both false = refl
hears_ended Ready m = refl
hears_ended Stopping m = refl
hears_ended Ending m = refl
hears_ended Ended m = refl

told_ended : (stage : Stage) (m : Message) → is_ended (stage_told stage m) ≡ is_ended stage
told_ended Unspawned m = refl
told_ended Spawning m = refl
told_ended Initializing m = refl
told_ended Ready m = both (requests (codes "shutdown") m)
  where
    both : (b : Bool) → is_ended (if b then Stopping else Ready) ≡ false
    both true = refl
    both false = refl
told_ended Stopping m = refl
told_ended Ending m = refl
told_ended Ended m = refl

ending_ended : (stage : Stage) → is_ended (stage_ending stage) ≡ is_ended stage
ending_ended Unspawned = refl
ending_ended Spawning = refl
ending_ended Initializing = refl
ending_ended Ready = refl
ending_ended Stopping = refl
ending_ended Ending = refl
ending_ended Ended = refl

-- the program runs on where its stage ends no more than before
runs_on : (life : Life) (stage : Stage) → is_ended stage ≡ is_ended life.stage → runs life ≡ true → runs (record { stage = stage; started = life.started }) ≡ true
runs_on life stage e h = ap (λ b. life.started && not b) e ∙ h

-- An out

-- starts are spawned under rising numbers
abbrev pub Numbered : List Event → Out → Type 0
Numbered events (Spawn s g) = s ≡ starts_of events
Numbered events other = Unit {0}

pub out_ties : (x : Comers) (events : List Event) (out : Out) → Numbered events out → Tied x events → Tied x (events ++ said out ∷ [])
out_ties x events (ToEditor n body) own h = more x events (said (ToEditor n body)) refl
    (λ e k. let d : Desk = desk_of e events in either (λ (z : Desk). is_linked z.phase) (nat_eq n e) (record { phase = phase_told d.phase d.initialize (message_of body); initialize = d.initialize }) d (told_linked d.phase d.initialize (message_of body) k) k)
    (λ s below k. k) (omega arith) h
out_ties x events (ToServer n body) own h = more x events (said (ToServer n body)) refl (λ e k. k)
    (λ s below k. let l : Life = life_of s events in either runs (nat_eq n s) (record { stage = stage_told l.stage (message_of body); started = l.started }) l (runs_on l (stage_told l.stage (message_of body)) (told_ended l.stage (message_of body)) k) k)
    (omega arith) h
out_ties x events (CloseEditor n) own h = more x events (said (CloseEditor n)) refl
    (λ e k. let d : Desk = desk_of e events in either (λ (z : Desk). is_linked z.phase) (nat_eq n e) (record { phase = phase_closed d.phase; initialize = d.initialize }) d (closed_linked d.phase k) k)
    (λ s below k. k) (omega arith) h
out_ties x events (Spawn n g) own h = more x events (said (Spawn n g)) refl (λ e k. k)
    (λ s below k. ap (λ b. runs (if b then record { stage = Spawning; started = false } else life_of s events)) (is_other s below) ∙ k) (omega arith) h
  where
    is_other : (s : ℕ) → s < starts_of events → nat_eq n s ≡ false
    is_other s below = go (nat_eq n s) refl
      where
        go : (b : Bool) → nat_eq n s ≡ b → nat_eq n s ≡ false
        go true e = absurd (let k : n ≡ s = number_same n s e in omega (arith, own, below, k))
        go false e = e
out_ties x events (EndServer n) own h = more x events (said (EndServer n)) refl (λ e k. k)
    (λ s below k. let l : Life = life_of s events in either runs (nat_eq n s) (record { stage = stage_ending l.stage; started = l.started }) l (runs_on l (stage_ending l.stage) (ending_ended l.stage) k) k)
    (omega arith) h

-- A cause

joined_linked : (x : Comers) (events : List Event) (n : ℕ) → n ≡ x.joined → Tied x events → (e : ℕ) → e < x.joined + 1 → is_linked (desk_behind e (desk_of e events) (heard (Joined n))).phase ≡ true
joined_linked x events n same h e below = go (nat_eq n e) refl
  where
    go : (b : Bool) → nat_eq n e ≡ b → is_linked (if b then record { phase = New; initialize = [] } else desk_of e events).phase ≡ true
    go true k = refl
    go false k = h.linked e (apart k)
      where
        apart : nat_eq n e ≡ false → e < x.joined
        apart k = grind (arith, nat_tests)

-- a program that begins was spawned
spawned : (events : List Event) (s : ℕ) → NoStarts events → may_start (life_of s events) ≡ true → s < starts_of events
spawned events s none h = go (nat_lt s (starts_of events)) refl
  where
    go : (b : Bool) → nat_lt s (starts_of events) ≡ b → s < starts_of events
    go true e = grind (arith, nat_tests)
    go false e = absurd (let le : starts_of events ≤ s = grind (arith, nat_tests) in let l : may_start (life_of s events) ≡ false = ap may_start (none s le) in cc)

took_runs : (events : List Event) (s : ℕ) → may_start (life_of s events) ≡ true → runs (life_behind s (life_of s events) (heard (Started s))) ≡ true
took_runs events s h = ap (λ b. runs (if b then record { stage = stage_started (life_of s events).stage; started = true } else life_of s events)) (same_number s)
    ∙ ap not (started_runs (life_of s events).stage (life_of s events).started h)

pub cause_ties : (x : Comers) (events : List Event) (cause : Cause) → may_come x cause ≡ true → fits_behind events cause ≡ true → NoStarts events → Tied x events → Tied (comers_behind x cause) (with_cause events cause)
cause_ties x events (Joined n) come fits none h = record {
  joined = editors_more events (heard (Joined n)) ∙ ap (λ k. k + 1) h.joined;
  linked = λ e below. linked_more events (heard (Joined n)) e (joined_linked x events n (number_same n x.joined come) h e below);
  running = still_runs x.running events (heard (Joined n)) (λ s below k. k) (omega arith) h.running;
}
cause_ties x events (FromEditor n body) come fits none h = more x events (heard (FromEditor n body)) refl
    (λ e k. let d : Desk = desk_of e events in either (λ (z : Desk). is_linked z.phase) (nat_eq n e) (desk_hears d.phase d.initialize body (message_of body)) d (hears_linked d.phase d.initialize body (message_of body) k) k)
    (λ s below k. k) (omega arith) h
cause_ties x events (EditorGone n why) come fits none h = absurd (cc)
cause_ties x events (Started n) come fits none h = record {
  joined = editors_more events (heard (Started n)) ∙ h.joined;
  linked = λ e below. linked_more events (heard (Started n)) e (h.linked e below);
  running = runs_more events (heard (Started n)) n (took_runs events n fits) (spawned events n none fits);
}
cause_ties x events (StartFailed n) come fits none h = absurd (cc)
cause_ties x events (FromServer n body) come fits none h = more x events (heard (FromServer n body)) refl (λ e k. k)
    (λ s below k. let l : Life = life_of s events in either runs (nat_eq n s) (record { stage = stage_hears l.stage (message_of body); started = l.started }) l (runs_on l (stage_hears l.stage (message_of body)) (hears_ended l.stage (message_of body)) k) k)
    (omega arith) h
cause_ties x events (ServerGone n) come fits none h = record {
  joined = editors_more events (heard (ServerGone n)) ∙ h.joined;
  linked = λ e below. linked_more events (heard (ServerGone n)) e (h.linked e below);
  running = tt;
}
cause_ties x events (Drained n k) come fits none h = absurd (cc)
cause_ties x events (Tick t) come fits none h = absurd (cc)

-- What can come fits

is_one : (s : ℕ) (o : Option ℕ) (events : List Event) → is_running_one s o ≡ true → Runs o events → runs (life_of s events) ≡ true
is_one s None events one h = absurd (cc)
is_one s (Some n) events one h = subst (λ k. runs (life_of k events) ≡ true) (number_same n s one) h.0

abbrev pub IsAwaitedAt : List Event → Cause → Type 0
IsAwaitedAt events (Started s) = fits_behind events (Started s) ≡ true
IsAwaitedAt events other = Unit {0}

pub cause_fits : (x : Comers) (events : List Event) (cause : Cause) → may_come x cause ≡ true → IsAwaitedAt events cause → Tied x events → fits_behind events cause ≡ true
cause_fits x events (Joined n) come awaited h = ap (λ k. nat_eq n k) h.joined ∙ come
cause_fits x events (FromEditor n body) come awaited h = h.linked n (below n x.joined come)
  where
    below : (m n : ℕ) → nat_lt m n ≡ true → m < n
    below m n k = grind (arith, nat_tests)
cause_fits x events (EditorGone n why) come awaited h = absurd (cc)
cause_fits x events (Started n) come awaited h = awaited
cause_fits x events (StartFailed n) come awaited h = absurd (cc)
cause_fits x events (FromServer n body) come awaited h = is_one n x.running events come h.running
cause_fits x events (ServerGone n) come awaited h = is_one n x.running events come h.running
cause_fits x events (Drained n k) come awaited h = absurd (cc)
cause_fits x events (Tick t) come awaited h = absurd (cc)
