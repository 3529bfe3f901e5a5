-- Starts that aren't up, and those that ended: no out but a new start's changes that, and behind end(g) the last start of g isn't up.
use Rattle.std.proofs.Common.{◌≡◌, ℕ, ◌<◌, ◌^◌, Bool, true, false, List, [], ◌∷◌, ◌++◌, fold, map, nat_eq, codes, if◌then◌else◌, Option, None, Some, refl, sym, ◌∙◌, ap, subst, append-nil, append_assoc}
use Rattle.std.specs.List.{AllByRecursion}
use Rattle.mux_history.specs.declared.cause.Cause.{Cause}
use Rattle.mux_history.specs.declared.cause.Cause.TheVariants.{Joined, FromEditor, EditorGone, Started, StartFailed, FromServer, ServerGone, Drained, Tick}
use Rattle.mux_history.specs.declared.out.Out.{Out}
use Rattle.mux_history.specs.declared.out.Out.TheVariants.{ToEditor, ToServer, Spawn, CloseEditor, EndServer}
use Rattle.rpc_message.specs.Message.{Message, message_of}
use Rattle.rpc_message.specs.Texts.{request_text}
use Rattle.event_model.specs.Settings.{Settings}
use Rattle.event_model.specs.declared.stage.Stage.{Stage}
use Rattle.event_model.specs.declared.stage.Stage.TheVariants.{Unspawned, Spawning, Initializing, Ready, Stopping, Ending, Ended}
use Rattle.event_model.specs.Event.{Event, behind, did, heard, requests, said, took, with_cause}
use Rattle.event_model.specs.Requests.{next_number}
use Rattle.event_model.specs.Row.{each, nothing, on, outs}
use Rattle.event_model.specs.Spawns.{start_behind, start_of}
use Rattle.event_model.specs.Stages.{Life, is_ended, is_first_result, life_behind, life_of, no_life, stage_ending, stage_hears, stage_started, stage_told}
use Rattle.event_model.proofs.Frames.{never}
use Rattle.mux_facts.proofs.Folds.{life_more, number_more}
use Rattle.mux_facts.proofs.Keeps.{behind_both}
use Rattle.mux_facts.proofs.Lists.{all_of}
use Rattle.mux_facts.proofs.Reasons.{Because, by_look, by_nothing, by_on, by_send, by_then}
use Rattle.mux_facts.proofs.Words.{same_number}
use Rattle.group_words.specs.Rows.{end_group, end_start}
use Rattle.group_facts.specs.Facts.{is_up}
use Rattle.group_facts.proofs.Begun.{NoSpawn, all_outs, start_did, start_more, start_took, starts_stay}
use Rattle.group_facts.proofs.GroupEnds.{shutdown_says}
use Rattle.group_facts.proofs.Numbers.{number_other}
use Rattle.group_facts.proofs.TickRow.{ending_not, told_not}

-- Stages

abbrev pub is_spawned : Stage → Bool
is_spawned Unspawned = false
is_spawned other = true

off_started : (stage : Stage) → is_up stage ≡ false → is_up (stage_started stage) ≡ false
off_started Spawning h = never h
off_started other h = h

off_hears : (stage : Stage) (m : Message) → is_up stage ≡ false → is_up (stage_hears stage m) ≡ false
off_hears Initializing m h = never h
off_hears other m h = h

off_told : (stage : Stage) (m : Message) → is_up stage ≡ false → is_up (stage_told stage m) ≡ false
off_told Ready m h = never h
off_told other m h = h

pub off_ending : (stage : Stage) → is_up (stage_ending stage) ≡ false
off_ending Ended = refl
off_ending other = refl

spawned_started : (stage : Stage) → is_spawned stage ≡ true → is_spawned (stage_started stage) ≡ true
spawned_started Spawning h = refl
spawned_started other h = h

spawned_hears : (stage : Stage) (m : Message) → is_spawned stage ≡ true → is_spawned (stage_hears stage m) ≡ true
spawned_hears Initializing m h = go (is_first_result m)
  where
    go : (b : Bool) → is_spawned (if b then Ready else Initializing) ≡ true
    go true = refl
    go false = refl
spawned_hears other m h = h

spawned_told : (stage : Stage) (m : Message) → is_spawned stage ≡ true → is_spawned (stage_told stage m) ≡ true
spawned_told Ready m h = go (requests (codes "shutdown") m)
  where
    go : (b : Bool) → is_spawned (if b then Stopping else Ready) ≡ true
    go true = refl
    go false = refl
spawned_told other m h = h

spawned_ending : (stage : Stage) → is_spawned (stage_ending stage) ≡ true
spawned_ending Ended = refl
spawned_ending other = refl

pub ready_spawned : (stage : Stage) → stage ≡ Ready → is_spawned stage ≡ true
ready_spawned stage at = ap is_spawned at

-- one start, or any other
by_test : (test : Stage → Bool) (v b : Bool) (x y : Life) → test x.stage ≡ v → test y.stage ≡ v → test (if b then x else y).stage ≡ v
by_test test v true x y f g = f
by_test test v false x y f g = g

-- One event further

-- what was spawned stays so
spawned_next : (s : ℕ) (life : Life) (event : Event) → is_spawned life.stage ≡ true → is_spawned (life_behind s life event).stage ≡ true
spawned_next s life (took (Started n) m) h = by_test is_spawned true (nat_eq n s) (record { stage = stage_started life.stage; started = true }) life (spawned_started life.stage h) h
spawned_next s life (took (StartFailed n) m) h = by_test is_spawned true (nat_eq n s) (record { stage = Ended; started = life.started }) life refl h
spawned_next s life (took (FromServer n body) m) h = by_test is_spawned true (nat_eq n s) (record { stage = stage_hears life.stage m; started = life.started }) life (spawned_hears life.stage m h) h
spawned_next s life (took (ServerGone n) m) h = by_test is_spawned true (nat_eq n s) (record { stage = Ended; started = life.started }) life refl h
spawned_next s life (did (Spawn n g) m) h = by_test is_spawned true (nat_eq n s) (record { stage = Spawning; started = false }) life refl h
spawned_next s life (did (ToServer n body) m) h = by_test is_spawned true (nat_eq n s) (record { stage = stage_told life.stage m; started = life.started }) life (spawned_told life.stage m h) h
spawned_next s life (did (EndServer n) m) h = by_test is_spawned true (nat_eq n s) (record { stage = stage_ending life.stage; started = life.started }) life (spawned_ending life.stage) h
spawned_next s life other h = h

-- whatever came, the last start of a group was spawned
spawned_step : (g s : ℕ) (o : Option ℕ) (life : Life) (event : Event) → (o ≡ Some s → is_spawned life.stage ≡ true) → start_behind g o event ≡ Some s → is_spawned (life_behind s life event).stage ≡ true
spawned_step g s o life (did (Spawn n i) m) h = go (nat_eq i g)
  where
    go : (b : Bool) → (if b then Some n else o) ≡ Some s → is_spawned (if nat_eq n s then record { stage = Spawning; started = false } else life).stage ≡ true
    go true k = let same : n ≡ s = cc in ap (λ b. is_spawned (if b then record { stage = Spawning; started = false } else life).stage) (subst (λ z. nat_eq n z ≡ true) same (same_number n))
    go false k = by_test is_spawned true (nat_eq n s) (record { stage = Spawning; started = false }) life refl (h k)
spawned_step g s o life other h = λ at. spawned_next s life other (h at)

pub all_spawned : (g s : ℕ) (events : List Event) → start_of g events ≡ Some s → is_spawned (life_of s events).stage ≡ true
all_spawned g s events = go None no_life events (λ e. absurd (cc))
  where
    go : (o : Option ℕ) (life : Life) (events : List Event) → (o ≡ Some s → is_spawned life.stage ≡ true) → fold (start_behind g) o events ≡ Some s → is_spawned (fold (life_behind s) life events).stage ≡ true
    go o life [] h = h
    go o life (event ∷ events) h = go (start_behind g o event) (life_behind s life event) events (spawned_step g s o life event h)

spawned_more : (s : ℕ) (events : List Event) (event : Event) → is_spawned (life_of s events).stage ≡ true → is_spawned (life_of s (events ++ event ∷ [])).stage ≡ true
spawned_more s events event h = ap (λ (l : Life). is_spawned l.stage) (life_more s events event) ∙ spawned_next s (life_of s events) event h

spawned_outs : (s : ℕ) (events : List Event) (xs : List Out) → is_spawned (life_of s events).stage ≡ true → is_spawned (life_of s (behind events xs)).stage ≡ true
spawned_outs s events [] h = subst (λ z. is_spawned (life_of s z).stage ≡ true) (sym (append-nil events)) h
spawned_outs s events (x ∷ xs) h = subst (λ z. is_spawned (life_of s z).stage ≡ true) (append_assoc events (said x ∷ []) (map said xs)) (spawned_outs s (events ++ said x ∷ []) xs (spawned_more s events (said x) h))

-- so each last start of a group was
abbrev pub Spawned : List Event → Type 0
Spawned events = (g s : ℕ) → start_of g events ≡ Some s → is_spawned (life_of s events).stage ≡ true

spawn_now : (g n : ℕ) (events : List Event) → Spawned events → Spawned (events ++ said (Spawn n g) ∷ [])
spawn_now g n events h i s at = ap (λ (l : Life). is_spawned l.stage) (life_more s events (said (Spawn n g))) ∙ go (nat_eq g i) (sym (start_more i events (said (Spawn n g))) ∙ at)
  where
    the : {v w : ℕ} → ◌≡◌ {A = Option ℕ} (Some v) (Some w) → v ≡ w
    the e = cc

    go : (b : Bool) → (if b then Some n else start_of i events) ≡ Some s → is_spawned (if nat_eq n s then record { stage = Spawning; started = false } else life_of s events).stage ≡ true
    go true k = ap (λ b. is_spawned (if b then record { stage = Spawning; started = false } else life_of s events).stage) (subst (λ z. nat_eq n z ≡ true) (the k) (same_number n))
    go false k = by_test is_spawned true (nat_eq n s) (record { stage = Spawning; started = false }) (life_of s events) refl (h i s k)

spawned_same : (events : List Event) (event : Event) → ((g : ℕ) → start_of g (events ++ event ∷ []) ≡ start_of g events) → Spawned events → Spawned (events ++ event ∷ [])
spawned_same events event same h g s at = spawned_more s events event (h g s (sym (same g) ∙ at))

pub spawned_did : (events : List Event) (out : Out) → Spawned events → Spawned (events ++ said out ∷ [])
spawned_did events (Spawn n g) h = spawn_now g n events h
spawned_did events (ToEditor e body) h = spawned_same events (said (ToEditor e body)) (λ g. start_more g events (said (ToEditor e body))) h
spawned_did events (ToServer n body) h = spawned_same events (said (ToServer n body)) (λ g. start_more g events (said (ToServer n body))) h
spawned_did events (CloseEditor e) h = spawned_same events (said (CloseEditor e)) (λ g. start_more g events (said (CloseEditor e))) h
spawned_did events (EndServer n) h = spawned_same events (said (EndServer n)) (λ g. start_more g events (said (EndServer n))) h

pub spawned_took : (events : List Event) (cause : Cause) → Spawned events → Spawned (with_cause events cause)
spawned_took events cause h = spawned_same events (heard cause) (λ g. start_took g events cause) h

pub spawned_behind : (events : List Event) (xs : List Out) → Spawned events → Spawned (behind events xs)
spawned_behind events [] h = subst Spawned (sym (append-nil events)) h
spawned_behind events (x ∷ xs) h = subst Spawned (append_assoc events (said x ∷ []) (map said xs)) (spawned_behind (events ++ said x ∷ []) xs (spawned_did events x h))

pub spawned_none : Spawned []
spawned_none g s at = absurd (cc)

-- A start that isn't up

abbrev pub IsOff : ℕ → List Event → Type 0
IsOff s events = is_up (life_of s events).stage ≡ false

-- it isn't the one that this event spawns
abbrev IsApart : ℕ → Event → Type 0
IsApart s (did (Spawn n g) m) = nat_eq n s ≡ false
IsApart s other = Unit {0}

off_next : (s : ℕ) (life : Life) (event : Event) → IsApart s event → is_up life.stage ≡ false → is_up (life_behind s life event).stage ≡ false
off_next s life (took (Started n) m) apart h = by_test is_up false (nat_eq n s) (record { stage = stage_started life.stage; started = true }) life (off_started life.stage h) h
off_next s life (took (StartFailed n) m) apart h = by_test is_up false (nat_eq n s) (record { stage = Ended; started = life.started }) life refl h
off_next s life (took (FromServer n body) m) apart h = by_test is_up false (nat_eq n s) (record { stage = stage_hears life.stage m; started = life.started }) life (off_hears life.stage m h) h
off_next s life (took (ServerGone n) m) apart h = by_test is_up false (nat_eq n s) (record { stage = Ended; started = life.started }) life refl h
off_next s life (did (Spawn n g) m) apart h = ap (λ b. is_up (if b then record { stage = Spawning; started = false } else life).stage) apart ∙ h
off_next s life (did (ToServer n body) m) apart h = by_test is_up false (nat_eq n s) (record { stage = stage_told life.stage m; started = life.started }) life (off_told life.stage m h) h
off_next s life (did (EndServer n) m) apart h = by_test is_up false (nat_eq n s) (record { stage = stage_ending life.stage; started = life.started }) life (off_ending life.stage) h
off_next s life other apart h = h

off_more : (s : ℕ) (events : List Event) (event : Event) → IsApart s event → IsOff s events → IsOff s (events ++ event ∷ [])
off_more s events event apart h = ap (λ (l : Life). is_up l.stage) (life_more s events event) ∙ off_next s (life_of s events) event apart h

heard_apart : (s : ℕ) (cause : Cause) → IsApart s (heard cause)
heard_apart s (Joined e) = tt
heard_apart s (FromEditor e body) = tt
heard_apart s (EditorGone e why) = tt
heard_apart s (Started n) = tt
heard_apart s (StartFailed n) = tt
heard_apart s (FromServer n body) = tt
heard_apart s (ServerGone n) = tt
heard_apart s (Drained e k) = tt
heard_apart s (Tick t) = tt

said_apart : (s : ℕ) (out : Out) → NoSpawn out → IsApart s (said out)
said_apart s (Spawn n g) h = absurd h
said_apart s (ToEditor e body) h = tt
said_apart s (ToServer n body) h = tt
said_apart s (CloseEditor e) h = tt
said_apart s (EndServer n) h = tt

pub off_took : (s : ℕ) (events : List Event) (cause : Cause) → IsOff s events → IsOff s (with_cause events cause)
off_took s events cause h = off_more s events (heard cause) (heard_apart s cause) h

pub off_spawn : (s n g : ℕ) (events : List Event) → nat_eq n s ≡ false → IsOff s events → IsOff s (events ++ said (Spawn n g) ∷ [])
off_spawn s n g events apart h = off_more s events (said (Spawn n g)) apart h

pub off_outs : (s : ℕ) (events : List Event) (xs : List Out) → AllByRecursion NoSpawn xs → IsOff s events → IsOff s (behind events xs)
off_outs s events [] all h = subst (IsOff s) (sym (append-nil events)) h
off_outs s events (x ∷ xs) all h = subst (IsOff s) (append_assoc events (said x ∷ []) (map said xs)) (off_outs s (events ++ said x ∷ []) xs all.1 (off_more s events (said x) (said_apart s x all.0) h))

-- and one whose program is to be ended is none
pub off_ended : (s : ℕ) (events : List Event) → IsOff s (events ++ said (EndServer s) ∷ [])
off_ended s events = ap (λ (l : Life). is_up l.stage) (life_more s events (said (EndServer s)))
    ∙ (ap (λ b. is_up (if b then record { stage = stage_ending (life_of s events).stage; started = (life_of s events).started } else life_of s events).stage) (same_number s) ∙ off_ending (life_of s events).stage)

-- A start that ended

ended_started : (stage : Stage) → is_ended stage ≡ true → is_ended (stage_started stage) ≡ true
ended_started Spawning h = never (sym h)
ended_started other h = h

ended_hears : (stage : Stage) (m : Message) → is_ended stage ≡ true → is_ended (stage_hears stage m) ≡ true
ended_hears Initializing m h = never (sym h)
ended_hears other m h = h

ended_told : (stage : Stage) (m : Message) → is_ended stage ≡ true → is_ended (stage_told stage m) ≡ true
ended_told Ready m h = never (sym h)
ended_told other m h = h

ended_ending : (stage : Stage) → is_ended stage ≡ true → is_ended (stage_ending stage) ≡ true
ended_ending Ended h = refl
ended_ending Unspawned h = never (sym h)
ended_ending Spawning h = never (sym h)
ended_ending Initializing h = never (sym h)
ended_ending Ready h = never (sym h)
ended_ending Stopping h = never (sym h)
ended_ending Ending h = never (sym h)

ended_next : (s : ℕ) (life : Life) (event : Event) → IsApart s event → is_ended life.stage ≡ true → is_ended (life_behind s life event).stage ≡ true
ended_next s life (took (Started n) m) apart h = by_test is_ended true (nat_eq n s) (record { stage = stage_started life.stage; started = true }) life (ended_started life.stage h) h
ended_next s life (took (StartFailed n) m) apart h = by_test is_ended true (nat_eq n s) (record { stage = Ended; started = life.started }) life refl h
ended_next s life (took (FromServer n body) m) apart h = by_test is_ended true (nat_eq n s) (record { stage = stage_hears life.stage m; started = life.started }) life (ended_hears life.stage m h) h
ended_next s life (took (ServerGone n) m) apart h = by_test is_ended true (nat_eq n s) (record { stage = Ended; started = life.started }) life refl h
ended_next s life (did (Spawn n g) m) apart h = ap (λ b. is_ended (if b then record { stage = Spawning; started = false } else life).stage) apart ∙ h
ended_next s life (did (ToServer n body) m) apart h = by_test is_ended true (nat_eq n s) (record { stage = stage_told life.stage m; started = life.started }) life (ended_told life.stage m h) h
ended_next s life (did (EndServer n) m) apart h = by_test is_ended true (nat_eq n s) (record { stage = stage_ending life.stage; started = life.started }) life (ended_ending life.stage h) h
ended_next s life other apart h = h

ended_more : (s : ℕ) (events : List Event) (event : Event) → IsApart s event → is_ended (life_of s events).stage ≡ true → is_ended (life_of s (events ++ event ∷ [])).stage ≡ true
ended_more s events event apart h = ap (λ (l : Life). is_ended l.stage) (life_more s events event) ∙ ended_next s (life_of s events) event apart h

ended_outs : (s : ℕ) (events : List Event) (xs : List Out) → AllByRecursion NoSpawn xs → is_ended (life_of s events).stage ≡ true → is_ended (life_of s (behind events xs)).stage ≡ true
ended_outs s events [] all h = subst (λ z. is_ended (life_of s z).stage ≡ true) (sym (append-nil events)) h
ended_outs s events (x ∷ xs) all h = subst (λ z. is_ended (life_of s z).stage ≡ true) (append_assoc events (said x ∷ []) (map said xs)) (ended_outs s (events ++ said x ∷ []) xs all.1 (ended_more s events (said x) (said_apart s x all.0) h))

-- so one that hasn't ended behind these didn't before them
unended : (before later : Bool) → (before ≡ true → later ≡ true) → later ≡ false → before ≡ false
unended true later keeps off = never (sym (keeps refl) ∙ off)
unended false later keeps off = refl

pub unended_took : (s : ℕ) (events : List Event) (cause : Cause) → is_ended (life_of s (with_cause events cause)).stage ≡ false → is_ended (life_of s events).stage ≡ false
unended_took s events cause off = unended (is_ended (life_of s events).stage) (is_ended (life_of s (with_cause events cause)).stage) (ended_more s events (heard cause) (heard_apart s cause)) off

pub unended_outs : (s : ℕ) (events : List Event) (xs : List Out) → AllByRecursion NoSpawn xs → is_ended (life_of s (behind events xs)).stage ≡ false → is_ended (life_of s events).stage ≡ false
unended_outs s events xs all off = unended (is_ended (life_of s events).stage) (is_ended (life_of s (behind events xs)).stage) (ended_outs s events xs all) off

pub unended_spawn : (s n g : ℕ) (events : List Event) → nat_eq n s ≡ false → is_ended (life_of s (events ++ said (Spawn n g) ∷ [])).stage ≡ false → is_ended (life_of s events).stage ≡ false
unended_spawn s n g events apart off = unended (is_ended (life_of s events).stage) (is_ended (life_of s (events ++ said (Spawn n g) ∷ [])).stage) (ended_more s events (said (Spawn n g)) apart) off

-- The numbers of `shutdown`

-- the number of the next request to each last start of a group that is ready is small
abbrev pub Low : List Event → Type 0
Low events = (g s : ℕ) → start_of g events ≡ Some s → (life_of s events).stage ≡ Ready → next_number s events < 2 ^ 128

low_did : (events : List Event) (out : Out) → NoSpawn out → ((s : ℕ) → (life_of s (events ++ said out ∷ [])).stage ≡ Ready → ((life_of s events).stage ≡ Ready) × (next_number s (events ++ said out ∷ []) ≡ next_number s events)) → Low events → Low (events ++ said out ∷ [])
low_did events out quiet back low g s at ready = let k = back s ready in subst (λ n. n < 2 ^ 128) (sym k.1) (low g s (sym (start_did g events out quiet) ∙ at) k.0)

low_sent : (settings : Settings) (n : ℕ) (text : List ℕ) (events : List Event) → requests (codes "shutdown") (message_of text) ≡ true → Low events → Low (events ++ said (ToServer n text) ∷ [])
low_sent settings n text events asks low = low_did events (ToServer n text) tt (λ s. go s (nat_eq n s) refl) low
  where
    stage_by : (s : ℕ) (b : Bool) → nat_eq n s ≡ b → (life_of s (events ++ said (ToServer n text) ∷ [])).stage ≡ (if b then record { stage = stage_told (life_of s events).stage (message_of text); started = (life_of s events).started } else life_of s events).stage
    stage_by s b same = ap (λ (l : Life). l.stage) (life_more s events (said (ToServer n text)))
        ∙ ap (λ c. (if c then record { stage = stage_told (life_of s events).stage (message_of text); started = (life_of s events).started } else life_of s events).stage) same

    go : (s : ℕ) (b : Bool) → nat_eq n s ≡ b → (life_of s (events ++ said (ToServer n text) ∷ [])).stage ≡ Ready → ((life_of s events).stage ≡ Ready) × (next_number s (events ++ said (ToServer n text) ∷ []) ≡ next_number s events)
    go s true same ready = absurd (told_not (life_of s events).stage (message_of text) asks (sym (stage_by s true same) ∙ ready))
    go s false other ready = (sym (stage_by s false other) ∙ ready, number_other settings events n text s other)

low_ended : (n : ℕ) (events : List Event) → Low events → Low (events ++ said (EndServer n) ∷ [])
low_ended n events low = low_did events (EndServer n) tt (λ s. go s (nat_eq n s) refl) low
  where
    stage_by : (s : ℕ) (b : Bool) → nat_eq n s ≡ b → (life_of s (events ++ said (EndServer n) ∷ [])).stage ≡ (if b then record { stage = stage_ending (life_of s events).stage; started = (life_of s events).started } else life_of s events).stage
    stage_by s b same = ap (λ (l : Life). l.stage) (life_more s events (said (EndServer n)))
        ∙ ap (λ c. (if c then record { stage = stage_ending (life_of s events).stage; started = (life_of s events).started } else life_of s events).stage) same

    go : (s : ℕ) (b : Bool) → nat_eq n s ≡ b → (life_of s (events ++ said (EndServer n) ∷ [])).stage ≡ Ready → ((life_of s events).stage ≡ Ready) × (next_number s (events ++ said (EndServer n) ∷ []) ≡ next_number s events)
    go s true same ready = absurd (ending_not (life_of s events).stage (sym (stage_by s true same) ∙ ready))
    go s false other ready = (sym (stage_by s false other) ∙ ready, number_more s events (said (EndServer n)))

-- End(g)

shutdown_asks : (n : ℕ) → n < 2 ^ 128 → requests (codes "shutdown") (message_of (request_text n (codes "shutdown") None)) ≡ true
shutdown_asks n low = ap (requests (codes "shutdown")) (shutdown_says n low)

start_low : (settings : Settings) (s : ℕ) (stage : Stage) (events : List Event) → (stage ≡ Ready → next_number s events < 2 ^ 128) → Low events → Low (behind events (outs (end_start s stage) events))
start_low settings s Ready events number low = low_sent settings s (request_text (next_number s events) (codes "shutdown") None) events (shutdown_asks (next_number s events) (number refl)) low
start_low settings s Spawning events number low = low_ended s events low
start_low settings s Initializing events number low = low_ended s events low
start_low settings s other events number low = subst Low (sym (append-nil events)) low

group_low : (settings : Settings) (g : ℕ) (events : List Event) → Low events → Low (behind events (outs (end_group g) events))
group_low settings g events low = go (start_of g events) refl
  where
    go : (o : Option ℕ) → start_of g events ≡ o → Low (behind events (outs (on o nothing (λ s. end_start s (life_of s events).stage)) events))
    go None at = subst Low (sym (append-nil events)) low
    go (Some s) at = start_low settings s (life_of s events).stage events (λ ready. low g s at ready) low

start_off : (s : ℕ) (stage : Stage) (events : List Event) → (life_of s events).stage ≡ stage → is_spawned stage ≡ true → (stage ≡ Ready → next_number s events < 2 ^ 128) → IsOff s (behind events (outs (end_start s stage) events))
start_off s Unspawned events at spawned number = never (sym spawned)
start_off s Spawning events at spawned number = off_ended s events
start_off s Initializing events at spawned number = off_ended s events
start_off s Ready events at spawned number = ap (λ (l : Life). is_up l.stage) (life_more s events (said (ToServer s text)))
    ∙ (ap (λ b. is_up (if b then record { stage = stage_told (life_of s events).stage (message_of text); started = (life_of s events).started } else life_of s events).stage) (same_number s)
    ∙ (ap (λ z. is_up (stage_told z (message_of text))) at ∙ ap (λ b. is_up (if b then Stopping else Ready)) (shutdown_asks (next_number s events) (number refl))))
  where
    text : List ℕ
    text = request_text (next_number s events) (codes "shutdown") None
start_off s Stopping events at spawned number = subst (IsOff s) (sym (append-nil events)) (ap is_up at)
start_off s Ending events at spawned number = subst (IsOff s) (sym (append-nil events)) (ap is_up at)
start_off s Ended events at spawned number = subst (IsOff s) (sym (append-nil events)) (ap is_up at)

pub group_off : (g : ℕ) (events : List Event) → Low events → (s : ℕ) → start_of g events ≡ Some s → is_spawned (life_of s events).stage ≡ true → IsOff s (behind events (outs (end_group g) events))
group_off g events low s at spawned = subst (λ o. IsOff s (behind events (outs (on o nothing (λ n. end_start n (life_of n events).stage)) events))) (sym at) (start_off s (life_of s events).stage events refl spawned (λ ready. low g s at ready))

no_spawn : (g : ℕ) (events : List Event) → Because (λ places out. NoSpawn out) events (end_group g)
no_spawn g events = by_look (by_on (λ none. by_nothing) (λ s at. go s (life_of s events).stage))
  where
    go : (s : ℕ) (stage : Stage) → Because (λ places out. NoSpawn out) events (end_start s stage)
    go s Ready = by_look (by_send tt)
    go s Spawning = by_send tt
    go s Initializing = by_send tt
    go s other = by_nothing

no_spawns : (gs : List ℕ) (events : List Event) → Because (λ places out. NoSpawn out) events (each end_group gs)
no_spawns [] events = by_nothing
no_spawns (g ∷ gs) events = by_then (no_spawn g events) (no_spawns gs (behind events (outs (end_group g) events)))

pub group_quiet : (g : ℕ) (events : List Event) → AllByRecursion NoSpawn (outs (end_group g) events)
group_quiet g events = all_outs NoSpawn events (outs (end_group g) events) (no_spawn g events).why

pub groups_quiet : (gs : List ℕ) (events : List Event) → AllByRecursion NoSpawn (outs (each end_group gs) events)
groups_quiet gs events = all_outs NoSpawn events (outs (each end_group gs) events) (no_spawns gs events).why

-- behind the ends of these groups the last start of each isn't up
pub groups_off : (settings : Settings) (gs : List ℕ) (events : List Event) → Low events
    → AllByRecursion (λ g. (s : ℕ) → start_of g events ≡ Some s → is_spawned (life_of s events).stage ≡ true → IsOff s (behind events (outs (each end_group gs) events))) gs
groups_off settings [] events low = tt
groups_off settings (g ∷ gs) events low = (λ s at spawned. later s (off_outs s next rest (groups_quiet gs next) (group_off g events low s at spawned)), all_of Then Now step gs (groups_off settings gs next (group_low settings g events low)))
  where
    ones : List Out
    ones = outs (end_group g) events

    next : List Event
    next = behind events ones

    rest : List Out
    rest = outs (each end_group gs) next

    Then : ℕ → Type 0
    Then i = (s : ℕ) → start_of i next ≡ Some s → is_spawned (life_of s next).stage ≡ true → IsOff s (behind next rest)

    Now : ℕ → Type 0
    Now i = (s : ℕ) → start_of i events ≡ Some s → is_spawned (life_of s events).stage ≡ true → IsOff s (behind events (ones ++ rest))

    later : (s : ℕ) → IsOff s (behind next rest) → IsOff s (behind events (ones ++ rest))
    later s off = subst (IsOff s) (sym (behind_both events ones rest)) off

    step : (i : ℕ) → Then i → Now i
    step i f s at spawned = later s (f s (starts_stay i events ones (group_quiet g events) ∙ at) (spawned_outs s events ones spawned))
