-- What a start was sent of requests and documents, one event further.
use Rattle.std.proofs.Common.{◌≡◌, ℕ, ◌+◌, ◌≤◌, ◌<◌, Bool, true, false, List, [], ◌∷◌, ◌++◌, nat_eq, codes, decimal, if◌then◌else◌, Option, None, refl, sym, ◌∙◌, ap, ap₂, subst, arith, ltb-true, Some}
use Rattle.json_text.specs.Json.{Json}
use Rattle.document_model.specs.Helds.{told}
use Rattle.document_model.specs.Sayings.{saying_of, nothing}
use Rattle.document_model.proofs.Written.{Spoken, spoken}
use Rattle.mux_history.specs.declared.cause.Cause.{Cause}
use Rattle.mux_history.specs.declared.cause.Cause.TheVariants.{Joined, FromEditor, EditorGone, Started, StartFailed, FromServer, ServerGone, Drained, Tick}
use Rattle.mux_history.specs.declared.out.Out.{Out}
use Rattle.mux_history.specs.declared.out.Out.TheVariants.{ToServer}
use Rattle.rpc_message.specs.Message.{Message, request, notification, integer, message_of, result, error, not_json, not_message}
use Rattle.event_model.specs.declared.stage.Stage.{Stage}
use Rattle.event_model.specs.declared.stage.Stage.TheVariants.{Initializing, Ready, Stopping, Ended}
use Rattle.event_model.specs.Event.{Event, heard, said, with_cause, requests}
use Rattle.event_model.specs.Requests.{next_number, number_told}
use Rattle.event_model.specs.Settings.{Settings}
use Rattle.event_model.specs.Spawns.{starts_of}
use Rattle.event_model.specs.Stages.{Life, life_behind, life_of, no_life, stage_started, stage_told}
use Rattle.event_model.proofs.Frames.{never}
use Rattle.mux_model.specs.Documents.{Sent, held_at, sent_of}
use Rattle.mux_facts.proofs.Folds.{number_more, life_more}
use Rattle.mux_facts.proofs.Known.{is_unbegun}
use Rattle.mux_facts.proofs.Starts.{Starts}
use Rattle.mux_facts.proofs.Tellings.{sent_more}
use Rattle.mux_facts.proofs.Words.{number_same, same_number}
use Rattle.group_rows.specs.Forwarded.{Forwarding, first_sender, forwarding_of, forwards, no_forwarding, numbered, Sender}
use Rattle.group_facts.specs.Facts.{Bounded, Unbegun, Untold, is_unready, is_up}
use Rattle.group_facts.proofs.Facts.{Facts}
use Rattle.group_rows.proofs.Frames.{forwarding_more}
use Rattle.group_facts.proofs.Forwards.{notified_next}
use Rattle.group_facts.proofs.Levels.{Fresh, Step, each_start, level_more, unbegun_falls, unready_falls, up_falls}
use Rattle.group_facts.specs.Why.{IsBeginning, IsForward, WhyToServer, begins, greets, conveys, forwarded, notes, tells, shuts, cancels, IsReply, responds, exits, resolves, cancels_work, asker_at}
use Rattle.mux_facts.specs.Allowed.{is_response}

-- A cause leaves the numbers and the documents alone

pub number_heard : (s : ℕ) (events : List Event) (cause : Cause) → next_number s (with_cause events cause) ≡ next_number s events
number_heard s events (Joined e) = (number_more s events (heard (Joined e)))
number_heard s events cause = (number_more s events (heard cause))

held_heard : (s : ℕ) (u : List ℕ) (events : List Event) (cause : Cause) → held_at s u (with_cause events cause) ≡ held_at s u events
held_heard s u events (Joined e) = ap (λ (x : Sent). x.held) (sent_more s u events (heard (Joined e)))
held_heard s u events cause = ap (λ (x : Sent). x.held) (sent_more s u events (heard cause))

-- the program of s ends, or can't be run
abbrev pub ends_now : Cause → ℕ → Bool
ends_now (StartFailed n) s = nat_eq n s
ends_now (ServerGone n) s = nat_eq n s
ends_now other s = false

-- that of a start that passes the test behind the cause doesn't
goes_on : (test : Stage → Bool) → test Ended ≡ false → (s : ℕ) (life : Life) (cause : Cause) → test (life_behind s life (heard cause)).stage ≡ true → ends_now cause s ≡ false
goes_on test over s life (StartFailed n) h = go (nat_eq n s) h
  where
    go : (b : Bool) → test (if b then record { stage = Ended; started = life.started } else life).stage ≡ true → b ≡ false
    go true h = never (sym h ∙ over)
    go false h = refl
goes_on test over s life (ServerGone n) h = go (nat_eq n s) h
  where
    go : (b : Bool) → test (if b then record { stage = Ended; started = life.started } else life).stage ≡ true → b ≡ false
    go true h = never (sym h ∙ over)
    go false h = refl
goes_on test over s life other h = refl

next_left : (b : Bool) (x : Forwarding) → b ≡ false → (if b then no_forwarding else record { sender = None; next = x.next; open_requests = x.open_requests }).next ≡ x.next
next_left true x h = never h
next_left false x h = refl

pub forwarding_heard : (settings : Settings) (s : ℕ) (events : List Event) (cause : Cause) → ends_now cause s ≡ false → (forwarding_of settings s (with_cause events cause)).next ≡ (forwarding_of settings s events).next
forwarding_heard settings s events (Joined e) on = ap (λ (x : Forwarding). x.next) (forwarding_more settings s events (heard (Joined e)))
forwarding_heard settings s events (FromEditor e body) on = ap (λ (x : Forwarding). x.next) (forwarding_more settings s events (heard (FromEditor e body)))
forwarding_heard settings s events (Started n) on = ap (λ (x : Forwarding). x.next) (forwarding_more settings s events (heard (Started n)))
forwarding_heard settings s events (FromServer n body) on = ap (λ (x : Forwarding). x.next) (forwarding_more settings s events (heard (FromServer n body)))
forwarding_heard settings s events (Drained e k) on = ap (λ (x : Forwarding). x.next) (forwarding_more settings s events (heard (Drained e k)))
forwarding_heard settings s events (Tick t) on = ap (λ (x : Forwarding). x.next) (forwarding_more settings s events (heard (Tick t)))
forwarding_heard settings s events (EditorGone e why) on = ap (λ (x : Forwarding). x.next) (forwarding_more settings s events (heard (EditorGone e why)))
forwarding_heard settings s events (StartFailed n) on = ap (λ (x : Forwarding). x.next) (forwarding_more settings s events (heard (StartFailed n))) ∙ next_left (nat_eq n s) (forwarding_of settings s events) on
forwarding_heard settings s events (ServerGone n) on = ap (λ (x : Forwarding). x.next) (forwarding_more settings s events (heard (ServerGone n))) ∙ next_left (nat_eq n s) (forwarding_of settings s events) on

-- Bodies to a start

module _ (settings : Settings) (events : List Event) (n : ℕ) (body : List ℕ) where
  abbrev later : List Event
  later = events ++ said (ToServer n body) ∷ []

  module _ (m : Message) (says : message_of body ≡ m) where
    pub number_sent : next_number n later ≡ number_told (next_number n events) m
    number_sent = number_more n events (said (ToServer n body)) ∙ ap₂ (λ b k. if b then number_told (next_number n events) k else next_number n events) (same_number n) says

    pub forwarding_sent : forwarding_of settings n later ≡ forwards (first_sender settings n events) (forwarding_of settings n events) m
    forwarding_sent = forwarding_more settings n events (said (ToServer n body)) ∙ ap₂ (λ b k. if b then forwards (first_sender settings n events) (forwarding_of settings n events) k else forwarding_of settings n events) (same_number n) says

    held_sent : (u : List ℕ) → held_at n u later ≡ told (sent_of n u events).encoding u (held_at n u events) (saying_of m)
    held_sent u = ap (λ (x : Sent). x.held) (sent_more n u events (said (ToServer n body)))
        ∙ ap₂ (λ b k. if b then told (sent_of n u events).encoding u (held_at n u events) (saying_of k) else held_at n u events) (same_number n) says

    pub stage_sent : (life_behind n (life_of n events) (said (ToServer n body))).stage ≡ stage_told (life_of n events).stage m
    stage_sent = ap₂ (λ b k. (if b then record { stage = stage_told (life_of n events).stage k; started = (life_of n events).started } else life_of n events).stage) (same_number n) says

  -- another start
  module _ (s : ℕ) (other : nat_eq n s ≡ false) where
    pub number_other : next_number s later ≡ next_number s events
    number_other = number_more s events (said (ToServer n body)) ∙ ap (λ b. if b then number_told (next_number s events) (message_of body) else next_number s events) other

    pub forwarding_other : forwarding_of settings s later ≡ forwarding_of settings s events
    forwarding_other = forwarding_more settings s events (said (ToServer n body)) ∙ ap (λ b. if b then forwards (first_sender settings s events) (forwarding_of settings s events) (message_of body) else forwarding_of settings s events) other

    held_other : (u : List ℕ) → held_at s u later ≡ held_at s u events
    held_other u = ap (λ (x : Sent). x.held) (sent_more s u events (said (ToServer n body)))
        ∙ ap (λ b. if b then told (sent_of s u events).encoding u (held_at s u events) (saying_of (message_of body)) else held_at s u events) other

-- a response is no request, moves no number, and speaks of no document
pub response_forwards : (first : Option Sender) (x : Forwarding) (m : Message) → is_response m ≡ true → forwards first x m ≡ x
response_forwards first x (result id r) h = refl
response_forwards first x (error id e) h = refl
response_forwards first x (request id method params) h = absurd (cc)
response_forwards first x (notification method params) h = absurd (cc)
response_forwards first x not_json h = absurd (cc)
response_forwards first x not_message h = absurd (cc)

pub response_number : (n : ℕ) (m : Message) → is_response m ≡ true → number_told n m ≡ n
response_number n (result id r) h = refl
response_number n (error id e) h = refl
response_number n (request id method params) h = absurd (cc)
response_number n (notification method params) h = absurd (cc)
response_number n not_json h = absurd (cc)
response_number n not_message h = absurd (cc)

pub response_asks : (name : List ℕ) (m : Message) → is_response m ≡ true → requests name m ≡ false
response_asks name (result id r) h = refl
response_asks name (error id e) h = refl
response_asks name (request id method params) h = absurd (cc)
response_asks name (notification method params) h = absurd (cc)
response_asks name not_json h = absurd (cc)
response_asks name not_message h = absurd (cc)

pub response_silent : (m : Message) → is_response m ≡ true → saying_of m ≡ nothing
response_silent (result id r) h = refl
response_silent (error id e) h = refl
response_silent (request id method params) h = absurd (cc)
response_silent (notification method params) h = absurd (cc)
response_silent not_json h = absurd (cc)
response_silent not_message h = absurd (cc)

-- the stage of a start whose program begins
begun_stage : (before : List Event) (cause : Cause) (events : List Event) (s : ℕ) (body : List ℕ) → IsBeginning before cause events s body → (life_of s events).stage ≡ Initializing
begun_stage before cause events s body k = ap (λ z. (life_of s z).stage) (k.place ∙ ap (with_cause before) k.from) ∙ ap (λ (l : Life). l.stage) (life_more s before (heard (Started s)))
    ∙ ap (λ b. (if b then record { stage = stage_started (life_of s before).stage; started = true } else life_of s before).stage) (same_number s) ∙ ap stage_started k.stage

-- any other start that is sent a body is answered at once, is ready, or is to stop
ready_or : (settings : Settings) (before : List Event) (cause : Cause) (events : List Event) (s : ℕ) (body : List ℕ) (P : Type 0) → WhyToServer settings before cause events s body → (IsBeginning before cause events s body → P)
    → (IsReply before cause events s body → P) → ((life_of s events).stage ≡ Ready → P) → ((life_of s events).stage ≡ Stopping → P) → P
ready_or settings before cause events s body P (begins k) f r g h = f k
ready_or settings before cause events s body P (greets k) f r g h = g k.ready
ready_or settings before cause events s body P (conveys k) f r g h = g k.ready
ready_or settings before cause events s body P (forwarded k) f r g h = g k.ready
ready_or settings before cause events s body P (notes k) f r g h = g k.ready
ready_or settings before cause events s body P (tells k) f r g h = g k.ready
ready_or settings before cause events s body P (shuts k) f r g h = g k.ready
ready_or settings before cause events s body P (cancels k) f r g h = g k.ready
ready_or settings before cause events s body P (cancels_work k) f r g h = g k.ready
ready_or settings before cause events s body P (responds k) f r g h = r k
ready_or settings before cause events s body P (resolves k) f r g h = g k.ready
ready_or settings before cause events s body P (exits k) f r g h = h k.stopping

clash : (test : Stage → Bool) (a b : Stage) {A : Type 0} → a ≡ b → test b ≡ false → test a ≡ true → A
clash test a b e h k = never (sym k ∙ (ap test e ∙ h))

-- a start that is spawned wasn't before
pub spawn_fresh : (test : Stage → Bool) (f : test (no_life).stage ≡ true) (events : List Event) → Starts events → (s : ℕ) → nat_eq (starts_of events) s ≡ true → test (life_of s events).stage ≡ true
spawn_fresh test f events starts s same = ap (λ (l : Life). test l.stage) (starts s (omega (arith, number_same (starts_of events) s same))) ∙ f

-- A start whose program never ran was sent no request

abbrev NoRequest : Settings → ℕ → List Event → Type 0
NoRequest settings s events = (next_number s events ≡ 1) × ((forwarding_of settings s events).next ≡ 2)

abbrev HasNone : ℕ → List Event → Type 0
HasNone s events = (u : List ℕ) → held_at s u events ≡ None

module _ (settings : Settings) where
  abbrev InBounds : ℕ → List Event → Type 0
  InBounds s events = (next_number s events ≤ (forwarding_of settings s events).next) × ((forwarding_of settings s events).next ≤ settings.limits.requests + 2)

  bounds_by : (s : ℕ) (events later : List Event) → next_number s later ≡ (next_number s events) → (forwarding_of settings s later).next ≡ (forwarding_of settings s events).next → InBounds s events → InBounds s later
  bounds_by s events later a f k = (subst (λ z. z ≤ (forwarding_of settings s later).next) (sym a) (subst (λ z. next_number s events ≤ z) (sym f) k.0), subst (λ z. z ≤ settings.limits.requests + 2) (sym f) k.1)

  -- at a cause
  module _ (events : List Event) (cause : Cause) where
    pub unbegun_took : ((s : ℕ) → Fresh is_unbegun unbegun_falls s (life_of s events) (heard cause)) → Unbegun settings events → Unbegun settings (with_cause events cause)
    unbegun_took fresh h = level_more is_unbegun unbegun_falls (NoRequest settings) events (heard cause) fresh (λ s was after k. (number_heard s events cause ∙ k.0, forwarding_heard settings s events cause (goes_on is_unbegun refl s (life_of s events) cause after) ∙ k.1)) h

    pub untold_took : ((s : ℕ) → Fresh is_unready unready_falls s (life_of s events) (heard cause)) → Untold events → Untold (with_cause events cause)
    untold_took fresh h = level_more is_unready unready_falls HasNone events (heard cause) fresh (λ s was after k u. held_heard s u events cause ∙ k u) h

    pub bounded_took : ((s : ℕ) → Fresh is_up up_falls s (life_of s events) (heard cause)) → Bounded settings events → Bounded settings (with_cause events cause)
    bounded_took fresh h = level_more is_up up_falls InBounds events (heard cause) fresh (λ s was after k. bounds_by s events (with_cause events cause) (number_heard s events cause) (forwarding_heard settings s events cause (goes_on is_up refl s (life_of s events) cause after)) k) h

  -- at a body to a start
  module _ (before : List Event) (cause : Cause) (facts : Facts settings before) (events : List Event) (n : ℕ) (body : List ℕ) (why : WhyToServer settings before cause events n body) where
    abbrev sent : List Event
    sent = events ++ said (ToServer n body) ∷ []

    pub unbegun_sent : Unbegun settings events → Unbegun settings sent
    unbegun_sent h = level_more is_unbegun unbegun_falls (NoRequest settings) events (said (ToServer n body)) (λ s. tt)
        (each_start (Step is_unbegun unbegun_falls (NoRequest settings) events (said (ToServer n body))) n
        (λ was after k. ready_or settings before cause events n body (NoRequest settings n sent) why
        (λ b. clash is_unbegun (life_of n events).stage Initializing (begun_stage before cause events n body b) refl was) (λ b. clash is_unbegun (life_of n events).stage Initializing b.waiting refl was)
        (λ ready. clash is_unbegun (life_of n events).stage Ready ready refl was) (λ stopping. clash is_unbegun (life_of n events).stage Stopping stopping refl was))
        (λ s other was after k. ((number_other settings events n body s other) ∙ k.0, ap (λ (x : Forwarding). x.next) (forwarding_other settings events n body s other) ∙ k.1))) h

    pub untold_sent : Untold events → Untold sent
    untold_sent h = level_more is_unready unready_falls HasNone events (said (ToServer n body)) (λ s. tt)
        (each_start (Step is_unready unready_falls HasNone events (said (ToServer n body))) n
        (λ was after k. ready_or settings before cause events n body (HasNone n sent) why
        (λ b u. held_sent settings events n body (request (integer (codes "1")) (codes "initialize") b.params) b.says u ∙ k u)
        (λ b u. held_sent settings events n body (message_of body) refl u ∙ (ap (told (sent_of n u events).encoding u (held_at n u events)) (response_silent (message_of body) b.response) ∙ k u))
        (λ ready. clash is_unready (life_of n events).stage Ready ready refl was) (λ stopping. clash is_unready (life_of n events).stage Stopping stopping refl was))
        (λ s other was after k u. held_other settings events n body s other u ∙ k u)) h

    -- a notification
    notified : (method : List ℕ) (params : Option Json) → message_of body ≡ notification method params → InBounds n events → InBounds n sent
    notified method params says k = bounds_by n events sent ((number_sent settings events n body (notification method params) says))
        (ap (λ (x : Forwarding). x.next) (forwarding_sent settings events n body (notification method params) says) ∙ notified_next (first_sender settings n events) (forwarding_of settings n events) method params) k

    -- the daemon's own `initialize`
    opened : IsBeginning before cause events n body → InBounds n sent
    opened b =
        let m : Message = request (integer (codes "1")) (codes "initialize") b.params in
        let here : events ≡ with_cause before (Started n) = b.place ∙ ap (with_cause before) b.from in
        let none : NoRequest settings n before = (facts.steady).unbegun n (rw b.stage refl) in
        let asked : next_number n events ≡ 1 = ap (λ z. next_number n z) here ∙ number_heard n before (Started n) ∙ none.0 in
        let sent_on : (forwarding_of settings n events).next ≡ 2 = ap (λ z. (forwarding_of settings n z).next) here ∙ forwarding_heard settings n before (Started n) refl ∙ none.1 in
        let a : next_number n sent ≡ next_number n events + 1 = (number_sent settings events n body m b.says) in
        let f : (forwarding_of settings n sent).next ≡ (forwarding_of settings n events).next = ap (λ (x : Forwarding). x.next) (forwarding_sent settings events n body m b.says) in
        (omega (arith, a, f, asked, sent_on), omega (arith, f, sent_on))

    -- an editor's request
    asked_on : IsForward settings before cause events n body → InBounds n events → InBounds n sent
    asked_on k b =
        let m : Message = request (integer (decimal (forwarding_of settings n events).next)) k.method k.params in
        let a : next_number n sent ≡ next_number n events + 1 = (number_sent settings events n body m k.says) in
        let f : (forwarding_of settings n sent).next ≡ (forwarding_of settings n events).next + 1 = ap (λ (x : Forwarding). x.next) (forwarding_sent settings events n body m k.says)
        ∙ ap (λ c. (if c then forwarding_of settings n events else record { sender = (forwarding_of settings n events).sender; next = (forwarding_of settings n events).next + 1; open_requests = (forwarding_of settings n events).open_requests ++ numbered (asker_at settings n events) (forwarding_of settings n events).next }).next) k.other in
        let room : (forwarding_of settings n events).next < settings.limits.requests = ltb-true (forwarding_of settings n events).next settings.limits.requests k.room in
        let first : next_number n events ≤ (forwarding_of settings n events).next = b.0 in
        (omega (arith, a, f, first), omega (arith, f, room))

    -- it is to end behind the daemon's own `shutdown`
    one_bounded : WhyToServer settings before cause events n body → Step is_up up_falls InBounds events (said (ToServer n body)) n
    one_bounded (begins b) was after k = opened b
    one_bounded (greets b) was after k = notified (codes "initialized") b.params b.says k
    one_bounded (conveys b) was after k = notified (codes "workspace/didChangeConfiguration") b.params b.says k
    one_bounded (forwarded b) was after k = asked_on b k
    one_bounded (notes b) was after k = notified b.method b.params b.says k
    one_bounded (tells b) was after k = let m : Spoken (message_of body) = spoken (message_of body) b.spoken in notified m.method m.params m.is k
    one_bounded (cancels b) was after k = notified (codes "$/cancelRequest") (Some b.params) b.says k
    one_bounded (cancels_work b) was after k = notified (codes "window/workDoneProgress/cancel") b.params b.says k
    one_bounded (responds b) was after k = bounds_by n events sent (number_sent settings events n body (message_of body) refl ∙ response_number (next_number n events) (message_of body) b.response)
        (ap (λ (x : Forwarding). x.next) (forwarding_sent settings events n body (message_of body) refl ∙ response_forwards (first_sender settings n events) (forwarding_of settings n events) (message_of body) b.response)) k
    one_bounded (resolves b) was after k = bounds_by n events sent (number_sent settings events n body (message_of body) refl ∙ response_number (next_number n events) (message_of body) b.response)
        (ap (λ (x : Forwarding). x.next) (forwarding_sent settings events n body (message_of body) refl ∙ response_forwards (first_sender settings n events) (forwarding_of settings n events) (message_of body) b.response)) k
    one_bounded (exits b) was after k = notified (codes "exit") None b.says k
    one_bounded (shuts b) was after k = clash is_up (life_behind n (life_of n events) (said (ToServer n body))).stage Stopping
        (stage_sent settings events n body (request (integer (decimal (next_number n events))) (codes "shutdown") None) b.says ∙ ap (λ z. stage_told z (request (integer (decimal (next_number n events))) (codes "shutdown") None)) b.ready) refl after

    pub bounded_sent : Bounded settings events → Bounded settings sent
    bounded_sent h = level_more is_up up_falls InBounds events (said (ToServer n body)) (λ s. tt)
        (each_start (Step is_up up_falls InBounds events (said (ToServer n body))) n (one_bounded why)
        (λ s other was after k. bounds_by s events sent ((number_other settings events n body s other)) (ap (λ (x : Forwarding). x.next) (forwarding_other settings events n body s other)) k)) h

  -- at any other out: these words stay
  module _ (events : List Event) (out : Out) (a : (s : ℕ) → next_number s (events ++ said out ∷ []) ≡ next_number s events) (f : (s : ℕ) → (forwarding_of settings s (events ++ said out ∷ [])).next ≡ (forwarding_of settings s events).next)
      (d : (s : ℕ) (u : List ℕ) → held_at s u (events ++ said out ∷ []) ≡ held_at s u events) where
    pub unbegun_said : ((s : ℕ) → Fresh is_unbegun unbegun_falls s (life_of s events) (said out)) → Unbegun settings events → Unbegun settings (events ++ said out ∷ [])
    unbegun_said fresh h = level_more is_unbegun unbegun_falls (NoRequest settings) events (said out) fresh (λ s was after k. (a s ∙ k.0, f s ∙ k.1)) h

    pub untold_said : ((s : ℕ) → Fresh is_unready unready_falls s (life_of s events) (said out)) → Untold events → Untold (events ++ said out ∷ [])
    untold_said fresh h = level_more is_unready unready_falls HasNone events (said out) fresh (λ s was after k u. d s u ∙ k u) h

    pub bounded_said : ((s : ℕ) → Fresh is_up up_falls s (life_of s events) (said out)) → Bounded settings events → Bounded settings (events ++ said out ∷ [])
    bounded_said fresh h = level_more is_up up_falls InBounds events (said out) fresh (λ s was after k. bounds_by s events (events ++ said out ∷ []) (a s) (f s) k) h
