-- While a start is ready, the request that is next has one number by both counts: of all requests, and of those of editors; while it is to stop, `shutdown` is counted in the first alone.
use Rattle.std.proofs.Common.{◌≡◌, ℕ, ◌+◌, ◌<◌, ◌≤◌, Bool, true, false, List, [], ◌∷◌, ◌++◌, nat_eq, codes, bytes_eq, decimal, not, if◌then◌else◌, Option, None, Some, refl, sym, ◌∙◌, ap, subst, subst₂, append-nil, arith}
use Rattle.std.specs.Prelude.{slice_get}
use Rattle.std.proofs.lemmas.Bool.{and_parts}
use Rattle.std.proofs.lemmas.Slice.Eq.{bytes_eq-Decides}
use Rattle.json_text.specs.Json.{Json}
use Rattle.document_model.proofs.Written.{Spoken, spoken}
use Rattle.mux_history.specs.declared.cause.Cause.{Cause}
use Rattle.mux_history.specs.declared.cause.Cause.TheVariants.{Joined, FromEditor, EditorGone, Started, StartFailed, FromServer, ServerGone, Drained, Tick}
use Rattle.mux_history.specs.declared.out.Out.{Out}
use Rattle.mux_history.specs.declared.out.Out.TheVariants.{ToServer}
use Rattle.rpc_message.specs.Message.{Message, request, notification, integer, message_of}
use Rattle.event_model.specs.declared.stage.Stage.{Stage}
use Rattle.event_model.specs.declared.stage.Stage.TheVariants.{Unspawned, Spawning, Initializing, Ready, Stopping, Ending, Ended}
use Rattle.event_model.specs.Event.{Event, heard, said, behind, with_cause}
use Rattle.event_model.specs.Requests.{is_own, next_number}
use Rattle.event_model.specs.Row.{outs}
use Rattle.event_model.specs.Settings.{Settings}
use Rattle.event_model.specs.Spawns.{starts_of}
use Rattle.event_model.specs.Stages.{Life, life_of, life_behind, is_first_result, is_spawning, may_begin, stage_ending, stage_hears, stage_started, stage_told}
use Rattle.event_model.proofs.Frames.{never}
use Rattle.event_model.proofs.Places.{item_at}
use Rattle.mux_model.specs.Fits.{fits_behind}
use Rattle.mux_facts.proofs.Folds.{life_more}
use Rattle.mux_facts.proofs.Starts.{Starts}
use Rattle.mux_facts.proofs.Words.{number_same, same_number}
use Rattle.group_words.specs.declared.kept.Kept.{Kept}
use Rattle.group_words.specs.Houses.{groups_of}
use Rattle.group_words.specs.Rows.{initialize_of}
use Rattle.group_rows.specs.Forwarded.{Forwarding, first_sender, forwarding_of, numbered}
use Rattle.mux_facts.specs.Allowed.{is_response}
use Rattle.group_rows.specs.Rows.{outs_of, started}
use Rattle.group_facts.specs.Facts.{Housed, IsHoused, IsWritten, Unbegun, Written}
use Rattle.group_facts.specs.Why.{IsForward, WhyToServer, begins, greets, conveys, forwarded, notes, tells, shuts, cancels, responds, IsShutting, exits, resolves, cancels_work, asker_at}
use Rattle.group_facts.proofs.Forwards.{get_all}
use Rattle.group_facts.proofs.Facts.{AllTied, OthersTied, Tied, TiedAt, begins_now}
use Rattle.group_facts.proofs.Forwards.{notified_next}
use Rattle.group_facts.proofs.Levels.{each_start}
use Rattle.group_facts.proofs.Numbers.{number_heard, number_other, number_sent, forwarding_heard, forwarding_other, forwarding_sent, stage_sent, response_forwards, response_number, ends_now}

tied_by : (settings : Settings) (s : ℕ) (events later : List Event) (stage : Stage) → (life_of s later).stage ≡ stage → next_number s later ≡ (next_number s events) → (forwarding_of settings s later).next ≡ (forwarding_of settings s events).next → TiedAt stage (next_number s events) (forwarding_of settings s events).next → Tied settings later s
tied_by settings s events later stage l a f h = subst (λ z. TiedAt z (next_number s later) (forwarding_of settings s later).next) (sym l) (subst₂ (TiedAt stage) (sym a) (sym f) h)

-- A cause

heard_first : (stage : Stage) (m : Message) (a f : ℕ) → TiedAt stage a f → TiedAt (stage_hears stage m) a f
heard_first Initializing m a f h = go (is_first_result m)
  where
    go : (b : Bool) → TiedAt (if b then Ready else Initializing) a f
    go true = h.0 ∙ sym h.1
    go false = h
heard_first other m a f h = h

if_life : (b : Bool) (x y : Life) (a f : ℕ) → TiedAt x.stage a f → TiedAt y.stage a f → TiedAt (if b then x else y).stage a f
if_life true x y a f h k = h
if_life false x y a f h k = k

-- a start that ended has nothing to tie
tied_end : (settings : Settings) (events : List Event) (cause : Cause) (s : ℕ) (b : Bool) → (life_of s (with_cause events cause)).stage ≡ (if b then record { stage = Ended; started = (life_of s events).started } else life_of s events).stage → (b ≡ false → ends_now cause s ≡ false) → Tied settings events s → Tied settings (with_cause events cause) s
tied_end settings events cause s true life on h = subst (λ z. TiedAt z (next_number s (with_cause events cause)) (forwarding_of settings s (with_cause events cause)).next) (sym life) tt
tied_end settings events cause s false life on h = tied_by settings s events (with_cause events cause) (life_of s events).stage life (number_heard s events cause) (forwarding_heard settings s events cause (on refl)) h

pub tied_took : (settings : Settings) (events : List Event) (cause : Cause) → AllTied settings events → OthersTied settings cause (with_cause events cause)
tied_took settings events (Joined e) h = λ s rest. tied_by settings s events (with_cause events (Joined e)) (life_of s events).stage (ap (λ (l : Life). l.stage) (life_more s events (heard (Joined e)))) (number_heard s events (Joined e)) (forwarding_heard settings s events (Joined e) refl) (h s)
tied_took settings events (FromEditor e body) h = λ s rest. tied_by settings s events (with_cause events (FromEditor e body)) (life_of s events).stage (ap (λ (l : Life). l.stage) (life_more s events (heard (FromEditor e body)))) (number_heard s events (FromEditor e body)) (forwarding_heard settings s events (FromEditor e body) refl) (h s)
tied_took settings events (Started n) h = λ s rest. tied_by settings s events (with_cause events (Started n)) (life_of s events).stage
    (ap (λ (l : Life). l.stage) (life_more s events (heard (Started n))) ∙ ap (λ b. (if b then record { stage = stage_started (life_of s events).stage; started = true } else life_of s events).stage) rest) (number_heard s events (Started n)) (forwarding_heard settings s events (Started n) refl) (h s)
tied_took settings events (FromServer n body) h = λ s rest. tied_by settings s events (with_cause events (FromServer n body)) _ (ap (λ (l : Life). l.stage) (life_more s events (heard (FromServer n body)))) (number_heard s events (FromServer n body)) (forwarding_heard settings s events (FromServer n body) refl)
    (if_life (nat_eq n s) (record { stage = stage_hears (life_of s events).stage (message_of body); started = (life_of s events).started }) (life_of s events) (next_number s events) (forwarding_of settings s events).next
    (heard_first (life_of s events).stage (message_of body) (next_number s events) (forwarding_of settings s events).next (h s)) (h s))
tied_took settings events (Drained e k) h = λ s rest. tied_by settings s events (with_cause events (Drained e k)) (life_of s events).stage (ap (λ (l : Life). l.stage) (life_more s events (heard (Drained e k)))) (number_heard s events (Drained e k)) (forwarding_heard settings s events (Drained e k) refl) (h s)
tied_took settings events (Tick t) h = λ s rest. tied_by settings s events (with_cause events (Tick t)) (life_of s events).stage (ap (λ (l : Life). l.stage) (life_more s events (heard (Tick t)))) (number_heard s events (Tick t)) (forwarding_heard settings s events (Tick t) refl) (h s)
tied_took settings events (EditorGone e why) h = λ s rest. tied_by settings s events (with_cause events (EditorGone e why)) (life_of s events).stage (ap (λ (l : Life). l.stage) (life_more s events (heard (EditorGone e why)))) (number_heard s events (EditorGone e why)) (forwarding_heard settings s events (EditorGone e why) refl) (h s)
tied_took settings events (StartFailed n) h = λ s rest. tied_end settings events (StartFailed n) s (nat_eq n s) (ap (λ (l : Life). l.stage) (life_more s events (heard (StartFailed n)))) (λ on. on) (h s)
tied_took settings events (ServerGone n) h = λ s rest. tied_end settings events (ServerGone n) s (nat_eq n s) (ap (λ (l : Life). l.stage) (life_more s events (heard (ServerGone n)))) (λ on. on) (h s)

-- A body to a start

-- an editor's request isn't `shutdown`: a ready start stays ready
pub no_shutdown : (method : List ℕ) → is_own method ≡ false → bytes_eq (codes "shutdown") method ≡ false
no_shutdown method other = go (bytes_eq (codes "shutdown") method) refl
  where
    own : method ≡ codes "shutdown" → is_own method ≡ true
    own is = ap is_own is

    go : (b : Bool) → bytes_eq (codes "shutdown") method ≡ b → b ≡ false
    go true same = never (sym (own (sym ((bytes_eq-Decides (codes "shutdown") method).0 same))) ∙ other)
    go false same = refl

module _ (settings : Settings) (cause : Cause) (events : List Event) (n : ℕ) (body : List ℕ) where
  abbrev sent : List Event
  sent = events ++ said (ToServer n body) ∷ []

  abbrev Later : ℕ → Type 0
  Later s = begins_now cause s ≡ false → Tied settings events s → Tied settings sent s

  stage_now : (m : Message) → message_of body ≡ m → (life_of n sent).stage ≡ stage_told (life_of n events).stage m
  stage_now m says = ap (λ (l : Life). l.stage) (life_more n events (said (ToServer n body))) ∙ stage_sent settings events n body m says

  notified : (method : List ℕ) (params : Option Json) (stage : Stage) → message_of body ≡ notification method params → (life_of n events).stage ≡ stage → stage_told stage (notification method params) ≡ stage → Later n
  notified method params stage says at same rest h = tied_by settings n events sent stage (stage_now (notification method params) says ∙ ap (λ z. stage_told z (notification method params)) at ∙ same)
      ((number_sent settings events n body (notification method params) says))
      (ap (λ (x : Forwarding). x.next) (forwarding_sent settings events n body (notification method params) says) ∙ notified_next (first_sender settings n events) (forwarding_of settings n events) method params)
      (subst (λ z. TiedAt z (next_number n events) (forwarding_of settings n events).next) at h)

  -- an editor's request
  goes : {before : List Event} (k : IsForward settings before cause events n body) → Tied settings events n → Tied settings sent n
  goes k h =
      let m : Message = request (integer (decimal (forwarding_of settings n events).next)) k.method k.params in
      let a : next_number n sent ≡ next_number n events + 1 = (number_sent settings events n body m k.says) in
      let f : (forwarding_of settings n sent).next ≡ (forwarding_of settings n events).next + 1 = ap (λ (x : Forwarding). x.next) (forwarding_sent settings events n body m k.says)
      ∙ ap (λ c. (if c then forwarding_of settings n events else record { sender = (forwarding_of settings n events).sender; next = (forwarding_of settings n events).next + 1; open_requests = (forwarding_of settings n events).open_requests ++ numbered (asker_at settings n events) (forwarding_of settings n events).next }).next) k.other in
      let same : next_number n events ≡ (forwarding_of settings n events).next = subst (λ z. TiedAt z (next_number n events) (forwarding_of settings n events).next) k.ready h in
      let stage : (life_of n sent).stage ≡ Ready = stage_now m k.says ∙ ap (λ z. stage_told z m) k.ready ∙ ap (λ b. if b then Stopping else Ready) (no_shutdown k.method k.other) in
      subst (λ z. TiedAt z (next_number n sent) (forwarding_of settings n sent).next) (sym stage) (a ∙ ap (λ z. z + 1) same ∙ sym f)

  -- the daemon's own `shutdown`
  shut : {before : List Event} (k : IsShutting settings before cause events n body) → Tied settings events n → Tied settings sent n
  shut k h =
      let m : Message = request (integer (decimal (next_number n events))) (codes "shutdown") None in
      let a : next_number n sent ≡ next_number n events + 1 = (number_sent settings events n body m k.says) in
      let f : (forwarding_of settings n sent).next ≡ (forwarding_of settings n events).next = ap (λ (x : Forwarding). x.next) (forwarding_sent settings events n body m k.says) in
      let same : next_number n events ≡ (forwarding_of settings n events).next = subst (λ z. TiedAt z (next_number n events) (forwarding_of settings n events).next) k.ready h in
      let stage : (life_of n sent).stage ≡ Stopping = stage_now m k.says ∙ ap (λ z. stage_told z m) k.ready in
      subst (λ z. TiedAt z (next_number n sent) (forwarding_of settings n sent).next) (sym stage) (a ∙ ap (λ z. z + 1) (same ∙ sym f))

  response_stays : (m : Message) → is_response m ≡ true → stage_told Ready m ≡ Ready
  response_stays (request id method params) h = never (sym h)
  response_stays other h = refl

  module _ (before : List Event) where
    one_tied : WhyToServer settings before cause events n body → Later n
    one_tied (begins k) rest h = never (sym (ap (λ c. begins_now c n) k.from ∙ same_number n) ∙ rest)
    one_tied (greets k) rest h = notified (codes "initialized") k.params Ready k.says k.ready refl rest h
    one_tied (conveys k) rest h = notified (codes "workspace/didChangeConfiguration") k.params Ready k.says k.ready refl rest h
    one_tied (forwarded k) rest h = goes k h
    one_tied (notes k) rest h = notified k.method k.params Ready k.says k.ready refl rest h
    one_tied (tells k) rest h = let m : Spoken (message_of body) = spoken (message_of body) k.spoken in notified m.method m.params Ready m.is k.ready refl rest h
    one_tied (cancels k) rest h = notified (codes "$/cancelRequest") (Some k.params) Ready k.says k.ready refl rest h
    one_tied (cancels_work k) rest h = notified (codes "window/workDoneProgress/cancel") k.params Ready k.says k.ready refl rest h
    one_tied (responds k) rest h = tied_by settings n events sent Initializing (stage_now (message_of body) refl ∙ ap (λ z. stage_told z (message_of body)) k.waiting)
        (number_sent settings events n body (message_of body) refl ∙ response_number (next_number n events) (message_of body) k.response)
        (ap (λ (x : Forwarding). x.next) (forwarding_sent settings events n body (message_of body) refl ∙ response_forwards (first_sender settings n events) (forwarding_of settings n events) (message_of body) k.response))
        (subst (λ z. TiedAt z (next_number n events) (forwarding_of settings n events).next) k.waiting h)
    one_tied (resolves k) rest h = tied_by settings n events sent Ready (stage_now (message_of body) refl ∙ ap (λ z. stage_told z (message_of body)) k.ready ∙ response_stays (message_of body) k.response)
        (number_sent settings events n body (message_of body) refl ∙ response_number (next_number n events) (message_of body) k.response)
        (ap (λ (x : Forwarding). x.next) (forwarding_sent settings events n body (message_of body) refl ∙ response_forwards (first_sender settings n events) (forwarding_of settings n events) (message_of body) k.response))
        (subst (λ z. TiedAt z (next_number n events) (forwarding_of settings n events).next) k.ready h)
    one_tied (exits k) rest h = notified (codes "exit") None Stopping k.says k.stopping refl rest h
    one_tied (shuts k) rest h = shut k h

    pub tied_sent : WhyToServer settings before cause events n body → OthersTied settings cause events → OthersTied settings cause sent
    tied_sent why h s rest = each_start Later n (one_tied why)
        (λ k other left l. tied_by settings k events sent (life_of k events).stage (ap (λ (x : Life). x.stage) (life_more k events (said (ToServer n body)))
        ∙ ap (λ b. (if b then record { stage = stage_told (life_of k events).stage (message_of body); started = (life_of k events).started } else life_of k events).stage) other)
        ((number_other settings events n body k other)) (ap (λ (x : Forwarding). x.next) (forwarding_other settings events n body k other)) l) s rest (h s rest)

-- Other outs

pub tied_said : (settings : Settings) (cause : Cause) (events : List Event) (out : Out) → ((s : ℕ) → next_number s (events ++ said out ∷ []) ≡ next_number s events) → ((s : ℕ) → (forwarding_of settings s (events ++ said out ∷ [])).next ≡ (forwarding_of settings s events).next)
    → ((s : ℕ) (a f : ℕ) → TiedAt (life_of s events).stage a f → TiedAt (life_behind s (life_of s events) (said out)).stage a f) → OthersTied settings cause events → OthersTied settings cause (events ++ said out ∷ [])
tied_said settings cause events out a f l h s rest = tied_by settings s events (events ++ said out ∷ []) (life_behind s (life_of s events) (said out)).stage (ap (λ (x : Life). x.stage) (life_more s events (said out))) (a s) (f s)
    (l s (next_number s events) (forwarding_of settings s events).next (h s rest))

-- a start that is spawned, or that ends, has nothing to tie
pub tied_life : (b : Bool) (x y : Life) (a f : ℕ) → ((a f : ℕ) → TiedAt x.stage a f) → TiedAt y.stage a f → TiedAt (if b then x else y).stage a f
tied_life true x y a f g h = g a f
tied_life false x y a f g h = h

pub ending_tied : (stage : Stage) (a f : ℕ) → TiedAt (stage_ending stage) a f
ending_tied Ended a f = tt
ending_tied other a f = tt

-- Behind the entry that a program begins with

module _ (settings : Settings) (before : List Event) (n : ℕ) where
  abbrev now : List Event
  now = with_cause before (Started n)

  abbrev later : List Out → List Event
  later xs = behind now xs

  -- the daemon's own `initialize` is sent
  opened : (x : Kept) → IsWritten x → (life_of n before).stage ≡ Spawning → Unbegun settings before → Tied settings (later (ToServer n (initialize_of x) ∷ [])) n
  opened x k at unbegun =
      let m : Message = request (integer (codes "1")) (codes "initialize") k.params in
      let none : (next_number n before ≡ 1) × ((forwarding_of settings n before).next ≡ 2) = unbegun n (rw at refl) in
      let end : List Event = later (ToServer n (initialize_of x) ∷ []) in
      let stage : (life_of n end).stage ≡ Initializing = ap (λ (l : Life). l.stage) (life_more n now (said (ToServer n (initialize_of x)))) ∙ stage_sent settings now n (initialize_of x) m k.says
      ∙ ap (λ z. stage_told z m) (ap (λ (l : Life). l.stage) (life_more n before (heard (Started n)))
      ∙ ap (λ b. (if b then record { stage = stage_started (life_of n before).stage; started = true } else life_of n before).stage) (same_number n) ∙ ap stage_started at) in
      let a : next_number n end ≡ next_number n now + 1 = (number_sent settings now n (initialize_of x) m k.says) in
      let f : (forwarding_of settings n end).next ≡ (forwarding_of settings n now).next = ap (λ (z : Forwarding). z.next) (forwarding_sent settings now n (initialize_of x) m k.says) in
      subst (λ z. TiedAt z (next_number n end) (forwarding_of settings n end).next) (sym stage)
      (a ∙ ap (λ z. z + 1) (number_heard n before (Started n) ∙ none.0), f ∙ forwarding_heard settings n before (Started n) refl ∙ none.1)

  -- a start that is spawned has a group
  spawned : Starts before → (life_of n before).stage ≡ Spawning → n < starts_of before
  spawned starts at = within (λ le. never (sym (ap is_spawning at) ∙ ap (λ (l : Life). is_spawning l.stage) (starts n le)))
    where
      within : (starts_of before ≤ n → ⊥) → n < starts_of before
      within f = omega (arith, f)

  begun_tied : Starts before → Unbegun settings before → Housed settings before → Written settings before → (stage : Stage) → (life_of n before).stage ≡ stage → may_begin stage ≡ true → Tied settings (later (outs (started settings n before stage) now)) n
  begun_tied starts unbegun housed written Spawning at may =
      let h : IsHoused settings n before = housed n (spawned starts at) in
      let item : (x : Kept) × (slice_get (groups_of settings before) h.group ≡ Some x) = item_at (groups_of settings before) h.group h.kept in
      let sends : outs (started settings n before Spawning) now ≡ ToServer n (initialize_of item.0) ∷ [] = rw (h.is, item.1) refl in
      subst (λ xs. Tied settings (later xs) n) (sym sends) (opened item.0 (get_all IsWritten (groups_of settings before) h.group item.0 written item.1) at unbegun)
  begun_tied starts unbegun housed written Ending at may = subst (λ z. Tied settings z n) (sym (append-nil now)) (subst (λ z. TiedAt z (next_number n now) (forwarding_of settings n now).next)
      (sym (ap (λ (l : Life). l.stage) (life_more n before (heard (Started n))) ∙ ap (λ b. (if b then record { stage = stage_started (life_of n before).stage; started = true } else life_of n before).stage) (same_number n) ∙ ap stage_started at)) tt)
  begun_tied starts unbegun housed written Unspawned at may = absurd (cc)
  begun_tied starts unbegun housed written Initializing at may = absurd (cc)
  begun_tied starts unbegun housed written Ready at may = absurd (cc)
  begun_tied starts unbegun housed written Stopping at may = absurd (cc)
  begun_tied starts unbegun housed written Ended at may = absurd (cc)

pub tied_rests : (settings : Settings) (before : List Event) (cause : Cause) → fits_behind before cause ≡ true → Starts before → Unbegun settings before → Housed settings before → Written settings before
    → OthersTied settings cause (behind (with_cause before cause) (outs_of settings before cause)) → AllTied settings (behind (with_cause before cause) (outs_of settings before cause))
tied_rests settings before (Started n) fits starts unbegun housed written h = λ s. go s (nat_eq n s) refl
  where
    go : (s : ℕ) (b : Bool) → nat_eq n s ≡ b → Tied settings (behind (with_cause before (Started n)) (outs_of settings before (Started n))) s
    go s false other = h s other
    go s true same = subst (Tied settings (behind (with_cause before (Started n)) (outs_of settings before (Started n)))) (number_same n s same)
        (begun_tied settings before n starts unbegun housed written (life_of n before).stage refl (and_parts (may_begin (life_of n before).stage) (not (life_of n before).started) fits).0)
tied_rests settings before cause fits starts unbegun housed written h = λ s. h s refl
