-- How positions count at a start that is ready, and at its group: as the start's own result of `initialize` said, in every legal history (LSP 3.17, PositionEncodingKind).
use Rattle.std.proofs.Common.{◌≡◌, ◌⊎◌, inl, inr, ℕ, ◌≤◌, Bool, true, false, not, ◌&&◌, List, [], ◌∷◌, ◌++◌, nat_eq, if◌then◌else◌, codes, Option, None, Some, refl, sym, ◌∙◌, ap, subst, arith}
use Rattle.std.proofs.lemmas.Bool.{and_parts}
use Rattle.std.proofs.lemmas.List.Sums.{fold-append}
use Rattle.mux_history.specs.declared.cause.Cause.{Cause}
use Rattle.mux_history.specs.declared.cause.Cause.TheVariants.{Joined, FromEditor, EditorGone, Started, StartFailed, FromServer, ServerGone, Drained, Tick}
use Rattle.mux_history.specs.declared.entry.Entry.{Entry}
use Rattle.mux_history.specs.declared.out.Out.{Out}
use Rattle.mux_history.specs.declared.out.Out.TheVariants.{ToEditor, ToServer, Spawn, CloseEditor, EndServer}
use Rattle.rpc_message.specs.Message.{Message, result, integer, message_of}
use Rattle.position_codec.specs.declared.Encoding.{Encoding}
use Rattle.event_model.specs.declared.stage.Stage.{Stage}
use Rattle.event_model.specs.declared.stage.Stage.TheVariants.{Unspawned, Spawning, Initializing, Ready, Stopping, Ending, Ended}
use Rattle.event_model.specs.Event.{Event, events_of, heard, requests, said, with_cause}
use Rattle.event_model.specs.Settings.{Settings}
use Rattle.event_model.specs.Spawns.{group_behind, group_of, starts_behind, starts_of}
use Rattle.event_model.specs.Stages.{Life, is_ended, is_first_result, is_initializing, life_behind, life_of, may_begin, runs, stage_ending, stage_hears, stage_started, stage_told}
use Rattle.event_model.proofs.Frames.{never}
use Rattle.mux_model.specs.Documents as starts
use Rattle.mux_model.specs.Documents.{encoding_by}
use Rattle.mux_model.specs.Fits.{fits_behind}
use Rattle.mux_facts.specs.Ranges.{InRange}
use Rattle.mux_facts.proofs.Folds.{life_more, starts_more}
use Rattle.mux_facts.proofs.Reasons.{reasons_keep}
use Rattle.mux_facts.proofs.Starts.{Starts, runs_not}
use Rattle.mux_facts.proofs.Words.{number_same, same_number}
use Rattle.group_words.specs.Houses.{is_home}
use Rattle.group_rows.specs.Rows.{outs_of}
use Rattle.group_rows.specs.Texts.{encoding_of, given}
use Rattle.group_rows.proofs.Frames.{encoding_more, encoding_stays}
use Rattle.group_facts.specs.Legal.{Legal}
use Rattle.group_facts.specs.Why.{Why, quitting}
use Rattle.group_facts.proofs.Facts.{Facts}
use Rattle.group_facts.proofs.Housed.{group_more}
use Rattle.group_facts.proofs.LastStarts.{AllLast}
use Rattle.group_facts.proofs.Reached.{Reached, facts_at, reached, reached_keeps, rests_at}
use Rattle.group_facts.proofs.SlowRow.{parting, parting_why}
use Rattle.group_facts.proofs.Table.{reasons}
use Rattle.rest_laws.specs.Encodings.{CountsBy, OneEncoding}

-- a start that wasn't spawned, or whose program didn't run, or that answered nothing yet, gave none; one that is ready gave that of its group
pub record Codes (events : List Event) : Type 0 where
  pub fresh : (s : ℕ) → starts_of events ≤ s → starts.encoding_of s events ≡ None
  pub idle : (s : ℕ) → (life_of s events).started ≡ false → starts.encoding_of s events ≡ None
  pub opening : (s : ℕ) → (life_of s events).stage ≡ Initializing → starts.encoding_of s events ≡ None
  pub ready : (g s : ℕ) → (life_of s events).stage ≡ Ready → group_of s events ≡ Some g → CountsBy g s events

codes_none : Codes []
codes_none = record { fresh = λ s low. refl; idle = λ s off. refl; opening = λ s at. refl; ready = λ g s at home. absurd (cc) }

-- Stages, one event further

told_opening : (stage : Stage) (m : Message) → stage_told stage m ≡ Initializing → stage ≡ Initializing
told_opening Ready m h = go (requests (codes "shutdown") m) h
  where
    go : (b : Bool) → (if b then Stopping else Ready) ≡ Initializing → Ready ≡ Initializing
    go true h = cc
    go false h = h
told_opening other m h = h

told_ready : (stage : Stage) (m : Message) → stage_told stage m ≡ Ready → stage ≡ Ready
told_ready Ready m h = refl
told_ready other m h = h

started_opening : (stage : Stage) → stage_started stage ≡ Initializing → (stage ≡ Initializing) ⊎ (may_begin stage ≡ true)
started_opening Spawning h = inr refl
started_opening other h = inl h

started_ready : (stage : Stage) → stage_started stage ≡ Ready → stage ≡ Ready
started_ready Spawning h = cc
started_ready other h = h

ending_opening : (stage : Stage) → stage_ending stage ≡ Initializing → stage ≡ Initializing
ending_opening Ended h = h
ending_opening Unspawned h = cc
ending_opening Spawning h = cc
ending_opening Initializing h = refl
ending_opening Ready h = cc
ending_opening Stopping h = cc
ending_opening Ending h = cc

ending_ready : (stage : Stage) → stage_ending stage ≡ Ready → stage ≡ Ready
ending_ready Ended h = h
ending_ready Unspawned h = cc
ending_ready Spawning h = cc
ending_ready Initializing h = cc
ending_ready Ready h = refl
ending_ready Stopping h = cc
ending_ready Ending h = cc

-- what a start's life was, by what it is one event later: n starts were spawned before
record Eased (s n : ℕ) (life later : Life) : Type 0 where
  unstarted : later.started ≡ false → (life.started ≡ false) ⊎ (n ≤ s)
  unopened : later.stage ≡ Initializing → (life.stage ≡ Initializing) ⊎ (life.started ≡ false)
  unready : later.stage ≡ Ready → life.stage ≡ Ready

eased_itself : (s n : ℕ) (life : Life) → Eased s n life life
eased_itself s n life = record { unstarted = λ off. inl off; unopened = λ at. inl at; unready = λ at. at }

-- by an event that is about this start or another one
eased_if : (s n : ℕ) (life later : Life) (b : Bool) → (b ≡ true → Eased s n life later) → Eased s n life (if b then later else life)
eased_if s n life later true f = f refl
eased_if s n life later false f = eased_itself s n life

off_is : (a : Bool) → not a ≡ true → a ≡ false
off_is true h = never (sym h)
off_is false h = refl

module _ (s n : ℕ) (life : Life) where
  eased_started : life.started ≡ false → Eased s n life (record { stage = stage_started life.stage; started = true })
  eased_started off = record { unstarted = λ h. never h; unopened = λ at. go (started_opening life.stage at); unready = λ at. started_ready life.stage at }
    where
      go : (life.stage ≡ Initializing) ⊎ (may_begin life.stage ≡ true) → (life.stage ≡ Initializing) ⊎ (life.started ≡ false)
      go (inl at) = inl at
      go (inr begins) = inr off

  eased_over : Eased s n life (record { stage = Ended; started = life.started })
  eased_over = record { unstarted = λ off. inl off; unopened = λ at. absurd (cc); unready = λ at. absurd (cc) }

  eased_spawned : n ≤ s → Eased s n life (record { stage = Spawning; started = false })
  eased_spawned low = record { unstarted = λ off. inr low; unopened = λ at. absurd (cc); unready = λ at. absurd (cc) }

  eased_told : (m : Message) → Eased s n life (record { stage = stage_told life.stage m; started = life.started })
  eased_told m = record { unstarted = λ off. inl off; unopened = λ at. inl (told_opening life.stage m at); unready = λ at. told_ready life.stage m at }

  eased_ending : Eased s n life (record { stage = stage_ending life.stage; started = life.started })
  eased_ending = record { unstarted = λ off. inl off; unopened = λ at. inl (ending_opening life.stage at); unready = λ at. ending_ready life.stage at }

-- Every event but what a start says gives no encoding

given_out : (s : ℕ) (o : Option Encoding) (out : Out) → starts.encoding_behind s o (said out) ≡ o
given_out s (Some c) out = refl
given_out s None (ToEditor n body) = refl
given_out s None (ToServer n body) = refl
given_out s None (Spawn n i) = refl
given_out s None (CloseEditor n) = refl
given_out s None (EndServer n) = refl

abbrev IsMute : Cause → Type 0
IsMute (FromServer n body) = ⊥
IsMute other = Unit {0}

given_took : (s : ℕ) (o : Option Encoding) (cause : Cause) → IsMute cause → starts.encoding_behind s o (heard cause) ≡ o
given_took s (Some c) cause mute = refl
given_took s None (FromServer n body) mute = absurd mute
given_took s None (Joined e) mute = refl
given_took s None (FromEditor e body) mute = refl
given_took s None (EditorGone e why) mute = refl
given_took s None (Started n) mute = refl
given_took s None (StartFailed n) mute = refl
given_took s None (ServerGone n) mute = refl
given_took s None (Drained e k) mute = refl
given_took s None (Tick t) mute = refl

pub given_more : (s : ℕ) (events : List Event) (ev : Event) → starts.encoding_of s (events ++ ev ∷ []) ≡ starts.encoding_behind s (starts.encoding_of s events) ev
given_more s events ev = fold-append (starts.encoding_behind s) None events (ev ∷ [])

pub given_said : (s : ℕ) (events : List Event) (out : Out) → starts.encoding_of s (events ++ said out ∷ []) ≡ starts.encoding_of s events
given_said s events out = given_more s events (said out) ∙ given_out s (starts.encoding_of s events) out

-- such an event
record Still (events later : List Event) : Type 0 where
  given : (s : ℕ) → starts.encoding_of s later ≡ starts.encoding_of s events
  known : (g : ℕ) → encoding_of g later ≡ encoding_of g events
  count : starts_of events ≤ starts_of later
  eased : (s : ℕ) → Eased s (starts_of events) (life_of s events) (life_of s later)
  group : (s : ℕ) → (life_of s later).stage ≡ Ready → group_of s later ≡ group_of s events

codes_still : (events later : List Event) → Still events later → Codes events → Codes later
codes_still events later k h = record {
  fresh = λ s low. k.given s ∙ h.fresh s (let more : starts_of events ≤ starts_of later = k.count in omega (arith, more, low));
  idle = λ s off. k.given s ∙ none s ((k.eased s).unstarted off);
  opening = λ s at. k.given s ∙ early s ((k.eased s).unopened at);
  ready = λ g s at home. let c : CountsBy g s events = h.ready g s ((k.eased s).unready at) (sym (k.group s at) ∙ home) in record { code = c.code; given = k.given s ∙ c.given; known = k.known g ∙ c.known };
}
  where
    none : (s : ℕ) → ((life_of s events).started ≡ false) ⊎ (starts_of events ≤ s) → starts.encoding_of s events ≡ None
    none s (inl off) = h.idle s off
    none s (inr low) = h.fresh s low

    early : (s : ℕ) → ((life_of s events).stage ≡ Initializing) ⊎ ((life_of s events).started ≡ false) → starts.encoding_of s events ≡ None
    early s (inl at) = h.opening s at
    early s (inr off) = h.idle s off

-- Outs

module _ (events : List Event) where
  eased_by : (ev : Event) → ((s : ℕ) → Eased s (starts_of events) (life_of s events) (life_behind s (life_of s events) ev)) → (s : ℕ) → Eased s (starts_of events) (life_of s events) (life_of s (events ++ ev ∷ []))
  eased_by ev f s = subst (Eased s (starts_of events) (life_of s events)) (sym (life_more s events ev)) (f s)

  counts_by : (ev : Event) → starts_of events ≤ starts_behind (starts_of events) ev → starts_of events ≤ starts_of (events ++ ev ∷ [])
  counts_by ev low = subst (λ n. starts_of events ≤ n) (sym (starts_more events ev)) low

  out_still : (out : Out) → ((s : ℕ) → Eased s (starts_of events) (life_of s events) (life_behind s (life_of s events) (said out))) → starts_of events ≤ starts_behind (starts_of events) (said out)
      → ((s : ℕ) → encoding_of s (events ++ said out ∷ []) ≡ encoding_of s events) → ((s : ℕ) → (life_of s (events ++ said out ∷ [])).stage ≡ Ready → group_behind s (group_of s events) (said out) ≡ group_of s events) → Still events (events ++ said out ∷ [])
  out_still out eased count known group = record {
    given = λ s. given_said s events out;
    known = known;
    count = counts_by (said out) count;
    eased = eased_by (said out) eased;
    group = λ s at. group_more s events (said out) ∙ group s at;
  }

  spawned_still : (n g : ℕ) → n ≡ starts_of events → Still events (events ++ said (Spawn n g) ∷ [])
  spawned_still n g is = out_still (Spawn n g)
      (λ s. eased_if s (starts_of events) (life_of s events) (record { stage = Spawning; started = false }) (nat_eq n s) (λ same. eased_spawned s (starts_of events) (life_of s events) (let it : n ≡ s = number_same n s same in omega (arith, is, it))))
      (omega arith) (λ i. encoding_stays i events (said (Spawn n g)) refl) (λ s at. other s (nat_eq n s) refl at)
    where
      other : (s : ℕ) (b : Bool) → nat_eq n s ≡ b → (life_of s (events ++ said (Spawn n g) ∷ [])).stage ≡ Ready → (if b then Some g else group_of s events) ≡ group_of s events
      other s false apart at = refl
      other s true same at = absurd (let clash : Spawning ≡ Ready = ap (λ b. (if b then record { stage = Spawning; started = false } else life_of s events).stage) (sym same) ∙ (ap (λ (l : Life). l.stage) (sym (life_more s events (said (Spawn n g)))) ∙ at) in cc)

  did_still : (out : Out) → ((n g : ℕ) → out ≡ Spawn n g → n ≡ starts_of events) → Still events (events ++ said out ∷ [])
  did_still (Spawn n g) is = spawned_still n g (is n g refl)
  did_still (ToServer n body) is = out_still (ToServer n body) (λ s. eased_if s (starts_of events) (life_of s events) (record { stage = stage_told (life_of s events).stage (message_of body); started = (life_of s events).started }) (nat_eq n s) (λ same. eased_told s (starts_of events) (life_of s events) (message_of body)))
      (omega arith) (λ i. encoding_stays i events (said (ToServer n body)) refl) (λ s at. refl)
  did_still (EndServer n) is = out_still (EndServer n) (λ s. eased_if s (starts_of events) (life_of s events) (record { stage = stage_ending (life_of s events).stage; started = (life_of s events).started }) (nat_eq n s) (λ same. eased_ending s (starts_of events) (life_of s events)))
      (omega arith) (λ i. encoding_stays i events (said (EndServer n)) refl) (λ s at. refl)
  did_still (ToEditor n body) is = out_still (ToEditor n body) (λ s. eased_itself s (starts_of events) (life_of s events)) (omega arith) (λ i. encoding_stays i events (said (ToEditor n body)) refl) (λ s at. refl)
  did_still (CloseEditor n) is = out_still (CloseEditor n) (λ s. eased_itself s (starts_of events) (life_of s events)) (omega arith) (λ i. encoding_stays i events (said (CloseEditor n)) refl) (λ s at. refl)

-- Causes

-- a first result gives an encoding, and no other message does
first_code : (m : Message) → is_first_result m ≡ true → (code : Encoding) × (encoding_by m ≡ Some code)
first_code (result (Some (integer n)) r) h = (starts.encoding_in r, rw h refl)
first_code other h = never (sym h)

no_code : (m : Message) → is_first_result m ≡ false → encoding_by m ≡ None
no_code (result (Some (integer n)) r) h = rw h refl
no_code other h = refl

hears_opening : (stage : Stage) (m : Message) → stage_hears stage m ≡ Initializing → (stage ≡ Initializing) × (is_first_result m ≡ false)
hears_opening Initializing m h = go (is_first_result m) refl h
  where
    go : (b : Bool) → is_first_result m ≡ b → (if b then Ready else Initializing) ≡ Initializing → (Initializing ≡ Initializing) × (is_first_result m ≡ false)
    go true first k = absurd (cc)
    go false later k = (refl, later)
hears_opening Unspawned m h = absurd (cc)
hears_opening Spawning m h = absurd (cc)
hears_opening Ready m h = absurd (cc)
hears_opening Stopping m h = absurd (cc)
hears_opening Ending m h = absurd (cc)
hears_opening Ended m h = absurd (cc)

hears_ready : (stage : Stage) (m : Message) → stage_hears stage m ≡ Ready → (stage ≡ Ready) ⊎ ((stage ≡ Initializing) × (is_first_result m ≡ true))
hears_ready Initializing m h = go (is_first_result m) refl h
  where
    go : (b : Bool) → is_first_result m ≡ b → (if b then Ready else Initializing) ≡ Ready → (Initializing ≡ Ready) ⊎ ((Initializing ≡ Initializing) × (is_first_result m ≡ true))
    go true first k = inr (refl, first)
    go false later k = absurd (cc)
hears_ready Ready m h = inl refl
hears_ready Unspawned m h = absurd (cc)
hears_ready Spawning m h = absurd (cc)
hears_ready Stopping m h = absurd (cc)
hears_ready Ending m h = absurd (cc)
hears_ready Ended m h = absurd (cc)

module _ (before : List Event) (began : Starts before) (lasts : AllLast before) (h : Codes before) where
  took_still : (cause : Cause) → fits_behind before cause ≡ true → IsMute cause → ((s : ℕ) → Eased s (starts_of before) (life_of s before) (life_behind s (life_of s before) (heard cause))) → starts_behind (starts_of before) (heard cause) ≡ starts_of before
      → ((g : ℕ) → encoding_of g (with_cause before cause) ≡ encoding_of g before) → ((s : ℕ) → group_behind s (group_of s before) (heard cause) ≡ group_of s before) → Codes (with_cause before cause)
  took_still cause fits mute eased count known group = codes_still before (with_cause before cause) (record {
    given = λ s. given_more s before (heard cause) ∙ given_took s (starts.encoding_of s before) cause mute;
    known = known;
    count = counts_by before (heard cause) (omega (arith, count));
    eased = eased_by before (heard cause) eased;
    group = λ s at. group_more s before (heard cause) ∙ group s;
  }) h

  -- a start says something
  module _ (n : ℕ) (body : List ℕ) (fits : runs (life_of n before) ≡ true) where
    abbrev m : Message
    m = message_of body

    abbrev now : List Event
    now = with_cause before (FromServer n body)

    running : (life_of n before).started ≡ true
    running = (and_parts (life_of n before).started (not (is_ended (life_of n before).stage)) fits).0

    life_by : (s : ℕ) (b : Bool) → nat_eq n s ≡ b → life_of s now ≡ (if b then record { stage = stage_hears (life_of s before).stage m; started = (life_of s before).started } else life_of s before)
    life_by s b is = life_more s before (heard (FromServer n body)) ∙ ap (λ c. if c then record { stage = stage_hears (life_of s before).stage m; started = (life_of s before).started } else life_of s before) is

    -- of another start nothing is said, and of one that gave one no other is
    given_other : (s : ℕ) → nat_eq n s ≡ false → starts.encoding_of s now ≡ starts.encoding_of s before
    given_other s other = given_more s before (heard (FromServer n body)) ∙ go (starts.encoding_of s before)
      where
        go : (o : Option Encoding) → starts.encoding_behind s o (heard (FromServer n body)) ≡ o
        go (Some c) = refl
        go None = ap (λ b. if b then encoding_by m else None) other

    given_again : (s : ℕ) (c : Encoding) → starts.encoding_of s before ≡ Some c → starts.encoding_of s now ≡ Some c
    given_again s c was = given_more s before (heard (FromServer n body)) ∙ ap (λ o. starts.encoding_behind s o (heard (FromServer n body))) was

    given_first : (s : ℕ) → nat_eq n s ≡ true → starts.encoding_of s before ≡ None → starts.encoding_of s now ≡ encoding_by m
    given_first s same was = given_more s before (heard (FromServer n body)) ∙ (ap (λ o. starts.encoding_behind s o (heard (FromServer n body))) was ∙ ap (λ b. if b then encoding_by m else None) same)

    known_by : (g : ℕ) (a b : Bool) → is_home g (group_of n before) ≡ a → is_initializing (life_of n before).stage ≡ b → encoding_of g now ≡ (if a && b then given (encoding_by m) (encoding_of g before) else encoding_of g before)
    known_by g a b home at = encoding_more g before (heard (FromServer n body)) ∙ go home at
      where
        go : is_home g (group_of n before) ≡ a → is_initializing (life_of n before).stage ≡ b → (if is_home g (group_of n before) && is_initializing (life_of n before).stage then given (encoding_by m) (encoding_of g before) else encoding_of g before) ≡ (if a && b then given (encoding_by m) (encoding_of g before) else encoding_of g before)
        go home at = rw (home, at) refl

    fresh_now : (s : ℕ) → starts_of now ≤ s → starts.encoding_of s now ≡ None
    fresh_now s low = given_other s (go (nat_eq n s) refl) ∙ h.fresh s below
      where
        below : starts_of before ≤ s
        below = subst (λ k. k ≤ s) (starts_more before (heard (FromServer n body))) low

        go : (b : Bool) → nat_eq n s ≡ b → nat_eq n s ≡ false
        go false other = other
        go true same = absurd (runs_not before n s (began s below) same fits)

    idle_now : (s : ℕ) → (life_of s now).started ≡ false → starts.encoding_of s now ≡ None
    idle_now s off = go (nat_eq n s) refl
      where
        go : (b : Bool) → nat_eq n s ≡ b → starts.encoding_of s now ≡ None
        go true same = never (sym running ∙ (ap (λ k. (life_of k before).started) (number_same n s same) ∙ (ap (λ (l : Life). l.started) (sym (life_by s true same)) ∙ off)))
        go false other = given_other s other ∙ h.idle s (ap (λ (l : Life). l.started) (sym (life_by s false other)) ∙ off)

    opening_now : (s : ℕ) → (life_of s now).stage ≡ Initializing → starts.encoding_of s now ≡ None
    opening_now s at = go (nat_eq n s) refl
      where
        go : (b : Bool) → nat_eq n s ≡ b → starts.encoding_of s now ≡ None
        go true same = let k = hears_opening (life_of s before).stage m (ap (λ (l : Life). l.stage) (sym (life_by s true same)) ∙ at) in given_first s same (h.opening s k.0) ∙ no_code m k.1
        go false other = given_other s other ∙ h.opening s (ap (λ (l : Life). l.stage) (sym (life_by s false other)) ∙ at)

    ready_now : (g s : ℕ) → (life_of s now).stage ≡ Ready → group_of s now ≡ Some g → CountsBy g s now
    ready_now g s at home = go (nat_eq n s) refl
      where
        house : group_of s before ≡ Some g
        house = sym (group_more s before (heard (FromServer n body))) ∙ home

        by : (nat_eq n s ≡ true) → ((life_of s before).stage ≡ Ready) ⊎ (((life_of s before).stage ≡ Initializing) × (is_first_result m ≡ true)) → CountsBy g s now
        by same (inl was) = let c : CountsBy g s before = h.ready g s was house in record {
          code = c.code;
          given = given_again s c.code c.given;
          known = known_by g (is_home g (group_of n before)) false refl (ap (λ k. is_initializing (life_of k before).stage) (number_same n s same) ∙ ap is_initializing was) ∙ (off_second (is_home g (group_of n before)) ∙ c.known);
        }
          where
            off_second : (a : Bool) → (if a && false then given (encoding_by m) (encoding_of g before) else encoding_of g before) ≡ encoding_of g before
            off_second true = refl
            off_second false = refl
        by same (inr k) = let c = first_code m k.1 in record {
          code = c.0;
          given = given_first s same (h.opening s k.0) ∙ c.1;
          known = known_by g true true (ap (λ i. is_home g (group_of i before)) (number_same n s same) ∙ (ap (is_home g) house ∙ same_number g)) (ap (λ i. is_initializing (life_of i before).stage) (number_same n s same) ∙ ap is_initializing k.0)
              ∙ ap (λ o. given o (encoding_of g before)) c.1;
        }

        -- another start of the group is at its beginning only where this one ended
        other_known : nat_eq n s ≡ false → (life_of s before).stage ≡ Ready → encoding_of g now ≡ encoding_of g before
        other_known other was = tests (is_home g (group_of n before)) refl (is_initializing (life_of n before).stage) refl
          where
            tests : (a : Bool) → is_home g (group_of n before) ≡ a → (b : Bool) → is_initializing (life_of n before).stage ≡ b → encoding_of g now ≡ encoding_of g before
            tests true mine true begins = absurd (clash (group_of n before) refl mine)
              where
                alive : is_ended (life_of n before).stage ≡ false
                alive = off_is (is_ended (life_of n before).stage) (and_parts (life_of n before).started (not (is_ended (life_of n before).stage)) fits).1

                the : (a b : ℕ) → ◌≡◌ {A = Option ℕ} (Some a) (Some b) → a ≡ b
                the a b is = cc

                clash : (o : Option ℕ) → group_of n before ≡ o → is_home g o ≡ true → ⊥
                clash None is mine = never (sym mine)
                clash (Some i) is mine =
                    let group : group_of n before ≡ Some g = is ∙ ap (λ k. Some k) (number_same i g mine) in
                    let both : n ≡ s = the n s (sym (lasts n g group alive) ∙ lasts s g house (ap is_ended was)) in
                    never (sym (ap (nat_eq n) (sym both) ∙ same_number n) ∙ other)
            tests true mine false off = known_by g true false mine off
            tests false away b at = known_by g false b away at

        go : (b : Bool) → nat_eq n s ≡ b → CountsBy g s now
        go true same = by same (hears_ready (life_of s before).stage m (ap (λ (l : Life). l.stage) (sym (life_by s true same)) ∙ at))
        go false other =
            let was : (life_of s before).stage ≡ Ready = ap (λ (l : Life). l.stage) (sym (life_by s false other)) ∙ at in
            let c : CountsBy g s before = h.ready g s was house in
            record { code = c.code; given = given_other s other ∙ c.given; known = other_known other was ∙ c.known }

    codes_heard : Codes now
    codes_heard = record { fresh = fresh_now; idle = idle_now; opening = opening_now; ready = ready_now }

  begun_eased : (n : ℕ) → fits_behind before (Started n) ≡ true → (s : ℕ) → Eased s (starts_of before) (life_of s before) (life_behind s (life_of s before) (heard (Started n)))
  begun_eased n fits s = eased_if s (starts_of before) (life_of s before) (record { stage = stage_started (life_of s before).stage; started = true }) (nat_eq n s)
      (λ same. eased_started s (starts_of before) (life_of s before) (ap (λ k. (life_of k before).started) (sym (number_same n s same)) ∙ off_is (life_of n before).started (and_parts (may_begin (life_of n before).stage) (not (life_of n before).started) fits).1))

  over_eased : (n s : ℕ) → Eased s (starts_of before) (life_of s before) (if nat_eq n s then record { stage = Ended; started = (life_of s before).started } else life_of s before)
  over_eased n s = eased_if s (starts_of before) (life_of s before) (record { stage = Ended; started = (life_of s before).started }) (nat_eq n s) (λ same. eased_over s (starts_of before) (life_of s before))

  same_eased : (s : ℕ) → Eased s (starts_of before) (life_of s before) (life_of s before)
  same_eased s = eased_itself s (starts_of before) (life_of s before)

  codes_took : (cause : Cause) → fits_behind before cause ≡ true → Codes (with_cause before cause)
  codes_took (FromServer n body) fits = codes_heard n body fits
  codes_took (Started n) fits = took_still (Started n) fits tt (begun_eased n fits) refl (λ g. encoding_stays g before (heard (Started n)) refl) (λ s. refl)
  codes_took (StartFailed n) fits = took_still (StartFailed n) fits tt (over_eased n) refl (λ g. encoding_stays g before (heard (StartFailed n)) refl) (λ s. refl)
  codes_took (ServerGone n) fits = took_still (ServerGone n) fits tt (over_eased n) refl (λ g. encoding_stays g before (heard (ServerGone n)) refl) (λ s. refl)
  codes_took (Joined e) fits = took_still (Joined e) fits tt same_eased refl (λ g. encoding_stays g before (heard (Joined e)) refl) (λ s. refl)
  codes_took (FromEditor e body) fits = took_still (FromEditor e body) fits tt same_eased refl (λ g. encoding_stays g before (heard (FromEditor e body)) refl) (λ s. refl)
  codes_took (EditorGone e why) fits = took_still (EditorGone e why) fits tt same_eased refl (λ g. encoding_stays g before (heard (EditorGone e why)) refl) (λ s. refl)
  codes_took (Drained e k) fits = took_still (Drained e k) fits tt same_eased refl (λ g. encoding_stays g before (heard (Drained e k)) refl) (λ s. refl)
  codes_took (Tick t) fits = took_still (Tick t) fits tt same_eased refl (λ g. encoding_stays g before (heard (Tick t)) refl) (λ s. refl)

-- Every legal history

-- a start that is spawned has the next number
spawned_next : (settings : Settings) (before : List Event) (cause : Cause) (events : List Event) (out : Out) → Why settings before cause events out → (n g : ℕ) → out ≡ Spawn n g → n ≡ starts_of events
spawned_next settings before cause events (Spawn k i) why n g is = let same : k ≡ n = cc in sym same ∙ why.0
spawned_next settings before cause events (ToServer k body) why n g is = absurd (cc)
spawned_next settings before cause events (ToEditor k body) why n g is = absurd (cc)
spawned_next settings before cause events (CloseEditor k) why n g is = absurd (cc)
spawned_next settings before cause events (EndServer k) why n g is = absurd (cc)

module _ (settings : Settings) (range : InRange settings) where
  codes_did : (before : List Event) (cause : Cause) (events : List Event) (out : Out) → Why settings before cause events out → Codes events → Codes (events ++ said out ∷ [])
  codes_did before cause events out why h = codes_still events (events ++ said out ∷ []) (did_still events out (spawned_next settings before cause events out why)) h

  pub codes_at : (events : List Event) → Reached settings events → Codes events
  codes_at = reached_keeps settings Codes codes_none
      (λ before cause fits at h. let facts : Facts settings before = facts_at settings range before at in
      reasons_keep (λ places out. Why settings before cause places out) Codes (codes_did before cause) (with_cause before cause) (outs_of settings before cause) (reasons settings range before facts cause).why
      (codes_took before (facts.steady).starts (rests_at settings range before at).lasts h cause fits))
      (λ place e slow at h. reasons_keep (λ places out. Why settings place (quitting e) places out) Codes (codes_did place (quitting e)) place (parting settings place e) (parting_why settings range place (facts_at settings range place at) e slow) h)

  pub one_encoding_holds : (history : List Entry) → Legal settings history → OneEncoding history
  one_encoding_holds history legal = (codes_at (events_of history) (reached settings history legal)).ready
