-- A start that was ready, and was told to stop or whose program ended: it is ready no more, and told of no document.
use Rattle.std.proofs.Common.{◌≡◌, ℕ, ◌<◌, Bool, true, false, List, [], ◌∷◌, ◌++◌, flat_map, map, nat_eq, if◌then◌else◌, codes, refl, sym, ◌∙◌, ap, subst, append_assoc, append-nil, arith}
use Rattle.std.specs.List.{AllByRecursion}
use Rattle.mux_history.specs.declared.cause.Cause.{Cause}
use Rattle.mux_history.specs.declared.cause.Cause.TheVariants.{Joined, FromEditor, EditorGone, Started, StartFailed, FromServer, ServerGone, Drained, Tick}
use Rattle.mux_history.specs.declared.out.Out.{Out}
use Rattle.mux_history.specs.declared.out.Out.TheVariants.{ToEditor, ToServer, Spawn, CloseEditor, EndServer}
use Rattle.rpc_message.specs.Message.{Message, message_of}
use Rattle.document_model.specs.Sayings.{saying_of, speaks}
use Rattle.document_model.specs.Sayings as saying
use Rattle.event_model.specs.declared.stage.Stage.{Stage}
use Rattle.event_model.specs.declared.stage.Stage.TheVariants.{Unspawned, Spawning, Initializing, Ready, Stopping, Ending, Ended}
use Rattle.event_model.specs.Event.{Event, behind, did, heard, requests, said, took, with_cause}
use Rattle.event_model.specs.Settings.{Settings}
use Rattle.event_model.specs.Spawns.{starts_behind, starts_of}
use Rattle.event_model.specs.Stages.{Life, is_ready, life_behind, life_of, stage_ending, stage_hears, stage_started, stage_told}
use Rattle.event_model.proofs.Frames.{never}
use Rattle.mux_facts.proofs.DocumentRow.{ready_is}
use Rattle.mux_facts.proofs.Folds.{life_more, starts_more}
use Rattle.mux_facts.proofs.Keeps.{behind_both}
use Rattle.mux_facts.proofs.Lists.{all_join}
use Rattle.mux_facts.proofs.Words.{number_same}
use Rattle.group_facts.specs.Why.{AllSlow, AllWhy, HasParts, SlowOuts, Why, quitting}
use Rattle.rest_laws.specs.Silent.{IsSilent}
use Rattle.rest_laws.proofs.Asides.{unspoken}
use Rattle.rest_laws.proofs.ToldLaw.{one_told}

-- it is ready, or was
abbrev is_beyond : Stage → Bool
is_beyond Unspawned = false
is_beyond Spawning = false
is_beyond Initializing = false
is_beyond other = true

-- and is so no more
abbrev is_past : Stage → Bool
is_past Ready = false
is_past other = is_beyond other

beyond_ready : (stage : Stage) → is_ready stage ≡ true → is_beyond stage ≡ true
beyond_ready stage h = ap is_beyond (ready_is stage h)

past_unready : (stage : Stage) → is_beyond stage ≡ true → is_ready stage ≡ false → is_past stage ≡ true
past_unready Ready h off = never off
past_unready Unspawned h off = h
past_unready Spawning h off = h
past_unready Initializing h off = h
past_unready Stopping h off = h
past_unready Ending h off = h
past_unready Ended h off = h

unready_past : (stage : Stage) → is_past stage ≡ true → is_ready stage ≡ true → ⊥
unready_past Ready h ready = never (sym h)
unready_past other h ready = never (sym ready)

-- what each event keeps of a start that was spawned
record Lasts (test : Stage → Bool) : Type 0 where
  started : (stage : Stage) → test stage ≡ true → test (stage_started stage) ≡ true
  hears : (stage : Stage) (m : Message) → test stage ≡ true → test (stage_hears stage m) ≡ true
  told : (stage : Stage) (m : Message) → test stage ≡ true → test (stage_told stage m) ≡ true
  ending : (stage : Stage) → test stage ≡ true → test (stage_ending stage) ≡ true
  ended : test Ended ≡ true

beyond_started : (stage : Stage) → is_beyond stage ≡ true → is_beyond (stage_started stage) ≡ true
beyond_started Spawning h = never (sym h)
beyond_started other h = h

beyond_hears : (stage : Stage) (m : Message) → is_beyond stage ≡ true → is_beyond (stage_hears stage m) ≡ true
beyond_hears Initializing m h = never (sym h)
beyond_hears other m h = h

beyond_told : (stage : Stage) (m : Message) → is_beyond stage ≡ true → is_beyond (stage_told stage m) ≡ true
beyond_told Ready m h = go (requests (codes "shutdown") m)
  where
    go : (b : Bool) → is_beyond (if b then Stopping else Ready) ≡ true
    go true = refl
    go false = refl
beyond_told other m h = h

beyond_ending : (stage : Stage) → is_beyond stage ≡ true → is_beyond (stage_ending stage) ≡ true
beyond_ending Ended h = h
beyond_ending other h = refl

past_started : (stage : Stage) → is_past stage ≡ true → is_past (stage_started stage) ≡ true
past_started Spawning h = never (sym h)
past_started other h = h

past_hears : (stage : Stage) (m : Message) → is_past stage ≡ true → is_past (stage_hears stage m) ≡ true
past_hears Initializing m h = never (sym h)
past_hears other m h = h

past_told : (stage : Stage) (m : Message) → is_past stage ≡ true → is_past (stage_told stage m) ≡ true
past_told Ready m h = never (sym h)
past_told other m h = h

past_ending : (stage : Stage) → is_past stage ≡ true → is_past (stage_ending stage) ≡ true
past_ending Ended h = h
past_ending other h = refl

beyond_lasts : Lasts is_beyond
beyond_lasts = record { started = beyond_started; hears = beyond_hears; told = beyond_told; ending = beyond_ending; ended = refl }

past_lasts : Lasts is_past
past_lasts = record { started = past_started; hears = past_hears; told = past_told; ending = past_ending; ended = refl }

module _ (test : Stage → Bool) (lasts : Lasts test) (s : ℕ) where
  record Lasting (events : List Event) : Type 0 where
    stage : test (life_of s events).stage ≡ true
    low : s < starts_of events

  -- no other start is spawned under its number
  abbrev Fits : List Event → Event → Type 0
  Fits events (did (Spawn n g) m) = n ≡ starts_of events
  Fits events other = Unit {0}

  by_if : (b : Bool) (later life : Life) → test later.stage ≡ true → test life.stage ≡ true → test (if b then later else life).stage ≡ true
  by_if true later life h k = h
  by_if false later life h k = k

  life_lasts : (events : List Event) (life : Life) (ev : Event) → Fits events ev → s < starts_of events → test life.stage ≡ true → test (life_behind s life ev).stage ≡ true
  life_lasts events life (took (Started n) m) fits low h = by_if (nat_eq n s) (record { stage = stage_started life.stage; started = true }) life (lasts.started life.stage h) h
  life_lasts events life (took (StartFailed n) m) fits low h = by_if (nat_eq n s) (record { stage = Ended; started = life.started }) life lasts.ended h
  life_lasts events life (took (FromServer n body) m) fits low h = by_if (nat_eq n s) (record { stage = stage_hears life.stage m; started = life.started }) life (lasts.hears life.stage m h) h
  life_lasts events life (took (ServerGone n) m) fits low h = by_if (nat_eq n s) (record { stage = Ended; started = life.started }) life lasts.ended h
  life_lasts events life (did (Spawn n g) m) fits low h = go (nat_eq n s) refl
    where
      go : (b : Bool) → nat_eq n s ≡ b → test (if b then record { stage = Spawning; started = false } else life).stage ≡ true
      go true same = absurd (let is : n ≡ s = number_same n s same in omega (arith, is, fits, low))
      go false other = h
  life_lasts events life (did (ToServer n body) m) fits low h = by_if (nat_eq n s) (record { stage = stage_told life.stage m; started = life.started }) life (lasts.told life.stage m h) h
  life_lasts events life (did (EndServer n) m) fits low h = by_if (nat_eq n s) (record { stage = stage_ending life.stage; started = life.started }) life (lasts.ending life.stage h) h
  life_lasts events life other fits low h = h

  low_lasts : (n : ℕ) (ev : Event) → s < n → s < starts_behind n ev
  low_lasts n (did (Spawn k g) m) low = omega (arith, low)
  low_lasts n other low = low

  lasting_more : (events : List Event) (ev : Event) → Fits events ev → Lasting events → Lasting (events ++ ev ∷ [])
  lasting_more events ev fits h = record {
    stage = ap (λ (l : Life). test l.stage) (life_more s events ev) ∙ life_lasts events (life_of s events) ev fits h.low h.stage;
    low = subst (λ n. s < n) (sym (starts_more events ev)) (low_lasts (starts_of events) ev h.low);
  }

  lasting_heard : (events : List Event) (cause : Cause) → Lasting events → Lasting (with_cause events cause)
  lasting_heard events cause h = lasting_more events (heard cause) (fits cause) h
    where
      fits : (cause : Cause) → Fits events (heard cause)
      fits (Joined e) = tt
      fits (FromEditor e body) = tt
      fits (EditorGone e why) = tt
      fits (Started n) = tt
      fits (StartFailed n) = tt
      fits (FromServer n body) = tt
      fits (ServerGone n) = tt
      fits (Drained e k) = tt
      fits (Tick t) = tt

  module _ (settings : Settings) where
    fits_why : (before : List Event) (cause : Cause) (events : List Event) (out : Out) → Why settings before cause events out → Fits events (said out)
    fits_why before cause events (Spawn n g) why = why.0
    fits_why before cause events (ToServer n body) why = tt
    fits_why before cause events (ToEditor n body) why = tt
    fits_why before cause events (CloseEditor n) why = tt
    fits_why before cause events (EndServer n) why = tt

    -- of each out this holds, where the start is such a one at its place
    module _ (P : Out → Type 0) (each : (before : List Event) (cause : Cause) (events : List Event) (out : Out) → Why settings before cause events out → Lasting events → P out) where
      row_lasts : (before : List Event) (cause : Cause) (events : List Event) (outs : List Out) → AllWhy settings before cause events outs → Lasting events → AllByRecursion P outs × Lasting (behind events outs)
      row_lasts before cause events [] why h = (tt, subst Lasting (sym (append-nil events)) h)
      row_lasts before cause events (out ∷ outs) why h =
          let rest = row_lasts before cause (events ++ said out ∷ []) outs why.1 (lasting_more events (said out) (fits_why before cause events out why.0) h) in
          ((each before cause events out why.0 h, rest.0), subst Lasting (append_assoc events (said out ∷ []) (map said outs)) rest.1)

      slow_lasts : (events : List Event) (xs : List SlowOuts) → AllSlow settings events xs → Lasting events → AllByRecursion P (flat_map (λ (x : SlowOuts). x.outs) xs) × Lasting (behind events (flat_map (λ (x : SlowOuts). x.outs) xs))
      slow_lasts events [] slow h = (tt, subst Lasting (sym (append-nil events)) h)
      slow_lasts events (x ∷ xs) slow h =
          let first = row_lasts events (quitting x.editor) events x.outs slow.1.0 h in
          let rest = slow_lasts (behind events x.outs) xs slow.1.1 first.1 in
          (all_join P x.outs (flat_map (λ (y : SlowOuts). y.outs) xs) first.0 rest.0, subst Lasting (sym (behind_both events x.outs (flat_map (λ (y : SlowOuts). y.outs) xs))) rest.1)

      entry_lasts : (before : List Event) (cause : Cause) (outs : List Out) → HasParts settings before cause outs → Lasting before → AllByRecursion P outs × Lasting (behind (with_cause before cause) outs)
      entry_lasts before cause outs k h =
          let first = row_lasts before cause (with_cause before cause) k.row k.why (lasting_heard before cause h) in
          let rest = slow_lasts (behind (with_cause before cause) k.row) k.slow k.leave first.1 in
          let slow : List Out = flat_map (λ (x : SlowOuts). x.outs) k.slow in
          subst (λ xs. AllByRecursion P xs × Lasting (behind (with_cause before cause) xs)) (sym k.parts) (all_join P k.row slow first.0 rest.0, subst Lasting (sym (behind_both (with_cause before cause) k.row slow)) rest.1)

-- a start that was ready and is so no more
pub record Past (s : ℕ) (events : List Event) : Type 0 where
  over : is_past (life_of s events).stage ≡ true
  low : s < starts_of events

module _ (settings : Settings) (s : ℕ) where
  -- where it isn't ready behind an entry
  pub past_behind : (before : List Event) (cause : Cause) (outs : List Out) → HasParts settings before cause outs → is_ready (life_of s before).stage ≡ true → s < starts_of before → is_ready (life_of s (behind (with_cause before cause) outs)).stage ≡ false → Past s (behind (with_cause before cause) outs)
  past_behind before cause outs k ready low off =
      let last = (entry_lasts is_beyond beyond_lasts s settings (λ out. Unit {0}) (λ b c events out why h. tt) before cause outs k (record { stage = beyond_ready (life_of s before).stage ready; low = low })).1 in
      record { over = past_unready (life_of s (behind (with_cause before cause) outs)).stage last.stage off; low = last.low }

  pub past_off : (events : List Event) → Past s events → is_ready (life_of s events).stage ≡ true → ⊥
  past_off events h ready = unready_past (life_of s events).stage h.over ready

  -- it is told nothing of a document
  past_silent : (before : List Event) (cause : Cause) (events : List Event) (out : Out) → Why settings before cause events out → is_past (life_of s events).stage ≡ true → IsSilent s out
  past_silent before cause events (ToServer n body) why over = λ same. go same (speaks (saying_of (message_of body))) refl
    where
      go : n ≡ s → (b : Bool) → speaks (saying_of (message_of body)) ≡ b → saying_of (message_of body) ≡ saying.nothing
      go same true spoken = absurd (unready_past (life_of s events).stage over (ap (λ k. is_ready (life_of k events).stage) (sym same) ∙ ap is_ready (one_told settings before cause events (ToServer n body) why spoken)))
      go same false silent = unspoken (saying_of (message_of body)) silent
  past_silent before cause events (ToEditor n body) why over = tt
  past_silent before cause events (Spawn n g) why over = tt
  past_silent before cause events (CloseEditor n) why over = tt
  past_silent before cause events (EndServer n) why over = tt

  pub past_entry : (before : List Event) (cause : Cause) (outs : List Out) → HasParts settings before cause outs → Past s before → AllByRecursion (IsSilent s) outs × Past s (behind (with_cause before cause) outs)
  past_entry before cause outs k h =
      let both = entry_lasts is_past past_lasts s settings (IsSilent s) (λ b c events out why at. past_silent b c events out why at.stage) before cause outs k (record { stage = h.over; low = h.low }) in
      (both.0, record { over = both.1.stage; low = both.1.low })
