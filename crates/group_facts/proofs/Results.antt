-- What each start gave is a result with id 1, and one that is ready gave one.
use Rattle.std.proofs.Common.{◌≡◌, ℕ, Bool, true, false, List, [], ◌∷◌, ◌++◌, nat_eq, is_some, if◌then◌else◌, Option, Some, None, refl, sym, ◌∙◌, ap}
use Rattle.std.proofs.lemmas.List.Sums.{fold-append}
use Rattle.mux_history.specs.declared.cause.Cause.{Cause}
use Rattle.mux_history.specs.declared.cause.Cause.TheVariants.{Started, StartFailed, FromServer, ServerGone}
use Rattle.mux_history.specs.declared.out.Out.{Out}
use Rattle.mux_history.specs.declared.out.Out.TheVariants.{ToEditor, ToServer, Spawn, EndServer}
use Rattle.rpc_message.specs.Message.{Message, message_of}
use Rattle.event_model.specs.declared.stage.Stage.{Stage}
use Rattle.event_model.specs.declared.stage.Stage.TheVariants.{Spawning, Initializing, Ready, Ended}
use Rattle.event_model.specs.Event.{Event, took, did, heard, said, with_cause}
use Rattle.event_model.specs.Stages.{Life, is_first_result, is_ready, life_behind, life_of, stage_ending, stage_hears, stage_started, stage_told}
use Rattle.event_model.proofs.Frames.{never}
use Rattle.mux_facts.proofs.Folds.{life_more}
use Rattle.group_words.specs.Rows.{result_behind, result_of}
use Rattle.group_facts.specs.Facts.{Results}

result_more : (s : ℕ) (events : List Event) (event : Event) → result_of s (events ++ event ∷ []) ≡ result_behind s (result_of s events) event
result_more s events event = fold-append (result_behind s) None events (event ∷ [])

abbrev is_heard : Event → Bool
is_heard (took (FromServer s body) m) = true
is_heard other = false

quiet : (s : ℕ) (x : Option (List ℕ)) (event : Event) → is_heard event ≡ false → result_behind s x event ≡ x
quiet s (Some b) event h = refl
quiet s None (took (FromServer n body) m) h = never h
quiet s None other h = refl

-- what was given stays
kept : (s : ℕ) (x : Option (List ℕ)) (event : Event) → is_some x ≡ true → is_some (result_behind s x event) ≡ true
kept s (Some b) event h = refl
kept s None event h = never (sym h)

-- One that is ready gave its result

ready_started : (stage : Stage) → is_ready (stage_started stage) ≡ true → is_ready stage ≡ true
ready_started Spawning h = h
ready_started other h = h

ready_told : (stage : Stage) (m : Message) → is_ready (stage_told stage m) ≡ true → is_ready stage ≡ true
ready_told Ready m h = refl
ready_told other m h = h

ready_ending : (stage : Stage) → is_ready (stage_ending stage) ≡ true → is_ready stage ≡ true
ready_ending Ended h = h
ready_ending other h = never (sym h)

back : (b : Bool) (x y : Life) → (is_ready x.stage ≡ true → is_ready y.stage ≡ true) → is_ready (if b then x else y).stage ≡ true → is_ready y.stage ≡ true
back true x y f h = f h
back false x y f h = h

-- by an event that is no body of a start, none becomes ready
was_ready : (s : ℕ) (life : Life) (event : Event) → is_heard event ≡ false → is_ready (life_behind s life event).stage ≡ true → is_ready life.stage ≡ true
was_ready s life (took (Started n) m) quietly h = back (nat_eq n s) (record { stage = stage_started life.stage; started = true }) life (ready_started life.stage) h
was_ready s life (took (StartFailed n) m) quietly h = back (nat_eq n s) (record { stage = Ended; started = life.started }) life (λ e. never (sym e)) h
was_ready s life (took (FromServer n body) m) quietly h = never quietly
was_ready s life (took (ServerGone n) m) quietly h = back (nat_eq n s) (record { stage = Ended; started = life.started }) life (λ e. never (sym e)) h
was_ready s life (did (Spawn n g) m) quietly h = back (nat_eq n s) (record { stage = Spawning; started = false }) life (λ e. never (sym e)) h
was_ready s life (did (ToServer n body) m) quietly h = back (nat_eq n s) (record { stage = stage_told life.stage m; started = life.started }) life (ready_told life.stage m) h
was_ready s life (did (EndServer n) m) quietly h = back (nat_eq n s) (record { stage = stage_ending life.stage; started = life.started }) life (ready_ending life.stage) h
was_ready s life other quietly h = h

-- by a body of a start, one becomes ready where that is its first result
gave : (s n : ℕ) (life : Life) (body : List ℕ) (m : Message) (x : Option (List ℕ)) → (is_ready life.stage ≡ true → is_some x ≡ true) → is_ready (life_behind s life (took (FromServer n body) m)).stage ≡ true
    → is_some (result_behind s x (took (FromServer n body) m)) ≡ true
gave s n life body m (Some b) f h = refl
gave s n life body m None f h = go (nat_eq n s) h
  where
    first : (c : Bool) → is_ready (if c then Ready else Initializing) ≡ true → is_some (if c then Some body else None) ≡ true
    first true h = refl
    first false h = h

    itself : (stage : Stage) → (is_ready stage ≡ true → false ≡ true) → is_ready (stage_hears stage m) ≡ true → is_some (if is_first_result m then Some body else None) ≡ true
    itself Initializing f h = first (is_first_result m) h
    itself other f h = never (sym (f h))

    go : (b : Bool) → is_ready (if b then record { stage = stage_hears life.stage m; started = life.started } else life).stage ≡ true → is_some (if b then (if is_first_result m then Some body else None) else None) ≡ true
    go true h = itself life.stage f h
    go false h = f h

by_life : (s : ℕ) (events : List Event) (event : Event) → is_ready (life_of s (events ++ event ∷ [])).stage ≡ true → is_ready (life_behind s (life_of s events) event).stage ≡ true
by_life s events event h = sym (ap (λ (l : Life). is_ready l.stage) (life_more s events event)) ∙ h

quiet_more : (events : List Event) (event : Event) → is_heard event ≡ false → Results events → Results (events ++ event ∷ [])
quiet_more events event quietly h = record {
  each = λ s body e. h.each s body (sym (result_more s events event ∙ quiet s (result_of s events) event quietly) ∙ e);
  given = λ s ready. ap is_some (result_more s events event) ∙ kept s (result_of s events) event (h.given s (was_ready s (life_of s events) event quietly (by_life s events event ready)));
}

the_body : {a b : List ℕ} → ◌≡◌ {A = Option (List ℕ)} (Some a) (Some b) → a ≡ b
the_body h = cc

-- a body of a start may be its result
module _ (events : List Event) (n : ℕ) (body : List ℕ) (h : Results events) where
  heard_result : (s : ℕ) (b : List ℕ) → result_of s (with_cause events (FromServer n body)) ≡ Some b → is_first_result (message_of b) ≡ true
  heard_result s b e = go (result_of s events) refl (sym (result_more s events (heard (FromServer n body))) ∙ e)
    where
      fresh : (c d : Bool) → is_first_result (message_of body) ≡ d → (if c then (if d then Some body else None) else None) ≡ Some b → is_first_result (message_of b) ≡ true
      fresh true true first k = ap (λ z. is_first_result (message_of z)) (sym (the_body k)) ∙ first
      fresh true false first k = absurd (cc)
      fresh false d first k = absurd (cc)

      go : (x : Option (List ℕ)) → result_of s events ≡ x → result_behind s x (heard (FromServer n body)) ≡ Some b → is_first_result (message_of b) ≡ true
      go None at k = fresh (nat_eq n s) (is_first_result (message_of body)) refl k
      go (Some c) at k = h.each s b (at ∙ k)

  heard_given : (s : ℕ) → is_ready (life_of s (with_cause events (FromServer n body))).stage ≡ true → is_some (result_of s (with_cause events (FromServer n body))) ≡ true
  heard_given s ready = ap is_some (result_more s events (heard (FromServer n body)))
      ∙ gave s n (life_of s events) body (message_of body) (result_of s events) (h.given s) (by_life s events (heard (FromServer n body)) ready)

pub results_took : (events : List Event) (cause : Cause) → Results events → Results (with_cause events cause)
results_took events (FromServer n body) h = record { each = heard_result events n body h; given = heard_given events n body h }
results_took events cause h = quiet_more events (heard cause) refl h

pub results_did : (events : List Event) (out : Out) → Results events → Results (events ++ said out ∷ [])
results_did events out h = quiet_more events (said out) (silent out) h
  where
    silent : (out : Out) → is_heard (said out) ≡ false
    silent (ToEditor e body) = refl
    silent other = refl

pub results_none : Results []
results_none = record { each = λ s body e. cc; given = λ s ready. never (sym ready) }
