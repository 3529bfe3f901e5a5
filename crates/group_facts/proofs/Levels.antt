-- What holds of a start as long as it hasn't come to a stage, one event further.
use Rattle.std.proofs.Common.{◌≡◌, ℕ, Bool, true, false, List, [], ◌∷◌, ◌++◌, nat_eq, codes, if◌then◌else◌, refl, sym, ◌∙◌, ap, subst}
use Rattle.mux_history.specs.declared.cause.Cause.TheVariants.{Started, StartFailed, FromServer, ServerGone}
use Rattle.mux_history.specs.declared.out.Out.TheVariants.{ToServer, Spawn, EndServer}
use Rattle.rpc_message.specs.Message.{Message}
use Rattle.event_model.specs.declared.stage.Stage.{Stage}
use Rattle.event_model.specs.declared.stage.Stage.TheVariants.{Unspawned, Spawning, Initializing, Ready, Stopping, Ending, Ended}
use Rattle.event_model.specs.Event.{Event, took, did, requests}
use Rattle.event_model.specs.Stages.{Life, life_behind, life_of, stage_ending, stage_hears, stage_started, stage_told}
use Rattle.event_model.proofs.Frames.{never}
use Rattle.mux_facts.proofs.FactLaws.{hears_back, started_back, told_not}
use Rattle.mux_facts.proofs.Folds.{life_more}
use Rattle.mux_facts.proofs.Known.{is_unbegun}
use Rattle.mux_facts.proofs.Words.{number_same}
use Rattle.group_facts.specs.Facts.{is_unready, is_up}

-- a test that a start passes until it comes to a stage, and never again
pub record Falls (test : Stage → Bool) : Type 0 where
  pub fresh : test Unspawned ≡ true
  pub started : (stage : Stage) → test (stage_started stage) ≡ true → test stage ≡ true
  pub hears : (stage : Stage) (m : Message) → test (stage_hears stage m) ≡ true → test stage ≡ true
  pub told : (stage : Stage) (m : Message) → test (stage_told stage m) ≡ true → test stage ≡ true
  pub ending : test Ending ≡ false
  pub ended : test Ended ≡ false

-- one start, or any other
pub each_start : (T : ℕ → Type 0) (n : ℕ) → T n → ((s : ℕ) → nat_eq n s ≡ false → T s) → (s : ℕ) → T s
each_start T n one others s = go (nat_eq n s) refl
  where
    go : (b : Bool) → nat_eq n s ≡ b → T s
    go true same = subst T (number_same n s same) one
    go false other = others s other

module _ (test : Stage → Bool) (falls : Falls test) where
  back : (b : Bool) (x y : Life) → (test x.stage ≡ true → test y.stage ≡ true) → test (if b then x else y).stage ≡ true → test y.stage ≡ true
  back true x y f h = f h
  back false x y f h = h

  ending_not : (stage : Stage) → test (stage_ending stage) ≡ true → test stage ≡ true
  ending_not Ended h = h
  ending_not other h = never (sym h ∙ falls.ending)

  -- a start that is spawned passed it before
  abbrev pub Fresh : ℕ → Life → Event → Type 0
  Fresh s life (did (Spawn n g) m) = nat_eq n s ≡ true → test life.stage ≡ true
  Fresh s life other = Unit {0}

  pub falls_back : (s : ℕ) (life : Life) (event : Event) → Fresh s life event → test (life_behind s life event).stage ≡ true → test life.stage ≡ true
  falls_back s life (took (Started n) m) f h = back (nat_eq n s) (record { stage = stage_started life.stage; started = true }) life (falls.started life.stage) h
  falls_back s life (took (StartFailed n) m) f h = back (nat_eq n s) (record { stage = Ended; started = life.started }) life (λ e. never (sym e ∙ falls.ended)) h
  falls_back s life (took (FromServer n body) m) f h = back (nat_eq n s) (record { stage = stage_hears life.stage m; started = life.started }) life (falls.hears life.stage m) h
  falls_back s life (took (ServerGone n) m) f h = back (nat_eq n s) (record { stage = Ended; started = life.started }) life (λ e. never (sym e ∙ falls.ended)) h
  falls_back s life (did (Spawn n g) m) f h = go (nat_eq n s) f h
    where
      go : (b : Bool) → (b ≡ true → test life.stage ≡ true) → test (if b then record { stage = Spawning; started = false } else life).stage ≡ true → test life.stage ≡ true
      go true f h = f refl
      go false f h = h
  falls_back s life (did (ToServer n body) m) f h = back (nat_eq n s) (record { stage = stage_told life.stage m; started = life.started }) life (falls.told life.stage m) h
  falls_back s life (did (EndServer n) m) f h = back (nat_eq n s) (record { stage = stage_ending life.stage; started = life.started }) life (ending_not life.stage) h
  falls_back s life other f h = h

  abbrev pub AllLevel : (ℕ → List Event → Type 0) → List Event → Type 0
  AllLevel Q events = (s : ℕ) → test (life_of s events).stage ≡ true → Q s events

  -- one event more, for a start that passes the test before and behind it
  abbrev pub Step : (ℕ → List Event → Type 0) → List Event → Event → ℕ → Type 0
  Step Q events event s = test (life_of s events).stage ≡ true → test (life_behind s (life_of s events) event).stage ≡ true → Q s events → Q s (events ++ event ∷ [])

  pub level_more : (Q : ℕ → List Event → Type 0) (events : List Event) (event : Event) → ((s : ℕ) → Fresh s (life_of s events) event) → ((s : ℕ) → Step Q events event s) → AllLevel Q events → AllLevel Q (events ++ event ∷ [])
  level_more Q events event fresh step h s t =
      let after : test (life_behind s (life_of s events) event).stage ≡ true = sym (ap (λ (l : Life). test l.stage) (life_more s events event)) ∙ t in
      let was : test (life_of s events).stage ≡ true = falls_back s (life_of s events) event (fresh s) after in
      step s was after (h s was)

-- the three tests

unbegun_told : (stage : Stage) (m : Message) → is_unbegun (stage_told stage m) ≡ true → is_unbegun stage ≡ true
unbegun_told stage m h = go (is_unbegun stage) refl
  where
    go : (b : Bool) → is_unbegun stage ≡ b → b ≡ true
    go true e = refl
    go false e = never (sym h ∙ told_not stage m e)

pub unbegun_falls : Falls is_unbegun
unbegun_falls = record { fresh = refl; started = started_back; hears = hears_back; told = unbegun_told; ending = refl; ended = refl }

unready_started : (stage : Stage) → is_unready (stage_started stage) ≡ true → is_unready stage ≡ true
unready_started Spawning h = refl
unready_started other h = h

unready_hears : (stage : Stage) (m : Message) → is_unready (stage_hears stage m) ≡ true → is_unready stage ≡ true
unready_hears Initializing m h = refl
unready_hears other m h = h

unready_told : (stage : Stage) (m : Message) → is_unready (stage_told stage m) ≡ true → is_unready stage ≡ true
unready_told Ready m h = go (requests (codes "shutdown") m) h
  where
    go : (b : Bool) → is_unready (if b then Stopping else Ready) ≡ true → false ≡ true
    go true h = h
    go false h = h
unready_told other m h = h

pub unready_falls : Falls is_unready
unready_falls = record { fresh = refl; started = unready_started; hears = unready_hears; told = unready_told; ending = refl; ended = refl }

up_started : (stage : Stage) → is_up (stage_started stage) ≡ true → is_up stage ≡ true
up_started Spawning h = refl
up_started other h = h

up_hears : (stage : Stage) (m : Message) → is_up (stage_hears stage m) ≡ true → is_up stage ≡ true
up_hears Initializing m h = refl
up_hears other m h = h

up_told : (stage : Stage) (m : Message) → is_up (stage_told stage m) ≡ true → is_up stage ≡ true
up_told Ready m h = refl
up_told other m h = h

pub up_falls : Falls is_up
up_falls = record { fresh = refl; started = up_started; hears = up_hears; told = up_told; ending = refl; ended = refl }
