-- What groups carry, behind an entry that doesn't change it.
use Rattle.std.proofs.Common.{◌≡◌, ℕ, Bool, true, false, ◌&&◌, List, codes, refl, ap, ◌∙◌, if◌then◌else◌}
use Rattle.std.specs.Prelude.{Some}
use Rattle.mux_history.specs.declared.cause.Cause.{Cause}
use Rattle.mux_history.specs.declared.cause.Cause.TheVariants.{Joined, FromEditor, EditorGone, Started, StartFailed, FromServer, ServerGone, Drained, Tick}
use Rattle.mux_history.specs.declared.out.Out.{Out}
use Rattle.rpc_message.specs.Message.{Message, message_of, request, notification, result, error, not_json, not_message}
use Rattle.event_model.specs.declared.stage.Stage.{Stage}
use Rattle.event_model.specs.declared.stage.Stage.TheVariants.{Unspawned, Spawning, Initializing, Ready, Stopping, Ending, Ended}
use Rattle.event_model.specs.Event.{Event, behind, heard, notifies, with_cause}
use Rattle.event_model.specs.Phases.{desk_of, is_malformed, is_served}
use Rattle.event_model.specs.Settings.{Settings}
use Rattle.event_model.specs.Spawns.{group_of}
use Rattle.event_model.specs.Stages.{is_first_result, is_initializing, life_of}
use Rattle.group_rows.specs.Earlier.{configuration_next, configuration_of, given_next, given_of}
use Rattle.group_words.specs.Houses.{home_of, is_home}
use Rattle.mux_turns.specs.Carried.{CarriedStand, CarriesView}
use Rattle.mux_turns.proofs.CarriedOn.{carried_behind, carried_took}

-- a cause that is no body
abbrev pub IsAside : Cause → Type 0
IsAside (FromEditor e body) = ⊥
IsAside (FromServer s body) = ⊥
IsAside other = Unit {0}

and_off : (b : Bool) → (b && false) ≡ false
and_off true = refl
and_off false = refl

-- of a stage that isn't this one
pub not_initializing : (stage : Stage) → (stage ≡ Initializing → ⊥) → is_initializing stage ≡ false
not_initializing Initializing h = absurd (h refl)
not_initializing Unspawned h = refl
not_initializing Spawning h = refl
not_initializing Ready h = refl
not_initializing Stopping h = refl
not_initializing Ending h = refl
not_initializing Ended h = refl

malformed_tells : (name : List ℕ) (m : Message) → is_malformed m ≡ true → notifies name m ≡ false
malformed_tells name not_json h = refl
malformed_tells name not_message h = refl
malformed_tells name (request id method params) h = refl
malformed_tells name (notification method params) h = absurd (cc)
malformed_tells name (result id r) h = refl
malformed_tells name (error id r) h = refl

malformed_first : (m : Message) → is_malformed m ≡ true → is_first_result m ≡ false
malformed_first not_json h = refl
malformed_first not_message h = refl
malformed_first (request id method params) h = refl
malformed_first (notification method params) h = refl
malformed_first (result id r) h = absurd (cc)
malformed_first (error id r) h = refl

module _ (settings : Settings) (carries : CarriesView) (before : List Event) where
  stays : (cause : Cause) (xs : List Out) → ((g : ℕ) → given_next g before (given_of g before) (heard cause) ≡ given_of g before)
      → ((g : ℕ) → configuration_next settings g before (configuration_of settings g before) (heard cause) ≡ configuration_of settings g before) → CarriedStand settings carries before → CarriedStand settings carries (behind (with_cause before cause) xs)
  stays cause xs given configured h = carried_behind settings carries (with_cause before cause) xs (carried_took settings carries before cause given configured h)

  pub aside_carried : (cause : Cause) (xs : List Out) → IsAside cause → CarriedStand settings carries before → CarriedStand settings carries (behind (with_cause before cause) xs)
  aside_carried (Joined e) xs aside h = stays (Joined e) xs (λ g. refl) (λ g. refl) h
  aside_carried (EditorGone e why) xs aside h = stays (EditorGone e why) xs (λ g. refl) (λ g. refl) h
  aside_carried (Started s) xs aside h = stays (Started s) xs (λ g. refl) (λ g. refl) h
  aside_carried (StartFailed s) xs aside h = stays (StartFailed s) xs (λ g. refl) (λ g. refl) h
  aside_carried (ServerGone s) xs aside h = stays (ServerGone s) xs (λ g. refl) (λ g. refl) h
  aside_carried (Drained e k) xs aside h = stays (Drained e k) xs (λ g. refl) (λ g. refl) h
  aside_carried (Tick t) xs aside h = stays (Tick t) xs (λ g. refl) (λ g. refl) h
  aside_carried (FromEditor e body) xs aside h = absurd aside
  aside_carried (FromServer s body) xs aside h = absurd aside

  -- a body of a start that isn't its first result
  unresulted : (s : ℕ) (body : List ℕ) (xs : List Out) → (is_initializing (life_of s before).stage && is_first_result (message_of body)) ≡ false → CarriedStand settings carries before → CarriedStand settings carries (behind (with_cause before (FromServer s body)) xs)
  unresulted s body xs none h = stays (FromServer s body) xs (λ g. ap (λ b. if is_home g (group_of s before) && b then Some body else given_of g before) none ∙ ap (λ b. if b then Some body else given_of g before) (and_off (is_home g (group_of s before)))) (λ g. refl) h

  pub other_carried : (s : ℕ) (body : List ℕ) (xs : List Out) → is_first_result (message_of body) ≡ false → CarriedStand settings carries before → CarriedStand settings carries (behind (with_cause before (FromServer s body)) xs)
  other_carried s body xs other h = unresulted s body xs (ap (λ b. is_initializing (life_of s before).stage && b) other ∙ and_off (is_initializing (life_of s before).stage)) h

  pub later_carried : (s : ℕ) (body : List ℕ) (xs : List Out) (stage : Stage) → (life_of s before).stage ≡ stage → is_initializing stage ≡ false → CarriedStand settings carries before → CarriedStand settings carries (behind (with_cause before (FromServer s body)) xs)
  later_carried s body xs stage at later h = unresulted s body xs (ap (λ b. b && is_first_result (message_of body)) (ap is_initializing at ∙ later)) h

  pub malformed_said : (s : ℕ) (body : List ℕ) (xs : List Out) → is_malformed (message_of body) ≡ true → CarriedStand settings carries before → CarriedStand settings carries (behind (with_cause before (FromServer s body)) xs)
  malformed_said s body xs malformed h = other_carried s body xs (malformed_first (message_of body) malformed) h

  -- a body of an editor that is no message
  pub malformed_carried : (e : ℕ) (body : List ℕ) (xs : List Out) → is_malformed (message_of body) ≡ true → CarriedStand settings carries before → CarriedStand settings carries (behind (with_cause before (FromEditor e body)) xs)
  malformed_carried e body xs malformed h = stays (FromEditor e body) xs (λ g. refl)
      (λ g. ap (λ b. if is_home g (home_of settings e before) && (is_served (desk_of e before).phase && b) then Some body else configuration_of settings g before) (malformed_tells (codes "workspace/didChangeConfiguration") (message_of body) malformed)
      ∙ (ap (λ b. if is_home g (home_of settings e before) && b then Some body else configuration_of settings g before) (and_off (is_served (desk_of e before).phase)) ∙ ap (λ b. if b then Some body else configuration_of settings g before) (and_off (is_home g (home_of settings e before))))) h
