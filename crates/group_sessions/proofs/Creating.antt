-- The tokens that live at a ready start, in every legal history: each has its text, and is one that the start created, by its part.
use Rattle.std.proofs.Common.{◌≡◌, ℕ, true, List}
use Rattle.std.specs.List.{AllByRecursion}
use Rattle.rpc_message.specs.ValueTexts.{IsIdText}
use Rattle.event_model.specs.declared.stage.Stage.TheVariants.{Ready}
use Rattle.event_model.specs.Event.{Event}
use Rattle.event_model.specs.Requests.{is_open}
use Rattle.event_model.specs.Settings.{Settings}
use Rattle.event_model.specs.Stages.{life_of}
use Rattle.mux_facts.specs.Ranges.{InRange}
use Rattle.session_laws.proofs.Server7Law.{creates}
use Rattle.group_rows.specs.Created.{Token, created_of}
use Rattle.group_facts.proofs.Forwards.{zip_all}
use Rattle.group_facts.proofs.Reached.{Reached, facts_at}
use Rattle.group_sessions.proofs.CreatedFold.{IsLive, created_orderly}
use Rattle.group_sessions.proofs.CreatedTies.{Tie, no_tie, tie_rests, tie_slow}
use Rattle.group_sessions.proofs.Walk.{walk}

pub record IsCreated (s : ℕ) (events : List Event) (t : Token) : Type 0 where
  pub text : IsIdText t.id t.text
  pub there : is_open t.id (creates s events).created ≡ true

pub all_created : (settings : Settings) → InRange settings → (before : List Event) → Reached settings before → (s : ℕ) → (life_of s before).stage ≡ Ready → AllByRecursion (IsCreated s before) (created_of settings s before).tokens
all_created settings range before legal s ready =
    let tie : Tie settings before = walk settings (Tie settings) (λ earlier so_far cause fits h. tie_rests settings range earlier (facts_at settings range earlier so_far) h cause fits)
    (λ place at e is h. tie_slow settings range place (facts_at settings range place at) e is h) (no_tie settings) before legal in
    zip_all (IsLive (created_of settings s before).next) (λ (t : Token). is_open t.id (creates s before).created ≡ true) (IsCreated s before) (λ t a b. record { text = a.text; there = b })
    (created_of settings s before).tokens (created_orderly settings s before).live (tie.there s ready)
