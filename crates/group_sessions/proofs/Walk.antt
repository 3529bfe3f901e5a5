-- A law of every legal history, shown by each row and by each editor that is slow, where what holds of every place between rows is at hand.
use Rattle.std.proofs.Common.{◌≡◌, ℕ, true, List, []}
use Rattle.mux_history.specs.declared.cause.Cause.{Cause}
use Rattle.event_model.specs.Event.{Event, behind, with_cause}
use Rattle.event_model.specs.Settings.{Settings}
use Rattle.mux_model.specs.Fits.{fits_behind}
use Rattle.group_rows.specs.Rows.{outs_of}
use Rattle.group_facts.specs.SlowRows.{is_slow}
use Rattle.group_facts.proofs.Reached.{Reached, reached_keeps}
use Rattle.group_facts.proofs.SlowRow.{parting}

-- what is to be shown: a row keeps it
abbrev pub Keeps : Settings → (List Event → Type 0) → Type 0
Keeps settings I = (before : List Event) → Reached settings before → (cause : Cause) → fits_behind before cause ≡ true → I before → I (behind (with_cause before cause) (outs_of settings before cause))

-- and an editor that is slow, as it leaves
abbrev pub KeepsSlow : Settings → (List Event → Type 0) → Type 0
KeepsSlow settings I = (place : List Event) → Reached settings place → (e : ℕ) → is_slow settings e place ≡ true → I place → I (behind place (parting settings place e))

module _ (settings : Settings) (I : List Event → Type 0) (keeps : Keeps settings I) (slow : KeepsSlow settings I) where
  pub walk : I [] → (events : List Event) → Reached settings events → I events
  walk start = reached_keeps settings I start (λ before cause fits at h. keeps before at cause fits h) (λ place e is at h. slow place at e is h)
