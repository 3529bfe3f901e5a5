-- X1 to X3: what is said as the program of a group's last start ends.
use Rattle.std.specs.Prelude.{◌≡◌, ℕ, ◌<◌, List, [], get_or, length, None, Some, slice_get}
use Rattle.std.specs.List.{AllByRecursion}
use Rattle.event_model.specs.declared.stage.Stage.TheVariants.{Ended}
use Rattle.event_model.specs.Event.{Event}
use Rattle.event_model.specs.Row.{Row, each, ◌⨾◌}
use Rattle.event_model.specs.Settings.{Settings}
use Rattle.group_rows.specs.Asks.{asking_of, members_in}
use Rattle.group_rows.specs.ExitRows.{turn_out}
use Rattle.group_rows.specs.Live.{unregister_text}
use Rattle.group_words.specs.Houses.{home_of}
use Rattle.group_words.specs.Rows.{spawn}
use Rattle.mux_exits.specs.declared.partings.Parting.{Parting}
use Rattle.mux_exits.specs.Losses.{CanLose, live_at, loss_row, lost_at}
use Rattle.mux_tables.specs.declared.tables.Start.{Start}
use Rattle.mux_turns.specs.Calls.{IsCall}
use Rattle.mux_turns.specs.Initials.{AllHoused}
use Rattle.mux_turns.specs.Welcomes.{AllAsking}

-- what the events say of it, for group g, whose last start is s
pub record IsParting (settings : Settings) (before : List Event) (g s : ℕ) (p : Parting) : Type 0 where
  pub members : p.members.items ≡ members_in settings g before
  pub losses : p.losses.items ≡ lost_at settings before s g
  pub live : p.live.items ≡ live_at settings before s

-- the row of it
abbrev pub parting_row : Settings → ℕ → Parting → Row
parting_row settings g p = each (loss_row p.live.items) p.losses.items ⨾ each (turn_out settings g) p.members.items

-- the same where the group goes on
abbrev pub renewing_row : ℕ → Parting → Row
renewing_row g p = each (loss_row p.live.items) p.losses.items ⨾ spawn g

-- these editors are in group g
abbrev pub AreHome : Settings → List Event → ℕ → List ℕ → Type 0
AreHome settings now g members = (i : ℕ) → i < length members → home_of settings (get_or members i 0) now ≡ Some g

-- it may be said now
pub record CanPart (settings : Settings) (now : List Event) (g : ℕ) (p : Parting) : Type 0 where
  pub call : IsCall (unregister_text p.live.items)
  pub losses : AllByRecursion (CanLose now) p.losses.items
  pub idle : (s : ℕ) → (asking_of settings s now).asker ≡ None
  pub asking : AllAsking now
  pub housed : AllHoused settings now
  pub home : AreHome settings now g p.members.items

-- the last start in this place is over, and has nothing to answer
abbrev pub IsOver : ℕ → List Start → Type 0
IsOver place lasts = (x : Start) → slice_get lasts place ≡ Some x → (x.life.stage ≡ Ended) × (x.ids.requests ≡ [])
