-- Which groups live and have editors, in every legal history, and what that says of their starts.
use Rattle.std.specs.Prelude.{◌≡◌, ℕ, ◌<◌, Bool, true, false, ◌&&◌, List, is_none}
use Rattle.std.specs.Prelude.{Option, Some, None, slice_get}
use Rattle.event_model.specs.declared.phase.Phase.{Phase}
use Rattle.event_model.specs.declared.phase.Phase.TheVariants.{Absent, New}
use Rattle.event_model.specs.Event.{Event}
use Rattle.event_model.specs.Phases.{desk_of, is_begun}
use Rattle.event_model.specs.Settings.{Settings}
use Rattle.event_model.specs.Spawns.{group_of, start_of, starts_of}
use Rattle.event_model.specs.Stages.{life_of}
use Rattle.group_words.specs.declared.kept.Kept.{Kept}
use Rattle.group_words.specs.Houses.{groups_of, home_of}
use Rattle.group_facts.specs.Facts.{is_up}

-- the group of a number lives
abbrev pub lives : Option Kept → Bool
lives None = false
lives (Some x) = x.live

abbrev pub lives_at : ℕ → List Kept → Bool
lives_at g groups = lives (slice_get groups g)

-- it lives, and isn't idle
abbrev pub is_busy : Option Kept → Bool
is_busy None = false
is_busy (Some x) = x.live && is_none x.idle

abbrev pub is_busy_at : ℕ → List Kept → Bool
is_busy_at g groups = is_busy (slice_get groups g)

-- its `initialize` didn't come
abbrev pub is_unplaced : Phase → Bool
is_unplaced Absent = true
is_unplaced New = true
is_unplaced _ = false

-- start s is the last one of a group that lives no more
pub record IsDying (settings : Settings) (events : List Event) (s : ℕ) : Type 0 where
  pub group : ℕ
  pub last : start_of group events ≡ Some s
  pub over : lives_at group (groups_of settings events) ≡ false

-- no editor is in a group before its `initialize`; from then on until its link is to be ended it is in one that lives and isn't idle, if it
-- is in one; a group's last start was spawned for it; and that of a group that lives isn't to end
pub record Lively (settings : Settings) (events : List Event) : Type 0 where
  pub unplaced : (e : ℕ) → is_unplaced (desk_of e events).phase ≡ true → home_of settings e events ≡ None
  pub busy : (e g : ℕ) → is_begun (desk_of e events).phase ≡ true → home_of settings e events ≡ Some g → is_busy_at g (groups_of settings events) ≡ true
  pub last : (g s : ℕ) → start_of g events ≡ Some s → (group_of s events ≡ Some g) × (s < starts_of events)
  pub up : (g s : ℕ) → lives_at g (groups_of settings events) ≡ true → start_of g events ≡ Some s → is_up (life_of s events).stage ≡ true
