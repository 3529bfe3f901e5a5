-- What was sent to each editor and not drained yet.
use Rattle.std.specs.Prelude.{◌≡◌, ℕ, List}
use Rattle.std.specs.Prelude.{Option, Some, None, slice_get}
use Rattle.event_model.specs.Event.{Event}
use Rattle.event_model.specs.Phases.{backlog_of, editors_of}
use Rattle.std.specs.Prelude.{length}

-- the bytes that are kept of an editor; none of one that never joined
abbrev pub bytes_in : Option ℕ → ℕ
bytes_in None = 0
bytes_in (Some n) = n

-- by the number of the editor
pub record BacklogsStand (counts : List ℕ) (events : List Event) : Type 0 where
  pub count : editors_of events ≡ length counts
  pub bytes : (e : ℕ) → backlog_of e events ≡ bytes_in (slice_get counts e)
