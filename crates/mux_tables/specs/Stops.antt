-- Of a start that was sent `shutdown`.
use Rattle.std.specs.Prelude.{ℕ, List, if◌then◌else◌}
use Rattle.std.specs.Prelude.{Option, None}
use Rattle.event_model.specs.Event.{Event}
use Rattle.event_model.specs.Stages.{life_of}
use Rattle.group_laws.specs.group_rows.specs.Ticks.{is_stopping, stop_of}

-- the moment at which it was, as long as the answer is awaited
abbrev pub awaited_stop : ℕ → List Event → Option ℕ
awaited_stop s events = if is_stopping (life_of s events).stage then stop_of s events else None
