-- The starts that were spawned for groups of editors.
use Rattle.std.specs.Prelude.{ℕ, ◌+◌, List, fold, nat_eq, if◌then◌else◌}
use Rattle.std.specs.Prelude.{Option, Some, None}
use Rattle.mux_history.specs.declared.out.Out.TheVariants.{Spawn}
use Rattle.event_model.specs.Event.{Event, did}

-- how many starts were spawned
abbrev pub starts_behind : ℕ → Event → ℕ
starts_behind n (did (Spawn s g) m) = n + 1
starts_behind n other = n

abbrev pub starts_of : List Event → ℕ
starts_of events = fold starts_behind 0 events

-- the start of a group is the last one spawned for it
abbrev pub start_behind : ℕ → Option ℕ → Event → Option ℕ
start_behind g start (did (Spawn s h) m) = if nat_eq h g then Some s else start
start_behind g start other = start

abbrev pub start_of : ℕ → List Event → Option ℕ
start_of g events = fold (start_behind g) None events

-- the group that a start was spawned for
abbrev pub group_behind : ℕ → Option ℕ → Event → Option ℕ
group_behind s group (did (Spawn n g) m) = if nat_eq n s then Some g else group
group_behind s group other = group

abbrev pub group_of : ℕ → List Event → Option ℕ
group_of s events = fold (group_behind s) None events
