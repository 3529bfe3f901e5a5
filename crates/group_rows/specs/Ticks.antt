-- X7: what ends by a tick, groups that are idle and programs that were sent `shutdown`.
use Rattle.std.specs.Prelude.{ℕ, max, Bool, true, false, ◌&&◌, List, [], codes, nat_eq, if◌then◌else◌}
use Rattle.std.specs.Prelude.{Option, Some, None}
use Rattle.std.specs.List.{filter, range_with_len}
use Rattle.mux_history.specs.declared.out.Out.TheVariants.{ToServer, EndServer}
use Rattle.rpc_message.specs.Message.{Message}
use Rattle.event_model.specs.declared.stage.Stage.{Stage}
use Rattle.event_model.specs.declared.stage.Stage.TheVariants.{Stopping}
use Rattle.event_model.specs.Event.{Event, did, requests}
use Rattle.event_model.specs.Row.{Row, send, each, ◌⨾◌}
use Rattle.event_model.specs.Settings.{Settings}
use Rattle.event_model.specs.Spawns.{starts_of}
use Rattle.event_model.specs.Stages.{is_ready, life_of}
use Rattle.group_words.specs.Houses.{groups_of, time_of}
use Rattle.group_words.specs.Past.{past}
use Rattle.group_words.specs.Placing.{all_from, is_due, is_since}
use Rattle.group_words.specs.Rows.{end_group}

-- its answer to `shutdown` is awaited
abbrev pub is_stopping : Stage → Bool
is_stopping Stopping = true
is_stopping other = false

-- the body by which a ready start is to stop
abbrev pub is_stop : Stage → Message → Bool
is_stop stage m = is_ready stage && requests (codes "shutdown") m

-- the moment at which start s was sent `shutdown`: the time then, the tick of that entry included
abbrev pub stop_next : ℕ → List Event → Option ℕ → Event → Option ℕ
stop_next s before since (did (ToServer n body) m) = if nat_eq n s && is_stop (life_of s before).stage m then Some (time_of before) else since
stop_next s before since other = since

abbrev pub stop_of : ℕ → List Event → Option ℕ
stop_of s events = past (stop_next s) [] None events

-- the starts, rising, whose answer to `shutdown` is awaited
abbrev pub stopping_of : List Event → List ℕ
stopping_of events = filter (λ s. is_stopping (life_of s events).stage) (range_with_len 0 (starts_of events))

-- the groups, rising, that live and are idle for long enough at this tick
abbrev pub due_of : Settings → List Event → ℕ → List ℕ
due_of settings before t = all_from 0 (is_due settings.limits.idle (max (time_of before) t)) (groups_of settings before)

-- the starts, rising, that were sent `shutdown` before it, long enough ago
abbrev pub overdue_of : Settings → List Event → ℕ → List ℕ
overdue_of settings before t = filter (λ s. is_since settings.limits.grace (max (time_of before) t) (stop_of s before)) (stopping_of before)

-- those groups end, and then the programs of those starts are to be ended
abbrev pub tick_row : Settings → List Event → ℕ → Row
tick_row settings before t = each end_group (due_of settings before t) ⨾ each (λ s. send (EndServer s)) (overdue_of settings before t)
