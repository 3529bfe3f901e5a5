-- What a hub says to a cause behind a history: the outs of the routing table over several editors and groups.
use Rattle.std.specs.Prelude.{ℕ, ◌+◌, Bool, false, List, length, nat_lt}
use Rattle.mux_history.specs.declared.cause.Cause.{Cause}
use Rattle.mux_history.specs.declared.cause.Cause.TheVariants.{FromEditor}
use Rattle.mux_history.specs.declared.entry.Entry.{Entry}
use Rattle.mux_history.specs.declared.out.Out.{Out}
use Rattle.event_model.specs.Event.{events_of}
use Rattle.event_model.specs.Settings.{Settings}
use Rattle.rpc_message.specs.Message.{message_of}
use Rattle.group_words.specs.Houses.{stops}
use Rattle.group_sessions.specs.group_rows.specs.StopRows.{stopped}
use Rattle.group_sessions.specs.group_facts.specs.SlowRows.{entry_outs}

abbrev pub emits : Settings → List Entry → Cause → List Out
emits settings history cause = entry_outs settings (events_of history) cause

abbrev pub entry_of : Settings → List Entry → Cause → Entry
entry_of settings history cause = record { cause = cause; outs = emits settings history cause }

-- the most causes and outs of a history, 2^63 - 1
abbrev pub most_events : ℕ
most_events = 9223372036854775807

-- with this cause and its outs the causes and outs of the history would be more
abbrev pub passes : Settings → List Entry → Cause → Bool
passes settings history cause = nat_lt most_events (length (events_of history) + (1 + length (emits settings history cause)))

-- E6: the cause asks the multiplexer to stop, and it was stopped
abbrev pub asks_stop : List Entry → Cause → Bool
asks_stop history (FromEditor e body) = stops (events_of history) e (message_of body)
asks_stop history other = false

abbrev pub was_stopped : List Entry → Bool
was_stopped history = stopped (events_of history)
