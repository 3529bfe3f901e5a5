-- S4, behind the daemon's `shutdown`: what a start that answers it is sent (LSP 3.17, Shutdown Request and Exit Notification).
use Rattle.std.specs.Prelude.{ℕ, ◌-◌, Bool, List, codes}
use Rattle.std.specs.Prelude.{None}
use Rattle.mux_history.specs.declared.out.Out.TheVariants.{ToServer, EndServer}
use Rattle.rpc_message.specs.Message.{Message}
use Rattle.rpc_message.specs.Texts.{notification_text}
use Rattle.event_model.specs.Event.{Event}
use Rattle.event_model.specs.Requests.{answered_id, next_number}
use Rattle.event_model.specs.Row.{Row, send, ◌⨾◌}
use Rattle.group_rows.specs.Forwarded.{names}

-- the number of the last request to start s: of a start that is to stop, of `shutdown`
abbrev pub last_number : ℕ → List Event → ℕ
last_number s events = next_number s events - 1

-- a result or an error whose id is that number, by its text
abbrev pub answers_shutdown : ℕ → List Event → Message → Bool
answers_shutdown s before m = names (answered_id m) (last_number s before)

abbrev pub exit_text : List ℕ
exit_text = notification_text (codes "exit") None

-- it is sent `exit`, and its program is to be ended
abbrev pub exit_server : ℕ → Row
exit_server s = send (ToServer s exit_text) ⨾ send (EndServer s)
