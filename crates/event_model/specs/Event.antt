-- A history as a list of events: each cause and each out, in order, with what its body says.
use Rattle.std.specs.Prelude.{ℕ, Bool, false, List, [], ◌∷◌, ◌++◌, map, fold, bytes_eq}
use Rattle.mux_history.specs.declared.cause.Cause.{Cause}
use Rattle.mux_history.specs.declared.cause.Cause.TheVariants.{Joined, FromEditor, EditorGone, Started, StartFailed, FromServer, ServerGone, Drained, Tick}
use Rattle.mux_history.specs.declared.out.Out.{Out}
use Rattle.mux_history.specs.declared.out.Out.TheVariants.{ToEditor, ToServer, Spawn, CloseEditor, EndServer}
use Rattle.mux_history.specs.declared.entry.Entry.{Entry}
use Rattle.rpc_message.specs.Message.{Message, not_message, request, notification, message_of}
pub use Rattle.rpc_message.specs.Message.{same_id}

-- a cause without a body, or an out without one, has `not_message` as its message
pub data Event : Type 0 where
  took : Cause → Message → Event
  did : Out → Message → Event

abbrev pub heard : Cause → Event
heard (FromEditor e body) = took (FromEditor e body) (message_of body)
heard (FromServer s body) = took (FromServer s body) (message_of body)
heard (Joined e) = took (Joined e) not_message
heard (EditorGone e why) = took (EditorGone e why) not_message
heard (Started s) = took (Started s) not_message
heard (StartFailed s) = took (StartFailed s) not_message
heard (ServerGone s) = took (ServerGone s) not_message
heard (Drained e k) = took (Drained e k) not_message
heard (Tick t) = took (Tick t) not_message

abbrev pub said : Out → Event
said (ToEditor e body) = did (ToEditor e body) (message_of body)
said (ToServer s body) = did (ToServer s body) (message_of body)
said (Spawn s g) = did (Spawn s g) not_message
said (CloseEditor e) = did (CloseEditor e) not_message
said (EndServer s) = did (EndServer s) not_message

-- the events with these outs behind them
abbrev pub behind : List Event → List Out → List Event
behind events outs = events ++ map said outs

abbrev pub with_cause : List Event → Cause → List Event
with_cause events cause = events ++ heard cause ∷ []

abbrev pub with_entry : List Event → Entry → List Event
with_entry events entry = behind (with_cause events entry.cause) entry.outs

abbrev pub events_of : List Entry → List Event
events_of history = fold with_entry [] history

-- a request, or a notification, of this method
abbrev pub requests : List ℕ → Message → Bool
requests method (request id m ps) = bytes_eq method m
requests method other = false

abbrev pub notifies : List ℕ → Message → Bool
notifies method (notification m ps) = bytes_eq method m
notifies method other = false
