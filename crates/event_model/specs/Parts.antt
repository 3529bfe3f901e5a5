-- The part of a history that one editor, or one start of a server, sees.
use Rattle.std.specs.Prelude.{ℕ, Bool, false, List, filter, nat_eq}
use Rattle.mux_history.specs.declared.cause.Cause.TheVariants.{FromEditor, EditorGone, Started, StartFailed, FromServer, ServerGone}
use Rattle.mux_history.specs.declared.out.Out.TheVariants.{ToEditor, ToServer, CloseEditor, EndServer}
use Rattle.event_model.specs.Event.{Event, took, did}

-- what comes from editor e, what goes to it, and the end of its link
abbrev pub is_of_editor : ℕ → Event → Bool
is_of_editor e (took (FromEditor n body) m) = nat_eq n e
is_of_editor e (took (EditorGone n why) m) = nat_eq n e
is_of_editor e (did (ToEditor n body) m) = nat_eq n e
is_of_editor e (did (CloseEditor n) m) = nat_eq n e
is_of_editor e other = false

abbrev pub editor_part : ℕ → List Event → List Event
editor_part e events = filter (is_of_editor e) events

-- what comes from start s, what goes to it, and the start and the end of its program
abbrev pub is_of_server : ℕ → Event → Bool
is_of_server s (took (Started n) m) = nat_eq n s
is_of_server s (took (StartFailed n) m) = nat_eq n s
is_of_server s (took (FromServer n body) m) = nat_eq n s
is_of_server s (took (ServerGone n) m) = nat_eq n s
is_of_server s (did (ToServer n body) m) = nat_eq n s
is_of_server s (did (EndServer n) m) = nat_eq n s
is_of_server s other = false

abbrev pub server_part : ℕ → List Event → List Event
server_part s events = filter (is_of_server s) events
