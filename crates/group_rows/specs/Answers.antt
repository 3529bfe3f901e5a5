-- S5 with V1 and V2: what an editor gets of a start's answer to its request, with its own versions of documents (LSP 3.17, WorkspaceEdit and OptionalVersionedTextDocumentIdentifier).
use Rattle.std.specs.Prelude.{ℕ, Bool, false, not, ◌&&◌, List, [], find, nat_eq, if◌then◌else◌}
use Rattle.std.specs.Prelude.{Option, Some, None}
use Rattle.std.specs.Option.{option_and_then, option_map, option_map_or}
use Rattle.mux_history.specs.declared.out.Out.TheVariants.{ToEditor, ToServer}
use Rattle.rpc_message.specs.Message.{Message, request}
use Rattle.response_route.specs.document_model.specs.Helds.{HeldText}
use Rattle.response_route.specs.document_model.specs.Opens.{Open}
use Rattle.response_route.specs.document_model.specs.Rows.{agrees}
use Rattle.response_route.specs.document_model.specs.Texts.{Texts, found, no_texts}
use Rattle.event_model.specs.Event.{Event, did}
use Rattle.event_model.specs.Phases.{desk_of, is_there}
use Rattle.event_model.specs.Requests.{answered_id, is_own}
use Rattle.event_model.specs.Row.{Row, nothing, send, choose, on}
use Rattle.event_model.specs.Settings.{Settings}
use Rattle.event_model.specs.Spawns.{group_of}
use Rattle.response_route.specs.declared.versions.Stamp.{Stamp}
use Rattle.response_route.specs.Answers.{answer_text}
use Rattle.response_route.specs.Edits.{Renaming}
use Rattle.response_route.specs.Versions.{version_now}
use Rattle.registrations.specs.mux_model.specs.Documents.{held_at}
use Rattle.group_words.specs.Past.{past}
use Rattle.group_rows.specs.Forwarded.{Forwarded, answered_by, forwarding_of}
use Rattle.group_rows.specs.Texts.{texts_of}

-- the body with which an editor's request goes on to start s, as its request n
abbrev pub sends_on : Settings → ℕ → ℕ → List Event → Event → Bool
sends_on settings s n before (did (ToServer k body) (request id method ps)) = nat_eq k s && (not (is_own method) && nat_eq (forwarding_of settings s before).next n)
sends_on settings s n before other = false

abbrev pub moment_next : Settings → ℕ → ℕ → List Event → Option (List Event) → Event → Option (List Event)
moment_next settings s n before moment event = if sends_on settings s n before event then Some before else moment

-- the moment of its forwarding: the events before that body, and so behind the sync
abbrev pub moment_of : Settings → ℕ → ℕ → List Event → Option (List Event)
moment_of settings s n events = past (moment_next settings s n) [] None events

-- what the editors have open that share start s
abbrev pub shared_texts : Settings → ℕ → List Event → Texts
shared_texts settings s events = option_map_or (λ g. texts_of settings g events) (group_of s events) no_texts

-- the version that the start has of a document, and the same where it agrees with the editor
abbrev pub held_version : Open → Option HeldText → Option ℕ
held_version o h = option_map (λ (x : HeldText). x.version) h

abbrev pub agreed_version : Open → Option HeldText → Option ℕ
agreed_version o None = None
agreed_version o (Some h) = if agrees o h then Some h.version else None

-- the first or the second of these, and the editor's own, of e's document u, where it is open there
abbrev pub stamped : Option ℕ → Open → Stamp
stamped held o = record { held = held; version = o.version }

abbrev pub stamp_at : (Open → Option HeldText → Option ℕ) → Settings → ℕ → ℕ → List Event → List ℕ → Option Stamp
stamp_at version settings s e events u = option_map (λ o. stamped (version o (held_at s u events)) o) (found e u (shared_texts settings s events))

-- V1: e's version of what the start has as e does; else that of what the start had as the request was forwarded, where u was open at e then and is now
abbrev pub own_version : Settings → List Event → ℕ → Forwarded → Renaming
own_version settings before s f u digits = version_now digits (stamp_at agreed_version settings s f.editor before u) (option_and_then (λ moment. stamp_at held_version settings s f.editor moment u) (moment_of settings s f.number before))

-- S5, V2: an answer goes to the editor that asked, under its own id and with its own versions; where one stands for no text that it has, it gets an error
abbrev pub hand_on : Settings → List Event → ℕ → List ℕ → Forwarded → Row
hand_on settings before s body f = choose (is_there (desk_of f.editor before).phase) (send (ToEditor f.editor (answer_text (own_version settings before s f) body f.id))) nothing

abbrev pub answer_row : Settings → ℕ → List Event → List ℕ → Message → Row
answer_row settings s before body m = on (find (answered_by (answered_id m)) (forwarding_of settings s before).open_requests) nothing (hand_on settings before s body)
