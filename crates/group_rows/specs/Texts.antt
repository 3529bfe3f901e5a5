-- What the editors of a group have open, by the history (LSP 3.17, Text Document Synchronization).
use Rattle.std.specs.Prelude.{ℕ, ◌+◌, Bool, false, not, ◌&&◌, ◌||◌, List, [], map, codes, nat_eq, bytes_eq, if◌then◌else◌}
use Rattle.std.specs.Prelude.{Option, Some, None}
use Rattle.std.specs.Option.{option_map}
use Rattle.mux_history.specs.declared.cause.Cause.TheVariants.{FromEditor, EditorGone, FromServer}
use Rattle.mux_history.specs.declared.out.Out.TheVariants.{ToServer, CloseEditor}
use Rattle.rpc_message.specs.Message.{Message, request, notification}
use Rattle.position_codec.specs.declared.Encoding.{Encoding}
use Rattle.response_route.specs.document_model.specs.Opens.{Open}
use Rattle.response_route.specs.document_model.specs.Sayings.{saying_of, saying_by, speaks}
use Rattle.response_route.specs.document_model.specs.Texts.{Texts, no_texts, texts_behind}
use Rattle.event_model.specs.Event.{Event, took, did, requests}
use Rattle.event_model.specs.Phases.{desk_of, is_served}
use Rattle.event_model.specs.Requests.{is_own}
use Rattle.event_model.specs.Settings.{Settings}
use Rattle.event_model.specs.Spawns.{group_of}
use Rattle.event_model.specs.Stages.{life_of, is_initializing}
use Rattle.held_requests.specs.declared.request.Request.{Request}
use Rattle.registrations.specs.mux_model.specs.Documents.{encoding_by, without_editor}
use Rattle.group_words.specs.Houses.{home_of, is_home}
use Rattle.group_words.specs.Past.{past}
use Rattle.group_rows.specs.Waiting.{first_waiting, worker_of}

-- Positions count as the last result of `initialize` says that a start of the group gave (LSP 3.17, PositionEncodingKind).
abbrev pub given : {A : Type 0} → Option A → Option A → Option A
given (Some a) before = Some a
given None before = before

abbrev pub encoding_next : ℕ → List Event → Option Encoding → Event → Option Encoding
encoding_next g before code (took (FromServer s body) m) = if is_home g (group_of s before) && is_initializing (life_of s before).stage then given (encoding_by m) code else code
encoding_next g before code other = code

abbrev pub encoding_of : ℕ → List Event → Option Encoding
encoding_of g events = past (encoding_next g) [] None events

-- an editor touches each of its documents
abbrev pub touched_at : ℕ → ℕ → Open → Open
touched_at e turn o = if nat_eq o.editor e then record o { touched = turn } else o

abbrev pub touch_all : Option ℕ → Texts → Texts
touch_all None x = x
touch_all (Some e) x = record { turn = x.turn + 1; opens = map (touched_at e x.turn) x.opens }

-- what only names a request or a token, and what the daemon says itself
abbrev pub is_aside : List ℕ → Bool
is_aside method = bytes_eq method (codes "$/cancelRequest") || bytes_eq method (codes "window/workDoneProgress/cancel") || bytes_eq method (codes "initialized") || bytes_eq method (codes "exit")

-- a body that goes to a start behind a sync
abbrev pub is_synced : Message → Bool
is_synced (request id method params) = not (is_own method)
is_synced (notification method params) = not (speaks (saying_by method params) || is_aside method)
is_synced other = false

-- whose documents such a body touches: the editor's whose message is at work; and in S2 that of the request that has waited longest
abbrev pub toucher : Option ℕ → Message → Option Request → Option ℕ
toucher (Some e) m first = Some e
toucher None (request id method params) first = option_map (λ (r : Request). r.editor) first
toucher None other first = None

abbrev pub toucher_of : Settings → ℕ → List Event → Message → Option ℕ
toucher_of settings s before m = toucher (worker_of before) m (first_waiting settings s before)

-- what an editor of the group says; behind its `shutdown` nothing of it is open
abbrev pub texts_heard : ℕ → List Event → ℕ → Message → Texts → Texts
texts_heard g before e m x = if requests (codes "shutdown") m then without_editor e x else texts_behind (encoding_of g before) e (saying_of m) x

abbrev pub texts_next : Settings → ℕ → List Event → Texts → Event → Texts
texts_next settings g before x (took (FromEditor e body) m) = if is_home g (home_of settings e before) && is_served (desk_of e before).phase then texts_heard g before e m x else x
texts_next settings g before x (took (EditorGone e why) m) = without_editor e x
texts_next settings g before x (did (CloseEditor e) m) = without_editor e x
texts_next settings g before x (did (ToServer s body) m) = if is_home g (group_of s before) && is_synced m then touch_all (toucher_of settings s before m) x else x
texts_next settings g before x other = x

abbrev pub texts_of : Settings → ℕ → List Event → Texts
texts_of settings g events = past (texts_next settings g) [] no_texts events
