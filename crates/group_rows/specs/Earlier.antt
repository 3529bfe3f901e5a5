-- S2, of a start that isn't its group's first: what the starts before it gave, and the configuration of the group, which E16 keeps (LSP 3.17, Initialize Request and DidChangeConfiguration Notification).
use Rattle.std.specs.Prelude.{ℕ, Bool, true, false, not, ◌&&◌, List, [], codes, if◌then◌else◌}
use Rattle.std.specs.Prelude.{Option, Some, None}
use Rattle.json_text.specs.Json.{Json}
use Rattle.json_text.specs.Tree.{tree_of}
use Rattle.response_route.specs.json_nodes.specs.Same.{same}
use Rattle.rpc_message.specs.Message.{Message, result_bytes}
use Rattle.mux_history.specs.declared.cause.Cause.TheVariants.{FromEditor, FromServer}
use Rattle.mux_history.specs.declared.out.Out.TheVariants.{ToServer}
use Rattle.event_model.specs.declared.phase.Phase.{Phase}
use Rattle.event_model.specs.declared.phase.Phase.TheVariants.{Answered, Running, Down}
use Rattle.event_model.specs.Event.{Event, notifies, took}
use Rattle.event_model.specs.Members.{named_of}
use Rattle.event_model.specs.Phases.{desk_of, is_served}
use Rattle.event_model.specs.Row.{Row, nothing, send, choose, each, on}
use Rattle.event_model.specs.Settings.{Settings}
use Rattle.event_model.specs.Spawns.{group_of}
use Rattle.event_model.specs.Stages.{is_first_result, is_initializing, life_of}
use Rattle.group_words.specs.Houses.{editors_in, home_of, is_home}
use Rattle.group_words.specs.Past.{past}
use Rattle.group_words.specs.Rows.{shown_of}
use Rattle.group_rows.specs.Waiting.{part}

-- the body with the last result that a start of the group gave
abbrev pub gives_result : ℕ → List Event → ℕ → Message → Bool
gives_result g before s m = is_home g (group_of s before) && (is_initializing (life_of s before).stage && is_first_result m)

abbrev pub given_next : ℕ → List Event → Option (List ℕ) → Event → Option (List ℕ)
given_next g before given (took (FromServer s body) m) = if gives_result g before s m then Some body else given
given_next g before given other = given

abbrev pub given_of : ℕ → List Event → Option (List ℕ)
given_of g events = past (given_next g) [] None events

-- S2: the capabilities that editors are shown of a result, and whether those of two are the same value; absent ones and null aren't
abbrev pub shown_capabilities : List ℕ → Option Json
shown_capabilities body = named_of (codes "capabilities") (tree_of (shown_of (result_bytes body)))

abbrev pub same_shown : Option Json → Option Json → Bool
same_shown None None = true
same_shown (Some j) (Some k) = same j k
same_shown other another = false

abbrev pub differs : Option (List ℕ) → List ℕ → Bool
differs None body = false
differs (Some earlier) body = not (same_shown (shown_capabilities earlier) (shown_capabilities body))

-- S2: the editors of a group, rising, that were shown a result
abbrev pub was_shown : Phase → Bool
was_shown Answered = true
was_shown Running = true
was_shown Down = true
was_shown _ = false

abbrev pub shown_in : Settings → ℕ → List Event → List ℕ
shown_in settings g events = editors_in was_shown g (λ e. home_of settings e events) events

-- S2: where the new start's capabilities aren't those, each is refused its requests that wait, and its link is to be ended
abbrev pub part_row : Settings → List Event → List ℕ → ℕ → Row
part_row settings before body g = choose (differs (given_of g before) body) (each (part settings g) (shown_in settings g before)) nothing

-- E16: the last change of the configuration that an editor of the group gave, also where no start was ready
abbrev pub configures : Settings → ℕ → List Event → ℕ → Message → Bool
configures settings g before e m = is_home g (home_of settings e before) && (is_served (desk_of e before).phase && notifies (codes "workspace/didChangeConfiguration") m)

abbrev pub configuration_next : Settings → ℕ → List Event → Option (List ℕ) → Event → Option (List ℕ)
configuration_next settings g before kept (took (FromEditor e body) m) = if configures settings g before e m then Some body else kept
configuration_next settings g before kept other = kept

abbrev pub configuration_of : Settings → ℕ → List Event → Option (List ℕ)
configuration_of settings g events = past (configuration_next settings g) [] None events

-- S2: the new start is told of it, as it came
abbrev pub configure : Settings → List Event → ℕ → ℕ → Row
configure settings before s g = on (configuration_of settings g before) nothing (λ body. send (ToServer s body))
