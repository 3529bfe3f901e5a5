-- What is registered at a start, in the order of registration (LSP 3.17, Register Capability and Unregister Capability), and the requests by which editors are told of it.
use Rattle.std.specs.Prelude.{ℕ, Bool, true, false, not, ◌&&◌, List, [], ◌++◌, map, codes, nat_eq, if◌then◌else◌}
use Rattle.std.specs.Prelude.{Option, Some, None}
use Rattle.std.specs.Option.{option_and_then}
use Rattle.mux_history.specs.declared.cause.Cause.TheVariants.{FromServer, StartFailed, ServerGone}
use Rattle.lsp_method.specs.Class.{class_of}
use Rattle.lsp_method.specs.declared.variants.Class.{Class}
use Rattle.lsp_method.specs.declared.variants.Class.TheVariants.{Register, Unregister}
use Rattle.lsp_method.specs.declared.variants.Origin.TheVariants.{Server}
use Rattle.rpc_message.specs.Message.{Id, request}
use Rattle.rpc_message.specs.Texts.{request_text}
use Rattle.group_words.specs.capability_meet.specs.Parts.{bracketed}
use Rattle.event_model.specs.Event.{Event, took}
use Rattle.event_model.specs.Settings.{Settings}
use Rattle.event_model.specs.Stages.{life_of, is_ready}
use Rattle.registrations.specs.declared.registration.Registration.{Registration}
use Rattle.registrations.specs.Items.{are_live, others, registered, unregistered}
use Rattle.group_words.specs.Past.{past}
use Rattle.group_rows.specs.Asks.{asking_of, is_taken}

-- S6: these are registered, behind the others, in the place of those whose ids come again
abbrev pub with_registered : Option (List Registration) → List Registration → List Registration
with_registered None live = live
with_registered (Some items) live = others items live ++ items

-- S7: these are taken back, where all of them are live
abbrev pub if_live : List Registration → List Registration → Option (List Registration)
if_live live items = if are_live items live then Some items else None

abbrev pub taken_back : List ℕ → List Registration → Option (List Registration)
taken_back body live = option_and_then (if_live live) (unregistered body)

abbrev pub without_these : Option (List Registration) → List Registration → List Registration
without_these None live = live
without_these (Some items) live = others items live

abbrev pub live_by : Class → List ℕ → List Registration → List Registration
live_by Register body live = with_registered (registered body) live
live_by Unregister body live = without_these (taken_back body live) live
live_by _ body live = live

-- a request of this method may change what is registered
abbrev pub changes_live : Class → Bool
changes_live Register = true
changes_live Unregister = true
changes_live _ = false

abbrev pub is_registering : List ℕ → Bool
is_registering method = changes_live (class_of method Server false)

-- a ready start asks something under an id that no open request of it has
abbrev pub is_heard : Settings → ℕ → List Event → Id → Bool
is_heard settings s before id = is_ready (life_of s before).stage && not (is_taken (Some id) (asking_of settings s before))

abbrev pub live_next : Settings → ℕ → List Event → List Registration → Event → List Registration
live_next settings s before live (took (FromServer n body) (request id method ps)) = if nat_eq n s && is_heard settings s before id then live_by (class_of method Server false) body live else live
live_next settings s before live (took (StartFailed n) m) = if nat_eq n s then [] else live
live_next settings s before live (took (ServerGone n) m) = if nat_eq n s then [] else live
live_next settings s before live other = live

abbrev pub live_of : Settings → ℕ → List Event → List Registration
live_of settings s events = past (live_next settings s) [] [] events

-- `register(n, items)`, with the items as they came
abbrev pub register_params : List Registration → List ℕ
register_params rs = codes "{\"registrations\":" ++ bracketed (map (λ (r : Registration). r.item) rs) ++ codes "}"

abbrev pub register_text : List Registration → ℕ → List ℕ
register_text rs n = request_text n (codes "client/registerCapability") (Some (register_params rs))

-- `unregister(n, items)`, with the ids and methods as they came when they were registered; the name of the list is misspelled so in LSP 3.17
abbrev pub unregistration : Registration → List ℕ
unregistration r = codes "{\"id\":" ++ r.id ++ codes ",\"method\":" ++ r.method ++ codes "}"

abbrev pub unregister_params : List Registration → List ℕ
unregister_params rs = codes "{\"unregisterations\":" ++ bracketed (map unregistration rs) ++ codes "}"

abbrev pub unregister_text : List Registration → ℕ → List ℕ
unregister_text rs n = request_text n (codes "client/unregisterCapability") (Some (unregister_params rs))
