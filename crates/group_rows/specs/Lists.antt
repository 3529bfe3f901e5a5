-- The last lists of diagnostics of a start (LSP 3.17, Publish Diagnostics), and whether the start has the text of a document that an editor has.
use Rattle.std.specs.Prelude.{ℕ, ◌+◌, Bool, true, false, ◌&&◌, List, [], fold, nat_eq, bytes_eq, if◌then◌else◌}
use Rattle.std.specs.Prelude.{Option, Some, None}
use Rattle.std.specs.Option.{option_map, option_map_or}
use Rattle.mux_history.specs.declared.cause.Cause.TheVariants.{FromServer, StartFailed, ServerGone}
use Rattle.mux_history.specs.declared.out.Out.TheVariants.{ToServer}
use Rattle.lsp_method.specs.Class.{class_of}
use Rattle.lsp_method.specs.declared.variants.Class.{Class}
use Rattle.lsp_method.specs.declared.variants.Class.TheVariants.{Diagnostics}
use Rattle.lsp_method.specs.declared.variants.Origin.TheVariants.{Server}
use Rattle.rpc_message.specs.Message.{notification}
use Rattle.response_route.specs.document_model.specs.declared.agreement.Agreement.{Agreement}
use Rattle.response_route.specs.document_model.specs.declared.agreement.Agreement.TheVariants.{NotOpen, Differs, Agrees}
use Rattle.response_route.specs.document_model.specs.Helds.{HeldText}
use Rattle.response_route.specs.document_model.specs.Opens.{Open}
use Rattle.response_route.specs.document_model.specs.Rows.{agrees}
use Rattle.response_route.specs.document_model.specs.Sayings.{Saying, opens, changes, closes, misshapen, nothing, saying_of, speaks}
use Rattle.response_route.specs.document_model.specs.Texts.{found}
use Rattle.event_model.specs.Event.{Event, took, did}
use Rattle.event_model.specs.Settings.{Settings}
use Rattle.event_model.specs.Stages.{life_of, is_ready}
use Rattle.diagnostics_route.specs.declared.last_list.LastList.{LastList}
use Rattle.diagnostics_route.specs.Published.{published}
use Rattle.diagnostics_route.specs.Rows.{with_list}
use Rattle.registrations.specs.mux_model.specs.Documents.{held_at}
use Rattle.group_words.specs.Past.{past}
use Rattle.group_rows.specs.Answers.{shared_texts}

-- how many notifications on documents start s was sent
abbrev pub sayings_behind : ℕ → ℕ → Event → ℕ
sayings_behind s n (did (ToServer k body) m) = if nat_eq k s && speaks (saying_of m) then n + 1 else n
sayings_behind s n other = n

abbrev pub sayings_of : ℕ → List Event → ℕ
sayings_of s events = fold (sayings_behind s) 0 events

-- a notification on document u
abbrev pub is_about : List ℕ → Saying → Bool
is_about u (opens w l v t) = bytes_eq u w
is_about u (changes w v cs) = bytes_eq u w
is_about u (closes w) = bytes_eq u w
is_about u misshapen = false
is_about u nothing = false

-- how many as of the last one on document u, 0 before any
abbrev pub changed_next : ℕ → List ℕ → List Event → ℕ → Event → ℕ
changed_next s u before n (did (ToServer k body) m) = if nat_eq k s && is_about u (saying_of m) then sayings_of s before + 1 else n
changed_next s u before n other = n

abbrev pub changed_of : ℕ → List ℕ → List Event → ℕ
changed_of s u events = past (changed_next s u) [] 0 events

-- whether a start has the language and the text that an editor has of a document, and since when: what it has, how many notifications it was sent as of the last one on that document, and what is open at the editor
abbrev pub agreement_by : Option HeldText → ℕ → Open → Agreement
agreement_by None changed o = Differs
agreement_by (Some h) changed o = if agrees o h then Agrees h.version changed else Differs

-- of e's document u at start s
abbrev pub agreement_at : Settings → ℕ → ℕ → List Event → List ℕ → Agreement
agreement_at settings s e events u = option_map_or (agreement_by (held_at s u events) (changed_of s u events)) (found e u (shared_texts settings s events)) NotOpen

-- e's own version of document u, where it is open there
abbrev pub version_at : Settings → ℕ → ℕ → List Event → List ℕ → Option (List ℕ)
version_at settings s e events u = option_map (λ (o : Open). o.version) (found e u (shared_texts settings s events))

-- a notification of this method publishes a list
abbrev pub names_list : Class → Bool
names_list Diagnostics = true
names_list _ = false

abbrev pub is_publishing : List ℕ → Bool
is_publishing method = names_list (class_of method Server true)

-- S15: a list is the last one of its document from then on
abbrev pub with_published : Option LastList → List LastList → List LastList
with_published None lists = lists
with_published (Some l) lists = with_list l lists

-- what start s published while it was ready, until its program ends
abbrev pub lists_next : ℕ → List Event → List LastList → Event → List LastList
lists_next s before lists (took (FromServer n body) (notification method params)) = if nat_eq n s && (is_publishing method && is_ready (life_of s before).stage) then with_published (published (sayings_of s before) body) lists else lists
lists_next s before lists (took (StartFailed n) m) = if nat_eq n s then [] else lists
lists_next s before lists (took (ServerGone n) m) = if nat_eq n s then [] else lists
lists_next s before lists other = lists

-- the last list of each document, in the order of its first one
abbrev pub lists_of : ℕ → List Event → List LastList
lists_of s events = past (lists_next s) [] [] events
