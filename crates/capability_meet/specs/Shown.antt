-- What editors are shown of an initialize result (LSP 3.17, InitializeResult): it without what the multiplexer doesn't serve.
use Rattle.std.specs.Prelude.{ℕ, List, [], ◌∷◌, length, bytes_eq, codes, if◌then◌else◌}
use Rattle.std.specs.Prelude.{Option, None}
use Rattle.std.specs.Option.{is_some, option_map}
use Rattle.json_text.specs.declared.change.Change.{Change}
use Rattle.json_text.specs.Json.{Json, word, number, string, array, object, Members, no_members, member, span_of}
use Rattle.json_text.specs.Named.{named_in}
use Rattle.capability_meet.specs.Parts.{window, braced}

abbrev pub members_of : Json → Members
members_of (object s ms) = ms
members_of (word s w) = no_members
members_of (number s ds) = no_members
members_of (string s cs) = no_members
members_of (array s js) = no_members

-- the bytes of each pair of another name than this, from the name on
abbrev pub other_pairs : List ℕ → List ℕ → Option Change → Members → List (List ℕ)
other_pairs bs name change no_members = []
other_pairs bs name change (member p cs j ms) = if bytes_eq name cs then other_pairs bs name change ms else (window bs change p.from (span_of j).to ∷ other_pairs bs name change ms)

-- an object that has a member of this name is written as its other pairs, and what has none as it came
abbrev pub without : List ℕ → List ℕ → Option Change → Json → List ℕ
without bs name change j = if is_some (named_in name j) then braced (other_pairs bs name change (members_of j)) else window bs change (span_of j).from (span_of j).to

abbrev pub change_of : (Json → List ℕ) → Json → Change
change_of f j = record { span = span_of j; text = f j }

-- WorkspaceServerCapabilities
abbrev pub workspace_text : List ℕ → Json → List ℕ
workspace_text bs j = without bs (codes "workspaceFolders") None j

-- ServerCapabilities
abbrev pub capabilities_text : List ℕ → Json → List ℕ
capabilities_text bs j = without bs (codes "notebookDocumentSync") (option_map (change_of (workspace_text bs)) (named_in (codes "workspace") j)) j

abbrev pub shown_text : List ℕ → Json → List ℕ
shown_text bs j = window bs (option_map (change_of (capabilities_text bs)) (named_in (codes "capabilities") j)) 0 (length bs)
