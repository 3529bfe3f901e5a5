-- The client capabilities that are declared to a server (LSP 3.17, ClientCapabilities): what they have in common with others,
-- then without what isn't declared, then with what the standard requires put back.
use Rattle.std.specs.Prelude.{ℕ, List, bytes_eq, codes, if◌then◌else◌}
use Rattle.std.specs.Prelude.{Option}
use Rattle.json_text.specs.Bare.{nowhere}
use Rattle.json_text.specs.declared.kind.Word.TheVariants.{False}
use Rattle.json_text.specs.Json.{Json, word, number, string, array, object, Members, no_members, member}
use Rattle.json_nodes.specs.Same.{has_name}
use Rattle.capability_meet.specs.MeetTree.{meet_tree, met_text}

-- an object with other members, and any other value as it is
abbrev pub on_members : (Members → Members) → Json → Json
on_members f (object s ms) = object s (f ms)
on_members f (word s w) = word s w
on_members f (number s ds) = number s ds
on_members f (string s cs) = string s cs
on_members f (array s js) = array s js

-- without the members of this name
abbrev pub members_without : List ℕ → Members → Members
members_without name no_members = no_members
members_without name (member p cs j ms) = if bytes_eq name cs then members_without name ms else member p cs j (members_without name ms)

-- with the values of the members of this name changed
abbrev pub members_changed : List ℕ → (Json → Json) → Members → Members
members_changed name f no_members = no_members
members_changed name f (member p cs j ms) = member p cs (if bytes_eq name cs then f j else j) (members_changed name f ms)

-- with a member that is false behind them
abbrev pub members_and : List ℕ → Members → Members
members_and name no_members = member nowhere name (word nowhere False) no_members
members_and name (member p cs j ms) = member p cs j (members_and name ms)

-- with a member of this name, false where there is none
abbrev pub members_with : List ℕ → Members → Members
members_with name ms = if has_name name ms then ms else members_and name ms

-- at the top level, NotebookDocumentClientCapabilities and a member that isn't in the standard
abbrev pub left_out : Json → Json
left_out j = on_members (λ ms. members_without (codes "offsetEncoding") (members_without (codes "notebookDocument") ms)) j

-- ShowDocumentClientCapabilities requires the member support, and staleRequestSupport of GeneralClientCapabilities the member cancel
abbrev pub with_support : Json → Json
with_support j = on_members (λ ms. members_changed (codes "showDocument") (λ k. on_members (λ ns. members_with (codes "support") ns) k) ms) j

abbrev pub with_cancel : Json → Json
with_cancel j = on_members (λ ms. members_changed (codes "staleRequestSupport") (λ k. on_members (λ ns. members_with (codes "cancel") ns) k) ms) j

abbrev pub put_back : Json → Json
put_back j = on_members (λ ms. members_changed (codes "general") (λ k. with_cancel k) (members_changed (codes "window") (λ k. with_support k) ms)) j

abbrev pub declared_tree : Json → Json → Json
declared_tree j k = put_back (left_out (meet_tree j k))

-- the text that declares these capabilities under that ceiling
abbrev pub declared_of : List ℕ → List ℕ → Option (List ℕ)
declared_of capabilities ceiling = met_text (λ j k. declared_tree j k) capabilities ceiling
