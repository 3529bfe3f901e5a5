-- V1: the version that an editor knows a document by, in place of its start's (LSP 3.17, OptionalVersionedTextDocumentIdentifier: null where the document isn't open).
use Rattle.std.specs.Prelude.{◌≡◌, ℕ, Bool, false, List, [], ◌∷◌, codes, bytes_eq, decimal, if◌then◌else◌}
use Rattle.std.specs.Prelude.{Option, Some, None}
use Rattle.std.specs.Option.{option_and_then, option_map_or}
use Rattle.response_route.specs.Edits.{Renaming}
use Rattle.response_route.specs.declared.mapping.Mapping.{Mapping}
use Rattle.response_route.specs.declared.versions.Stamp.{Stamp}

-- what is known of a document, in a list by the bytes of URIs
abbrev pub stamp_of : List ℕ → List (List ℕ × Stamp) → Option Stamp
stamp_of u [] = None
stamp_of u (x ∷ xs) = if bytes_eq u x.0 then Some x.1 else stamp_of u xs

-- the start has the document under this version
abbrev pub is_held : List ℕ → Option ℕ → Bool
is_held digits held = option_map_or (λ n. bytes_eq digits (decimal n)) held false

-- as the request was sent on: the version that the editor had then
abbrev pub version_then : List ℕ → Option Stamp → Option (List ℕ)
version_then digits (Some x) = if is_held digits x.held then Some x.version else None
version_then digits None = None

-- now: null where the document isn't open, and the editor's version where the start has its text under this one
abbrev pub version_now : List ℕ → Option Stamp → Option Stamp → Option (List ℕ)
version_now digits None then_ = Some (codes "null")
version_now digits (Some x) then_ = if is_held digits x.held then Some x.version else version_then digits then_

-- the look-ups of the code are this renaming
abbrev pub Means : Mapping → Renaming → Type 0
Means m r = (u digits : List ℕ) → version_now digits (stamp_of u m.now.now) (option_and_then (λ x. stamp_of u x.now) m.noted) ≡ r u digits
