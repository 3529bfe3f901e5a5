-- The documents of the editors that share a server (LSP 3.17, Text Document Synchronization).
use Rattle.std.specs.Prelude.{ℕ, not, List, [], ◌∷◌, filter, bytes_eq, if◌then◌else◌}
use Rattle.std.specs.Prelude.{Option, Some, None}
use Rattle.std.specs.Option.{option_map}
use Rattle.std.specs.Ordering.{nat_cmp, match_ordering}
use Rattle.std.specs.Cmp.Lexicographic.{slice_cmp}
use Rattle.position_codec.specs.declared.Encoding.{Encoding}
use Rattle.document_table.specs.document_model.specs.Opens.{Open}
use Rattle.focus_switch.specs.declared.held.Held.{Held}

-- The start of the server that is ready, if one is; how the last one that was ready counts positions; the limit of versions; the next turn;
-- what is open, in the order of opening; how many notifications on documents the ready start was sent; and the documents that it has, in the
-- order of their URIs' bytes.
pub record Documents : Type 0 where
  pub start : Option ℕ
  pub encoding : Option Encoding
  pub versions : ℕ
  pub turn : ℕ
  pub opens : List Open
  pub sent : ℕ
  pub helds : List (List ℕ × Held)

-- what the start has of a document, where it has it

abbrev pub held_of : List ℕ → List (List ℕ × Held) → Option Held
held_of u [] = None
held_of u (h ∷ hs) = if bytes_eq u h.0 then Some h.1 else held_of u hs

abbrev pub version_held : List ℕ → List (List ℕ × Held) → Option ℕ
version_held u hs = option_map (λ h. h.version) (held_of u hs)

-- a document in its place, and the others without it

abbrev pub put_held : List ℕ → Held → List (List ℕ × Held) → List (List ℕ × Held)
put_held u x [] = (u, x) ∷ []
put_held u x (h ∷ hs) = match_ordering (slice_cmp nat_cmp u h.0) ((u, x) ∷ h ∷ hs) ((h.0, x) ∷ hs) (h ∷ put_held u x hs)

abbrev pub drop_held : List ℕ → List (List ℕ × Held) → List (List ℕ × Held)
drop_held u hs = filter (λ h. not (bytes_eq u h.0)) hs

-- behind a notification on a document, the n-th to the start: it has this version of it then, or hasn't it
abbrev pub helds_behind : List ℕ → Option ℕ → ℕ → List (List ℕ × Held) → List (List ℕ × Held)
helds_behind u (Some v) n hs = put_held u (record { version = v; sent = n }) hs
helds_behind u None n hs = drop_held u hs
