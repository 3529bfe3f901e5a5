-- The requests of the editors of a group that wait until a start is ready, in the order in which they came (LSP 3.17, Base Protocol, Request Message).
use Rattle.std.specs.Prelude.{ℕ, ◌+◌, Bool, ◌&&◌, List, [], ◌∷◌, filter, length, map, nat_eq, nat_le, nat_lt}
use Rattle.id_rewrite.specs.Forms.{same_form}
use Rattle.held_requests.specs.declared.request.Request.{Request}

-- a request of an editor under an id
abbrev pub asked : ℕ → List ℕ → List ℕ → Request
asked editor id body = record { editor = editor; id = id; body = body }

abbrev pub is_of : ℕ → Request → Bool
is_of editor request = nat_eq request.editor editor

-- its id stands for what these bytes do
abbrev pub is_under : ℕ → List ℕ → Request → Bool
is_under editor id request = nat_eq request.editor editor && same_form id request.id

-- an editor's
abbrev pub of_editor : ℕ → List Request → List Request
of_editor editor requests = filter (is_of editor) requests

abbrev pub ids_of : List Request → List (List ℕ)
ids_of requests = map (λ (r : Request). r.id) requests

-- the bytes of their bodies
abbrev pub bytes_of : List Request → ℕ
bytes_of [] = 0
bytes_of (r ∷ rs) = length r.body + bytes_of rs

-- how many requests of an editor may wait, and how many bytes of these
abbrev pub requests_most : ℕ
requests_most = 256

abbrev pub bytes_most : ℕ
bytes_most = 16777216

-- E10: one more of an editor may, of so many bytes
abbrev pub fits : ℕ → List Request → Bool
fits bytes requests = nat_lt (length requests) requests_most && nat_le (bytes_of requests + bytes) bytes_most

abbrev pub takes : ℕ → ℕ → List Request → Bool
takes editor bytes requests = fits bytes (of_editor editor requests)
