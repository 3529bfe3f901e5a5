-- A small table, worked out by the checker.
use Rattle.std.proofs.Common.{◌≡◌, true, false, not, List, [], ◌∷◌, codes, drop, filter, refl}
use Rattle.std.specs.Prelude.{Some, slice_get}
use Rattle.std.specs.List.{list_any}
use Rattle.numbered_rows.specs.Rows.{less}
use Rattle.held_requests.specs.declared.request.Request.{Request}
use Rattle.held_requests.specs.Tables.{asked, ids_of, is_of, is_under, of_editor, takes}

-- editors 0 and 1 ask under 1 and "a"; editor 0 under 2
abbrev first : Request
first = asked 0 (codes "1") (codes "{}")

abbrev second : Request
second = asked 1 (codes "\"a\"") (codes "{ }")

abbrev third : Request
third = asked 0 (codes "2") (codes "{  }")

abbrev three : List Request
three = first ∷ second ∷ third ∷ []

-- the first one is sent
pops : slice_get three 0 ≡ Some first
pops = refl

left : drop 1 three ≡ second ∷ third ∷ []
left = refl

-- an id counts by its characters, and for its own editor
cancels : less (is_under 1 (codes "\"\\u0061\"")) three ≡ first ∷ third ∷ []
cancels = refl

cancels_none : list_any (is_under 0 (codes "\"a\"")) three ≡ false
cancels_none = refl

-- editor 0 leaves
ids : ids_of (of_editor 0 three) ≡ codes "1" ∷ codes "2" ∷ []
ids = refl

leaves : filter (λ r. not (is_of 0 r)) three ≡ second ∷ []
leaves = refl

-- bodies of 16,777,216 bytes at most
takes_all : takes 0 16777210 three ≡ true
takes_all = refl

takes_no_more : takes 0 16777211 three ≡ false
takes_no_more = refl
