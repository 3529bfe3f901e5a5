-- Whether a child is named so.
use Rattle.std.specs.Prelude.{◌≡◌, ℕ, Bool, List, bytes_eq}
use Rattle.std.specs.Prelude.{Some}
use Rattle.std.specs.List.{slice_get}
use Rattle.json_text.specs.Json.{Json}
use Rattle.json_nodes.specs.At.{ChildAt}
use Rattle.json_nodes.specs.Doc.{Doc}
use Rattle.json_nodes.specs.Texts.{names}

-- where value number m is a member's, the answer says whether the member has the name cs
abbrev pub Tests : List ℕ → Doc → ℕ → Bool → Type 0
Tests cs doc m answer = (k n : ℕ) (t u : Json) (ds : List ℕ) → ChildAt doc k t n m u → slice_get (names t) n ≡ Some ds → answer ≡ bytes_eq cs ds
