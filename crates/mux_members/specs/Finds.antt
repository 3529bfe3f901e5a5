-- What the look-ups over a text find: a string, and the items of an array from one on.
use Rattle.std.specs.Prelude.{◌≡◌, ℕ, Bool, true, false, List, [], nat_lt, drop}
use Rattle.std.specs.Prelude.{Option, Some, None}
use Rattle.std.specs.List.{list_all}
use Rattle.json_text.specs.Json.{Json, array, object}
use Rattle.json_text.specs.Named.{children}
use Rattle.json_nodes.specs.At.{FoundChild}
use Rattle.json_nodes.specs.Doc.{Doc}

abbrev pub is_ascii : List ℕ → Bool
is_ascii bytes = list_all (λ b. nat_lt b 128) bytes

abbrev pub is_array_value : Option Json → Bool
is_array_value (Some (array s js)) = true
is_array_value _ = false

abbrev pub is_object_value : Option Json → Bool
is_object_value (Some (object s ms)) = true
is_object_value _ = false

-- an array's items, or the values of an object's members
abbrev pub values_of : Option Json → List Json
values_of (Some t) = children t
values_of None = []

-- the answer is the number of the first of these values, which are the last ones of an array or an object
pub record Rest (doc : Doc) (answer : Option ℕ) (values : List Json) : Type 0 where
  pub parent : ℕ
  pub tree : Json
  pub count : ℕ
  pub next : FoundChild doc parent tree count answer
  pub are : drop count (children tree) ≡ values
