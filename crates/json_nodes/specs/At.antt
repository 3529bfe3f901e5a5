-- The values of a text by their numbers, which count them in preorder: a value comes before those in it.
use Rattle.std.specs.Prelude.{◌≡◌, ℕ, zero, suc, ◌+◌, List, [], ◌∷◌, ◌++◌}
use Rattle.std.specs.Prelude.{Option, Some, None}
use Rattle.std.specs.List.{slice_get}
use Rattle.json_text.specs.Json.{Json, word, number, string, array, object, Items, no_items, item, Members, no_members, member}
use Rattle.json_text.specs.Named.{children}
use Rattle.json_nodes.specs.Doc.{Doc, Holds}
use Rattle.json_nodes.specs.Nodes.{size}

abbrev mutual
  pub preorder : Json → List Json
  preorder (word s w) = word s w ∷ []
  preorder (number s ds) = number s ds ∷ []
  preorder (string s cs) = string s cs ∷ []
  preorder (array s js) = array s js ∷ items_preorder js
  preorder (object s ms) = object s ms ∷ members_preorder ms

  pub items_preorder : Items → List Json
  items_preorder no_items = []
  items_preorder (item j js) = preorder j ++ items_preorder js

  pub members_preorder : Members → List Json
  members_preorder no_members = []
  members_preorder (member s cs j ms) = preorder j ++ members_preorder ms

-- the value of this number
abbrev pub tree_at : Json → ℕ → Option Json
tree_at j k = slice_get (preorder j) k

-- the text's value number k is t
pub record At (doc : Doc) (k : ℕ) (t : Json) : Type 0 where
  pub tree : Json
  pub holds : Holds doc tree
  pub there : tree_at tree k ≡ Some t

-- the answer is the number of this value, or there is neither
abbrev pub Found : Doc → Option Json → Option ℕ → Type 0
Found doc (Some t) (Some k) = At doc k t
Found doc None None = Unit {0}
Found doc (Some t) None = ⊥
Found doc None (Some k) = ⊥

-- how many values the first n of these have in them, with themselves
abbrev pub sizes : ℕ → List Json → ℕ
sizes zero js = 0
sizes (suc n) [] = 0
sizes (suc n) (j ∷ js) = size j + sizes n js

-- value number m, which is u, is child n of value number k, which is t; children are counted from 0
pub record ChildAt (doc : Doc) (k : ℕ) (t : Json) (n m : ℕ) (u : Json) : Type 0 where
  pub parent : At doc k t
  pub child : slice_get (children t) n ≡ Some u
  pub place : m ≡ k + 1 + sizes n (children t)

-- the answer is the number of child n of value number k, which is t, or there is neither
abbrev pub found_child : Doc → ℕ → Json → ℕ → Option Json → Option ℕ → Type 0
found_child doc k t n (Some u) (Some m) = ChildAt doc k t n m u
found_child doc k t n None None = Unit {0}
found_child doc k t n (Some u) None = ⊥
found_child doc k t n None (Some m) = ⊥

abbrev pub FoundChild : Doc → ℕ → Json → ℕ → Option ℕ → Type 0
FoundChild doc k t n answer = found_child doc k t n (slice_get (children t) n) answer
