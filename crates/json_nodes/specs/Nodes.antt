-- The values of a tree in preorder, each as a node.
use Rattle.std.specs.Prelude.{ℕ, ◌+◌, List, [], ◌∷◌, ◌++◌}
use Rattle.json_text.specs.declared.span.Span.{Span}
use Rattle.json_text.specs.declared.kind.Word.{Word}
use Rattle.json_text.specs.declared.kind.Word.TheVariants as word_of
use Rattle.json_text.specs.declared.kind.Kind.{Kind}
use Rattle.json_text.specs.declared.kind.Kind.TheVariants as kind
use Rattle.json_text.specs.Json.{Json, word, number, string, array, object, Items, no_items, item, Members, no_members, member, span_of}
use Rattle.json_nodes.specs.declared.node.Node.{Node}
use Rattle.json_nodes.specs.declared.node.Place.{Place}

abbrev pub kind_of_word : Word → Kind
kind_of_word word_of.Null = kind.Null
kind_of_word word_of.False = kind.False
kind_of_word word_of.True = kind.True

abbrev pub kind_of : Json → Kind
kind_of (word s w) = kind_of_word w
kind_of (number s ds) = kind.Number
kind_of (string s cs) = kind.Text
kind_of (array s js) = kind.Array
kind_of (object s ms) = kind.Object

-- how many values a value has in it, with itself
abbrev mutual
  pub size : Json → ℕ
  size (word s w) = 1
  size (number s ds) = 1
  size (string s cs) = 1
  size (array s js) = 1 + items_size js
  size (object s ms) = 1 + members_size ms

  pub items_size : Items → ℕ
  items_size no_items = 0
  items_size (item j js) = size j + items_size js

  pub members_size : Members → ℕ
  members_size no_members = 0
  members_size (member s cs j ms) = size j + members_size ms

-- no name
abbrev pub unnamed : Place
unnamed = record { from = 0; to = 0 }

abbrev pub place_of : Span → Place
place_of s = record { from = s.from; to = s.to }

-- the first node of a value that has the number i, at a level
abbrev pub head_node : ℕ → ℕ → Place → Json → Node
head_node l i name j = record { kind = kind_of j; level = l; from = (span_of j).from; to = (span_of j).to; after = i + size j; name = name }

abbrev mutual
  pub nodes_of : ℕ → ℕ → Place → Json → List Node
  nodes_of l i name (word s w) = head_node l i name (word s w) ∷ []
  nodes_of l i name (number s ds) = head_node l i name (number s ds) ∷ []
  nodes_of l i name (string s cs) = head_node l i name (string s cs) ∷ []
  nodes_of l i name (array s js) = head_node l i name (array s js) ∷ items_nodes (l + 1) (i + 1) js
  nodes_of l i name (object s ms) = head_node l i name (object s ms) ∷ members_nodes (l + 1) (i + 1) ms

  pub items_nodes : ℕ → ℕ → Items → List Node
  items_nodes l i no_items = []
  items_nodes l i (item j js) = nodes_of l i unnamed j ++ items_nodes l (i + size j) js

  pub members_nodes : ℕ → ℕ → Members → List Node
  members_nodes l i no_members = []
  members_nodes l i (member s cs j ms) = nodes_of l i (place_of s) j ++ members_nodes l (i + size j) ms
