-- A text with its nodes, as contracts see a tape.
use Rattle.std.specs.Prelude.{◌≡◌, ℕ, ◌≤◌, List}
use Rattle.json_text.specs.Json.{Json, IsText, depth}
use Rattle.json_nodes.specs.declared.node.Node.{Node}
use Rattle.json_nodes.specs.Nodes.{nodes_of, unnamed}

pub record Doc : Type 0 where
  pub bytes : List ℕ
  pub nodes : List Node

-- the bytes are a text of this tree, which nests at most 1,024 deep, and the nodes are the tree's
pub record Holds (doc : Doc) (j : Json) : Type 0 where
  pub text : IsText doc.bytes j
  pub shallow : depth j ≤ 1024
  pub nodes : doc.nodes ≡ nodes_of 0 0 unnamed j
