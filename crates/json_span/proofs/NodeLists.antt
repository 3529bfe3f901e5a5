-- Lists of nodes.
use Rattle.std.proofs.Common.{◌≡◌, refl, ap, ◌∙◌, ℕ, ◌+◌, List, [], ◌∷◌, ◌++◌, length, arith, length-append}
use Rattle.std.specs.Prelude.{Some, slice_get, slice_set}
use Rattle.json_text.specs.Json.{Json, word, number, string, array, object, Items, no_items, item, Members, no_members, member}
use Rattle.json_nodes.specs.declared.node.Node.{Node}
use Rattle.json_nodes.specs.declared.node.Place.{Place}
use Rattle.json_nodes.specs.Nodes.{nodes_of, items_nodes, members_nodes, size, items_size, members_size, unnamed, place_of}
use Rattle.json_span.specs.Machine.{close_node, closed_node}

mutual
  pub length_nodes : (j : Json) (l i : ℕ) (name : Place) → length (nodes_of l i name j) ≡ size j
  length_nodes (word s w) l i name = refl
  length_nodes (number s ds) l i name = refl
  length_nodes (string s cs) l i name = refl
  length_nodes (array s js) l i name = omega (arith, length_items js (l + 1) (i + 1))
  length_nodes (object s ms) l i name = omega (arith, length_members ms (l + 1) (i + 1))

  pub length_items : (js : Items) (l i : ℕ) → length (items_nodes l i js) ≡ items_size js
  length_items no_items l i = refl
  length_items (item j js) l i = omega (arith, length-append (nodes_of l i unnamed j) (items_nodes l (i + size j) js), length_nodes j l i unnamed, length_items js l (i + size j))

  pub length_members : (ms : Members) (l i : ℕ) → length (members_nodes l i ms) ≡ members_size ms
  length_members no_members l i = refl
  length_members (member s cs j ms) l i = omega (arith, length-append (nodes_of l i (place_of s) j) (members_nodes l (i + size j) ms), length_nodes j l i (place_of s), length_members ms l (i + size j))

get_seam : (xs ys : List Node) (x : Node) → slice_get (xs ++ x ∷ ys) (length xs) ≡ Some x
get_seam [] ys x = refl
get_seam (z ∷ xs) ys x = get_seam xs ys x

set_seam : (xs ys : List Node) (x y : Node) → slice_set (xs ++ x ∷ ys) (length xs) y ≡ xs ++ y ∷ ys
set_seam [] ys x y = refl
set_seam (z ∷ xs) ys x y = ap (λ zs. z ∷ zs) (set_seam xs ys x y)

pub close_seam : (to : ℕ) (xs ys : List Node) (x : Node) → close_node (length xs) to (xs ++ x ∷ ys) ≡ xs ++ (record x { to = to; after = length (xs ++ x ∷ ys) }) ∷ ys
close_seam to xs ys x = ap (λ o. closed_node o (length xs) to (xs ++ x ∷ ys)) (get_seam xs ys x) ∙ set_seam xs ys x (record x { to = to; after = length (xs ++ x ∷ ys) })
