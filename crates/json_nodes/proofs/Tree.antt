-- A tree as a value and its children: its nodes, its values in preorder, and what holds of each value in it.
use Rattle.std.proofs.Common.{◌≡◌, ℕ, zero, suc, ◌+◌, ◌≤◌, List, [], ◌∷◌, ◌++◌, length, ◌⊎◌, inl, inr, refl, sym, ap, subst, arith, length-append, add-zero}
use Rattle.std.specs.Prelude.{Some}
use Rattle.std.specs.List.{slice_get, flat_map}
use Rattle.json_text.specs.Json.{Json, word, number, string, array, object, Items, no_items, item, Members, no_members, member}
use Rattle.json_text.specs.Named.{children, items_list, values_list}
use Rattle.json_nodes.specs.declared.node.Node.{Node}
use Rattle.json_nodes.specs.declared.node.Place.{Place}
use Rattle.json_nodes.specs.At.{preorder, items_preorder, members_preorder, sizes}
use Rattle.json_nodes.specs.Nodes.{size, items_size, members_size, nodes_of, items_nodes, members_nodes, head_node, unnamed, place_of}

-- a child with the place of its name
pub record Child : Type 0 where
  pub name : Place
  pub content : Json

abbrev pub items_children : Items → List Child
items_children no_items = []
items_children (item j js) = record { name = unnamed; content = j } ∷ items_children js

abbrev pub members_children : Members → List Child
members_children no_members = []
members_children (member s cs j ms) = record { name = place_of s; content = j } ∷ members_children ms

abbrev pub named_children : Json → List Child
named_children (array s js) = items_children js
named_children (object s ms) = members_children ms
named_children (word s w) = []
named_children (number s ds) = []
named_children (string s cs) = []

abbrev pub contents : List Child → List Json
contents [] = []
contents (c ∷ cs) = c.content ∷ contents cs

abbrev pub child_places : List Child → List Place
child_places [] = []
child_places (c ∷ cs) = c.name ∷ child_places cs

abbrev pub children_nodes : ℕ → ℕ → List Child → List Node
children_nodes l i [] = []
children_nodes l i (c ∷ cs) = nodes_of l i c.name c.content ++ children_nodes l (i + size c.content) cs

abbrev pub all_sizes : List Json → ℕ
all_sizes [] = 0
all_sizes (j ∷ js) = size j + all_sizes js

-- a tree's parts by its children

items_shape : (l i : ℕ) (js : Items) → items_nodes l i js ≡ children_nodes l i (items_children js)
items_shape l i no_items = refl
items_shape l i (item j js) = ap (λ ns. nodes_of l i unnamed j ++ ns) (items_shape l (i + size j) js)

members_shape : (l i : ℕ) (ms : Members) → members_nodes l i ms ≡ children_nodes l i (members_children ms)
members_shape l i no_members = refl
members_shape l i (member s cs j ms) = ap (λ ns. nodes_of l i (place_of s) j ++ ns) (members_shape l (i + size j) ms)

pub nodes_shape : (l i : ℕ) (name : Place) (t : Json) → nodes_of l i name t ≡ head_node l i name t ∷ children_nodes (l + 1) (i + 1) (named_children t)
nodes_shape l i name (word s w) = refl
nodes_shape l i name (number s ds) = refl
nodes_shape l i name (string s cs) = refl
nodes_shape l i name (array s js) = ap (λ ns. head_node l i name (array s js) ∷ ns) (items_shape (l + 1) (i + 1) js)
nodes_shape l i name (object s ms) = ap (λ ns. head_node l i name (object s ms) ∷ ns) (members_shape (l + 1) (i + 1) ms)

items_contents : (js : Items) → contents (items_children js) ≡ items_list js
items_contents no_items = refl
items_contents (item j js) = ap (λ xs. j ∷ xs) (items_contents js)

members_contents : (ms : Members) → contents (members_children ms) ≡ values_list ms
members_contents no_members = refl
members_contents (member s cs j ms) = ap (λ xs. j ∷ xs) (members_contents ms)

pub children_shape : (t : Json) → contents (named_children t) ≡ children t
children_shape (word s w) = refl
children_shape (number s ds) = refl
children_shape (string s cs) = refl
children_shape (array s js) = items_contents js
children_shape (object s ms) = members_contents ms

items_values : (js : Items) → items_preorder js ≡ flat_map preorder (items_list js)
items_values no_items = refl
items_values (item j js) = ap (λ xs. preorder j ++ xs) (items_values js)

members_values : (ms : Members) → members_preorder ms ≡ flat_map preorder (values_list ms)
members_values no_members = refl
members_values (member s cs j ms) = ap (λ xs. preorder j ++ xs) (members_values ms)

pub preorder_shape : (t : Json) → preorder t ≡ t ∷ flat_map preorder (children t)
preorder_shape (word s w) = refl
preorder_shape (number s ds) = refl
preorder_shape (string s cs) = refl
preorder_shape (array s js) = ap (λ xs. array s js ∷ xs) (items_values js)
preorder_shape (object s ms) = ap (λ xs. object s ms ∷ xs) (members_values ms)

items_sizes : (js : Items) → items_size js ≡ all_sizes (items_list js)
items_sizes no_items = refl
items_sizes (item j js) = ap (λ n. size j + n) (items_sizes js)

members_sizes : (ms : Members) → members_size ms ≡ all_sizes (values_list ms)
members_sizes no_members = refl
members_sizes (member s cs j ms) = ap (λ n. size j + n) (members_sizes ms)

pub size_shape : (t : Json) → size t ≡ 1 + all_sizes (children t)
size_shape (word s w) = refl
size_shape (number s ds) = refl
size_shape (string s cs) = refl
size_shape (array s js) = ap (λ n. 1 + n) (items_sizes js)
size_shape (object s ms) = ap (λ n. 1 + n) (members_sizes ms)

-- as many values, and as many nodes, as the size says

mutual
  pub preorder_length : (t : Json) → length (preorder t) ≡ size t
  preorder_length (word s w) = refl
  preorder_length (number s ds) = refl
  preorder_length (string s cs) = refl
  preorder_length (array s js) = omega (arith, items_length js)
  preorder_length (object s ms) = omega (arith, members_length ms)

  items_length : (js : Items) → length (items_preorder js) ≡ items_size js
  items_length no_items = refl
  items_length (item j js) = omega (arith, length-append (preorder j) (items_preorder js), preorder_length j, items_length js)

  members_length : (ms : Members) → length (members_preorder ms) ≡ members_size ms
  members_length no_members = refl
  members_length (member s cs j ms) = omega (arith, length-append (preorder j) (members_preorder ms), preorder_length j, members_length ms)

mutual
  pub nodes_length : (t : Json) (l i : ℕ) (name : Place) → length (nodes_of l i name t) ≡ size t
  nodes_length (word s w) l i name = refl
  nodes_length (number s ds) l i name = refl
  nodes_length (string s cs) l i name = refl
  nodes_length (array s js) l i name = omega (arith, items_nodes_length js (l + 1) (i + 1))
  nodes_length (object s ms) l i name = omega (arith, members_nodes_length ms (l + 1) (i + 1))

  items_nodes_length : (js : Items) (l i : ℕ) → length (items_nodes l i js) ≡ items_size js
  items_nodes_length no_items l i = refl
  items_nodes_length (item j js) l i = omega (arith, length-append (nodes_of l i unnamed j) (items_nodes l (i + size j) js), nodes_length j l i unnamed, items_nodes_length js l (i + size j))

  members_nodes_length : (ms : Members) (l i : ℕ) → length (members_nodes l i ms) ≡ members_size ms
  members_nodes_length no_members l i = refl
  members_nodes_length (member s cs j ms) l i = omega (arith, length-append (nodes_of l i (place_of s) j) (members_nodes l (i + size j) ms), nodes_length j l i (place_of s), members_nodes_length ms l (i + size j))

-- what holds of the root, and goes from a value to its children, holds of each value

pub get_append_cases : {A : Type 0} (xs ys : List A) (m : ℕ) (x : A) → slice_get (xs ++ ys) m ≡ Some x → (slice_get xs m ≡ Some x) ⊎ ((k : ℕ) × (m ≡ length xs + k) × (slice_get ys k ≡ Some x))
get_append_cases [] ys m x h = inr (m, omega arith, h)
get_append_cases (y ∷ xs) ys zero x h = inl h
get_append_cases (y ∷ xs) ys (suc m) x h = elim (get_append_cases xs ys m x h) [ inl e ↦ inl e | inr q ↦ (let e : m ≡ length xs + q.0 = q.1 in inr (q.0, omega arith, q.2)) ]

record InChild (js : List Json) (m : ℕ) (t : Json) : Type 0 where
  which : ℕ
  child : Json
  rest : ℕ
  is_child : slice_get js which ≡ Some child
  is_inside : slice_get (preorder child) rest ≡ Some t
  place : m ≡ sizes which js + rest

in_later : (c : Json) (js : List Json) (m k : ℕ) (t : Json) → m ≡ length (preorder c) + k → InChild js k t → InChild (c ∷ js) m t
in_later c js m k t e h = record {
  which = suc h.which;
  child = h.child;
  rest = h.rest;
  is_child = h.is_child;
  is_inside = h.is_inside;
  place = omega (arith, preorder_length c);
}

in_child : (js : List Json) (m : ℕ) (t : Json) → slice_get (flat_map preorder js) m ≡ Some t → InChild js m t
in_child [] m t h = cc
in_child (c ∷ js) m t h = elim (get_append_cases (preorder c) (flat_map preorder js) m t h) [
  | inl e ↦ record { which = 0; child = c; rest = m; is_child = refl; is_inside = e; place = omega arith }
  | inr q ↦ in_later c js m q.0 t q.1 (in_child js q.0 t q.2)
]

pub child_sizes : (js : List Json) (n : ℕ) (c : Json) → slice_get js n ≡ Some c → sizes n js + size c ≤ all_sizes js
child_sizes [] n c h = cc
child_sizes (j ∷ js) zero c h = let same : j ≡ c = cc in let e : size j ≡ size c = ap size same in omega arith
child_sizes (j ∷ js) (suc n) c h = omega (arith, child_sizes js n c h)

first_value : (j t : Json) → slice_get (preorder j) 0 ≡ Some t → j ≡ t
first_value j t h = let e : slice_get (j ∷ flat_map preorder (children j)) 0 ≡ Some t = rw (preorder_shape j) at h in cc

later_values : (j : Json) (k : ℕ) (t : Json) → slice_get (preorder j) (suc k) ≡ Some t → slice_get (flat_map preorder (children j)) k ≡ Some t
later_values j k t h = rw (preorder_shape j) at h

pub everywhere : (Q : ℕ → Json → Type 0) → ((k n : ℕ) (t c : Json) → Q k t → slice_get (children t) n ≡ Some c → Q (k + 1 + sizes n (children t)) c) → (fuel i k : ℕ) (j t : Json) → size j ≤ fuel → Q i j → slice_get (preorder j) k ≡ Some t → Q (i + k) t
everywhere Q step zero i k j t le q h = absurd (omega (arith, size_shape j))
everywhere Q step (suc fuel) i zero j t le q h = subst (λ n. Q n t) (sym (add-zero i)) (subst (λ u. Q i u) (first_value j t h) q)
everywhere Q step (suc fuel) i (suc k) j t le q h =
    let inside : InChild (children j) k t = in_child (children j) k t (later_values j k t h) in
    let smaller : size inside.child ≤ fuel = omega (arith, size_shape j, child_sizes (children j) inside.which inside.child inside.is_child) in
    let there : Q (i + 1 + sizes inside.which (children j) + inside.rest) t = everywhere Q step fuel (i + 1 + sizes inside.which (children j)) inside.rest inside.child t smaller (step i inside.which j inside.child q inside.is_child) inside.is_inside in
    let e : i + 1 + sizes inside.which (children j) + inside.rest ≡ i + suc k = omega (arith, inside.place) in
    subst (λ n. Q n t) e there
