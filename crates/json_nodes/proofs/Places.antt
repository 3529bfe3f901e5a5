-- Where the nodes of each value stand.
use Rattle.std.proofs.Common.{◌≡◌, ℕ, zero, suc, ◌+◌, ◌≤◌, List, [], ◌∷◌, ◌++◌, length, refl, sym, ◌∙◌, ap, arith, append_assoc, length-append, add-zero}
use Rattle.std.specs.Prelude.{Some}
use Rattle.std.specs.List.{slice_get}
use Rattle.json_text.specs.Json.{Json}
use Rattle.json_text.specs.Named.{children}
use Rattle.json_nodes.specs.declared.node.Node.{Node}
use Rattle.json_nodes.specs.declared.node.Place.{Place}
use Rattle.json_nodes.specs.At.{sizes}
use Rattle.json_nodes.specs.Nodes.{size, nodes_of, head_node}
use Rattle.json_nodes.proofs.Tree.{Child, contents, child_places, named_children, children_nodes, nodes_shape, children_shape, nodes_length}

-- no node in front has a higher level
abbrev pub Low : ℕ → List Node → Type 0
Low l [] = Unit {0}
Low l (x ∷ xs) = x.level ≤ l

-- the nodes of a value stand behind k others, at this level
pub record Placed (ns : List Node) (l k : ℕ) (t : Json) : Type 0 where
  pub front : List Node
  pub name : Place
  pub tail : List Node
  pub whole : ns ≡ front ++ (nodes_of l k name t ++ tail)
  pub behind : length front ≡ k
  pub low : Low l tail

-- one of several children
record Among (l i n : ℕ) (cs : List Child) (c : Json) (tail : List Node) : Type 0 where
  front : List Node
  name : Place
  later : List Node
  whole : children_nodes l i cs ++ tail ≡ front ++ (nodes_of l (i + sizes n (contents cs)) name c ++ later)
  behind : length front ≡ sizes n (contents cs)
  named : slice_get (child_places cs) n ≡ Some name
  low : Low l later

low_nodes : (l i : ℕ) (name : Place) (t : Json) (tail : List Node) → Low l (nodes_of l i name t ++ tail)
low_nodes l i name t tail = rw (nodes_shape l i name t) (omega arith)

low_children : (l i : ℕ) (cs : List Child) (tail : List Node) → Low l tail → Low l (children_nodes l i cs ++ tail)
low_children l i [] tail h = h
low_children l i (c ∷ cs) tail h = rw append_assoc (low_nodes l i c.name c.content (children_nodes l (i + size c.content) cs ++ tail))

among_first : (l i : ℕ) (c : Child) (cs : List Child) (d : Json) (tail : List Node) → Low l tail → c.content ≡ d → Among l i 0 (c ∷ cs) d tail
among_first l i c cs d tail low e = record {
  front = [];
  name = c.name;
  later = children_nodes l (i + size c.content) cs ++ tail;
  whole = append_assoc (nodes_of l i c.name c.content) (children_nodes l (i + size c.content) cs) tail ∙ (let same : nodes_of l i c.name c.content ≡ nodes_of l (i + 0) c.name d = rw (add-zero i, e) refl in ap (λ ns. ns ++ (children_nodes l (i + size c.content) cs ++ tail)) same);
  behind = refl;
  named = refl;
  low = low_children l (i + size c.content) cs tail low;
}

later_whole : (xs ys tail front mid later : List Node) → ys ++ tail ≡ front ++ (mid ++ later) → (xs ++ ys) ++ tail ≡ (xs ++ front) ++ (mid ++ later)
later_whole xs ys tail front mid later e = append_assoc xs ys tail ∙ ap (λ ns. xs ++ ns) e ∙ sym (append_assoc xs front (mid ++ later))

among_later : (l i n : ℕ) (c : Child) (cs : List Child) (d : Json) (tail : List Node) → Among l (i + size c.content) n cs d tail → Among l i (suc n) (c ∷ cs) d tail
among_later l i n c cs d tail h = record {
  front = nodes_of l i c.name c.content ++ h.front;
  name = h.name;
  later = h.later;
  whole = (let e : i + size c.content + sizes n (contents cs) ≡ i + (size c.content + sizes n (contents cs)) = omega arith in
      let w : children_nodes l (i + size c.content) cs ++ tail ≡ h.front ++ (nodes_of l (i + (size c.content + sizes n (contents cs))) h.name d ++ h.later) = h.whole ∙ ap (λ m. h.front ++ (nodes_of l m h.name d ++ h.later)) e in
      later_whole (nodes_of l i c.name c.content) (children_nodes l (i + size c.content) cs) tail h.front (nodes_of l (i + (size c.content + sizes n (contents cs))) h.name d) h.later w);
  behind = omega (arith, length-append (nodes_of l i c.name c.content) h.front, nodes_length c.content l i c.name, h.behind);
  named = h.named;
  low = h.low;
}

among : (n l i : ℕ) (cs : List Child) (d : Json) (tail : List Node) → Low l tail → slice_get (contents cs) n ≡ Some d → Among l i n cs d tail
among n l i [] d tail low h = cc
among zero l i (c ∷ cs) d tail low h = among_first l i c cs d tail low cc
among (suc n) l i (c ∷ cs) d tail low h = among_later l i n c cs d tail (among n l (i + size c.content) cs d tail low h)

raise : (l : ℕ) (tail : List Node) → Low l tail → Low (l + 1) tail
raise l [] h = tt
raise l (x ∷ xs) h = omega arith

child_whole : (x : Node) (ns front xs mid tail later : List Node) → ns ≡ front ++ ((x ∷ xs) ++ tail) → xs ++ tail ≡ mid ++ later → ns ≡ (front ++ (x ∷ mid)) ++ later
child_whole x ns front xs mid tail later e f = e ∙ ap (λ ys. front ++ (x ∷ ys)) f ∙ sym (append_assoc front (x ∷ mid) later)

-- one child of value k, with the place of its name
pub record PlacedChild (ns : List Node) (l k n : ℕ) (t : Json) (at : ℕ) (c : Json) : Type 0 where
  pub placed : Placed ns (l + 1) at c
  pub named : slice_get (child_places (named_children t)) n ≡ Some placed.name

from_inside : (ns : List Node) (l k n : ℕ) (t c : Json) (p : Placed ns l k t) → (at : ℕ) → at ≡ k + 1 + sizes n (children t) → Among (l + 1) (k + 1) n (named_children t) c p.tail → PlacedChild ns l k n t at c
from_inside ns l k n t c p at e h =
    let same : sizes n (contents (named_children t)) ≡ sizes n (children t) = ap (λ js. sizes n js) (children_shape t) in
    let place : k + 1 + sizes n (contents (named_children t)) ≡ at = omega arith in
    let outer : ns ≡ p.front ++ ((head_node l k p.name t ∷ children_nodes (l + 1) (k + 1) (named_children t)) ++ p.tail) = p.whole ∙ ap (λ xs. p.front ++ (xs ++ p.tail)) (nodes_shape l k p.name t) in
    let inner : children_nodes (l + 1) (k + 1) (named_children t) ++ p.tail ≡ h.front ++ (nodes_of (l + 1) at h.name c ++ h.later) = h.whole ∙ ap (λ i. h.front ++ (nodes_of (l + 1) i h.name c ++ h.later)) place in
    record {
      placed = record {
        front = p.front ++ (head_node l k p.name t ∷ h.front);
        name = h.name;
        tail = h.later;
        whole = child_whole (head_node l k p.name t) ns p.front (children_nodes (l + 1) (k + 1) (named_children t)) h.front p.tail (nodes_of (l + 1) at h.name c ++ h.later) outer inner;
        behind = omega (arith, length-append p.front (head_node l k p.name t ∷ h.front), p.behind, h.behind);
        low = h.low;
      };
      named = h.named;
    }

pub placed_named : (ns : List Node) (l k n : ℕ) (t c : Json) (at : ℕ) → Placed ns l k t → slice_get (children t) n ≡ Some c → at ≡ k + 1 + sizes n (children t) → PlacedChild ns l k n t at c
placed_named ns l k n t c at p h e =
    let there : slice_get (contents (named_children t)) n ≡ Some c = ap (λ js. slice_get js n) (children_shape t) ∙ h in
    from_inside ns l k n t c p at e (among n (l + 1) (k + 1) (named_children t) c p.tail (raise l p.tail p.low) there)

pub placed_child : (ns : List Node) (l k n : ℕ) (t c : Json) → Placed ns l k t → slice_get (children t) n ≡ Some c → Placed ns (l + 1) (k + 1 + sizes n (children t)) c
placed_child ns l k n t c p h = (placed_named ns l k n t c (k + 1 + sizes n (children t)) p h refl).placed
