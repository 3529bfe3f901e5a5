-- What the look-ups over the nodes find is the tree's.
use Rattle.std.proofs.Common.{◌≡◌, ℕ, zero, suc, ◌+◌, ◌<◌, ◌≤◌, Bool, true, false, ◌&&◌, ◌==◌, nat_lt, List, [], ◌∷◌, ◌++◌, length, get_or, refl, sym, ◌∙◌, ap, subst, arith, zero-add, append-nil, add-one}
use Rattle.std.specs.Prelude.{Option, Some, None, MatchOption}
use Rattle.std.specs.List.{slice_get}
use Rattle.std.proofs.lemmas.Option.{slice_get_within, get_or_from_slice_get}
use Rattle.std.proofs.lemmas.Bool.Decides.{nat_tests}
use Rattle.json_text.specs.declared.span.Span.{Span}
use Rattle.json_text.specs.Json.{Json, span_of}
use Rattle.json_text.specs.Named.{children}
use Rattle.json_nodes.specs.declared.node.Node.{Node}
use Rattle.json_nodes.specs.declared.node.Place.{Place}
use Rattle.json_nodes.specs.At.{At, ChildAt, FoundChild, found_child, sizes}
use Rattle.json_nodes.specs.Doc.{Doc}
use Rattle.json_nodes.specs.Nodes.{size, kind_of, nodes_of, head_node, unnamed}
use Rattle.json_nodes.specs.Steps.{some_if, first_inside, first_number, same_level, next_behind, next_number}
use Rattle.json_nodes.proofs.Numbers.{get_front, get_behind, child_at}
use Rattle.json_nodes.proofs.Places.{Placed, placed_child, Low}
use Rattle.json_nodes.proofs.Tree.{children_nodes, named_children, nodes_shape, nodes_length, size_shape, all_sizes, child_sizes, everywhere}

-- the nodes of value k stand at some level
pub record Here (ns : List Node) (k : ℕ) (t : Json) : Type 0 where
  pub level : ℕ
  pub placed : Placed ns level k t

here_child : (ns : List Node) (k n : ℕ) (t c : Json) → Here ns k t → slice_get (children t) n ≡ Some c → Here ns (k + 1 + sizes n (children t)) c
here_child ns k n t c h e = record { level = h.level + 1; placed = placed_child ns h.level k n t c h.placed e }

whole_here : (ns : List Node) (j : Json) → ns ≡ nodes_of 0 0 unnamed j → Here ns 0 j
whole_here ns j e = record { level = 0; placed = record { front = []; name = unnamed; tail = []; whole = e ∙ sym (append-nil (nodes_of 0 0 unnamed j)); behind = refl; low = tt } }

pub here_at : {doc : Doc} {k : ℕ} {t : Json} → At doc k t → Here doc.nodes k t
here_at {doc} {k} {t} a = subst (λ m. Here doc.nodes m t) (zero-add k) (everywhere (λ m u. Here doc.nodes m u) (λ m n u c h e. here_child doc.nodes m n u c h e) (size a.tree) 0 k a.tree t (omega arith) (whole_here doc.nodes a.tree a.holds.nodes) a.there)

-- the first node of a value
pub head_at : (ns : List Node) (l k : ℕ) (t : Json) (p : Placed ns l k t) → slice_get ns k ≡ Some (head_node l k p.name t)
head_at ns l k t p =
    let e : ns ≡ p.front ++ (head_node l k p.name t ∷ (children_nodes (l + 1) (k + 1) (named_children t) ++ p.tail)) = p.whole ∙ ap (λ xs. p.front ++ (xs ++ p.tail)) (nodes_shape l k p.name t) in
    rw (e, ← p.behind) (get_front p.front (head_node l (length p.front) p.name t) (children_nodes (l + 1) (length p.front + 1) (named_children t) ++ p.tail))

-- the node behind all of a value's
behind_at : (ns : List Node) (l k : ℕ) (t : Json) (p : Placed ns l k t) → slice_get ns (k + size t) ≡ slice_get p.tail 0
behind_at ns l k t p =
    let e : length p.front + length (nodes_of l k p.name t) ≡ k + size t = omega (arith, nodes_length t l k p.name, p.behind) in
    ap (λ xs. slice_get xs (k + size t)) p.whole ∙ (ap (λ i. slice_get (p.front ++ (nodes_of l k p.name t ++ p.tail)) i) (sym e) ∙ get_behind p.front (nodes_of l k p.name t) p.tail)

-- the first child

first_is : (ns : List Node) (k : ℕ) (x y : Node) → slice_get ns k ≡ Some x → slice_get ns (k + 1) ≡ Some y → k + 1 < x.after → first_number ns k ≡ Some (k + 1)
first_is ns k x y h g lt = let within : k + 1 < length ns = slice_get_within ns (k + 1) y g in
    let both : (nat_lt (k + 1) x.after && nat_lt (k + 1) (length ns)) ≡ true = grind (arith, nat_tests) in
    rw (h, both) refl

first_is_none : (ns : List Node) (k : ℕ) (x : Node) → slice_get ns k ≡ Some x → x.after ≤ k + 1 → first_number ns k ≡ None
first_is_none ns k x h le =
    let both : (nat_lt (k + 1) x.after && nat_lt (k + 1) (length ns)) ≡ false = grind (arith, nat_tests) in
    rw (h, both) refl

pub no_children : (t : Json) → slice_get (children t) 0 ≡ None → size t ≡ 1
no_children t h = size_shape t ∙ none (children t) h
  where
    none : (js : List Json) → slice_get js 0 ≡ None → 1 + all_sizes js ≡ 1
    none [] e = refl
    none (j ∷ js) e = cc

first_case : (doc : Doc) (k : ℕ) (t : Json) → At doc k t → (o : Option Json) → slice_get (children t) 0 ≡ o → found_child doc k t 0 o (first_number doc.nodes k)
first_case doc k t a None e =
    let h : Here doc.nodes k t = here_at a in
    let small : k + size t ≤ k + 1 = omega (arith, no_children t e) in
    rw (first_is_none doc.nodes k (head_node h.level k h.placed.name t) (head_at doc.nodes h.level k t h.placed) small) tt
first_case doc k t a (Some c) e =
    let h : Here doc.nodes k t = here_at a in
    let child : ChildAt doc k t 0 (k + 1) c = record { parent = a; child = e; place = omega arith } in
    let g : Here doc.nodes (k + 1) c = here_at (child_at child) in
    let large : k + 1 < k + size t = omega (arith, size_shape t, size_shape c, child_sizes (children t) 0 c e) in
    rw (first_is doc.nodes k (head_node h.level k h.placed.name t) (head_node g.level (k + 1) g.placed.name c) (head_at doc.nodes h.level k t h.placed) (head_at doc.nodes g.level (k + 1) c g.placed) large) child

pub first_law : (doc : Doc) (k : ℕ) (t : Json) → At doc k t → FoundChild doc k t 0 (first_number doc.nodes k)
first_law doc k t a = first_case doc k t a (slice_get (children t) 0) refl

-- the next child

next_is : (ns : List Node) (m : ℕ) (x y : Node) → slice_get ns m ≡ Some x → slice_get ns x.after ≡ Some y → y.level ≡ x.level → m < x.after → next_number ns m ≡ Some x.after
next_is ns m x y h g e lt = let same : ((y.level == x.level) && nat_lt m x.after) ≡ true = grind (arith, nat_tests) in rw (h, g, same) refl

next_is_none : (ns : List Node) (m : ℕ) (x : Node) (tail : List Node) → slice_get ns m ≡ Some x → slice_get ns x.after ≡ slice_get tail 0 → (l : ℕ) → Low l tail → l < x.level → next_number ns m ≡ None
next_is_none ns m x [] h g l low lt = rw (h, g) refl
next_is_none ns m x (y ∷ tail) h g l low lt = let other : ((y.level == x.level) && nat_lt m x.after) ≡ false = grind (arith, nat_tests) in rw (h, g, other) refl

pub more_sizes : (js : List Json) (n : ℕ) (c : Json) → slice_get js n ≡ Some c → sizes (suc n) js ≡ sizes n js + size c
more_sizes [] n c h = cc
more_sizes (j ∷ js) zero c h = let same : j ≡ c = cc in rw same (omega arith)
more_sizes (j ∷ js) (suc n) c h = omega (arith, more_sizes js n c h)

last_sizes : (js : List Json) (n : ℕ) (c : Json) → slice_get js n ≡ Some c → slice_get js (suc n) ≡ None → sizes n js + size c ≡ all_sizes js
last_sizes [] n c h g = cc
last_sizes (j ∷ []) zero c h g = let same : j ≡ c = cc in rw same (omega arith)
last_sizes (j ∷ (i ∷ js)) zero c h g = cc
last_sizes (j ∷ js) (suc n) c h g = omega (arith, last_sizes js n c h g)

next_at : (ns : List Node) (l m : ℕ) (u : Json) (p : Placed ns l m u) (n : ℕ) (c : Json) → n ≡ m + size u → Placed ns l n c → next_number ns m ≡ Some n
next_at ns l m u p n c e q = let after : next_number ns m ≡ Some (m + size u) = next_is ns m (head_node l m p.name u) (head_node l n q.name c) (head_at ns l m u p) (ap (λ i. slice_get ns i) (sym e) ∙ head_at ns l n c q) refl (omega (arith, size_shape u)) in
    after ∙ ap (λ i. Some i) (sym e)

next_at_none : (ns : List Node) (l k : ℕ) (t : Json) (p : Placed ns l k t) (m : ℕ) (u : Json) → Placed ns (l + 1) m u → m + size u ≡ k + size t → next_number ns m ≡ None
next_at_none ns l k t p m u q e = next_is_none ns m (head_node (l + 1) m q.name u) p.tail (head_at ns (l + 1) m u q) (ap (λ i. slice_get ns i) e ∙ behind_at ns l k t p) l p.low (omega arith)

placed_at : (ns : List Node) (l k n m : ℕ) (t u : Json) → Placed ns l k t → slice_get (children t) n ≡ Some u → m ≡ k + 1 + sizes n (children t) → Placed ns (l + 1) m u
placed_at ns l k n m t u p h e = subst (λ i. Placed ns (l + 1) i u) (sym e) (placed_child ns l k n t u p h)

next_case : (doc : Doc) (k n m : ℕ) (t u : Json) → ChildAt doc k t n m u → (o : Option Json) → slice_get (children t) (suc n) ≡ o → found_child doc k t (suc n) o (next_number doc.nodes m)
next_case doc k n m t u c None e =
    let h : Here doc.nodes k t = here_at c.parent in
    let p : Placed doc.nodes (h.level + 1) m u = placed_at doc.nodes h.level k n m t u h.placed c.child c.place in
    let ends : m + size u ≡ k + size t = omega (arith, c.place, size_shape t, last_sizes (children t) n u c.child e) in
    rw (next_at_none doc.nodes h.level k t h.placed m u p ends) tt
next_case doc k n m t u c (Some v) e =
    let h : Here doc.nodes k t = here_at c.parent in
    let p : Placed doc.nodes (h.level + 1) m u = placed_at doc.nodes h.level k n m t u h.placed c.child c.place in
    let place : m + size u ≡ k + 1 + sizes (suc n) (children t) = omega (arith, c.place, more_sizes (children t) n u c.child) in
    let q : Placed doc.nodes (h.level + 1) (m + size u) v = placed_at doc.nodes h.level k (suc n) (m + size u) t v h.placed e place in
    let child : ChildAt doc k t (suc n) (m + size u) v = record { parent = c.parent; child = e; place = place } in
    rw (next_at doc.nodes (h.level + 1) m u p (m + size u) v refl q) child

pub next_law : (doc : Doc) (k n m : ℕ) (t u : Json) → ChildAt doc k t n m u → FoundChild doc k t (n + 1) (next_number doc.nodes m)
next_law doc k n m t u c = rw (add-one n) (next_case doc k n m t u c (slice_get (children t) (suc n)) refl)

-- nothing follows the text's own value
pub next_root : (ns : List Node) (j : Json) → ns ≡ nodes_of 0 0 unnamed j → next_number ns 0 ≡ None
unfolding whole_here
next_root ns j e = go (whole_here ns j e).placed refl
  where
    go : (p : Placed ns (whole_here ns j e).level 0 j) → p.tail ≡ [] → next_number ns 0 ≡ None
    go p none = let h : slice_get ns 0 ≡ Some (head_node 0 0 p.name j) = head_at ns 0 0 j p in
        let g : slice_get ns (0 + size j) ≡ None = behind_at ns 0 0 j p ∙ ap (λ xs. slice_get xs 0) none in
        rw (h, g) refl

-- the numbers are those of later nodes

abbrev pub Later : List Node → ℕ → Option ℕ → Type 0
Later ns k answer = MatchOption answer (Unit {0}) (λ m. (k < m) × (m < length ns))

pub first_later : (ns : List Node) (k : ℕ) → Later ns k (first_number ns k)
first_later ns k = by (slice_get ns k)
  where
    by_test : (x y : Bool) → nat_lt (k + 1) (length ns) ≡ y → Later ns k (some_if (x && y) (k + 1))
    by_test true true e = (omega arith, grind (arith, nat_tests))
    by_test true false e = tt
    by_test false y e = tt

    by : (o : Option Node) → Later ns k (first_inside (length ns) k o)
    by None = tt
    by (Some x) = by_test (nat_lt (k + 1) x.after) (nat_lt (k + 1) (length ns)) refl

pub next_later : (ns : List Node) (k : ℕ) → Later ns k (next_number ns k)
next_later ns k = by (slice_get ns k)
  where
    by_test : (x y : Bool) (m : ℕ) → m < length ns → nat_lt k m ≡ y → Later ns k (some_if (x && y) m)
    by_test true true m h e = (grind (arith, nat_tests), h)
    by_test true false m h e = tt
    by_test false y m h e = tt

    behind : (x : Node) (o : Option Node) → slice_get ns x.after ≡ o → Later ns k (same_level k x o)
    behind x None e = tt
    behind x (Some y) e = by_test (y.level == x.level) (nat_lt k x.after) x.after (slice_get_within ns x.after y e) refl

    by : (o : Option Node) → Later ns k (next_behind ns k o)
    by None = tt
    by (Some x) = behind x (slice_get ns x.after) refl

-- what the first node of a value says

pub head_law : (doc : Doc) (k : ℕ) (t : Json) (d : Node) → At doc k t → (l : ℕ) × (name : Place) × (get_or doc.nodes k d ≡ head_node l k name t)
head_law doc k t d a = let h : Here doc.nodes k t = here_at a in
    (h.level, h.placed.name, get_or_from_slice_get doc.nodes k (head_node h.level k h.placed.name t) d (head_at doc.nodes h.level k t h.placed))

pub kind_law : (doc : Doc) (k : ℕ) (t : Json) (d : Node) → At doc k t → (get_or doc.nodes k d).kind ≡ kind_of t
kind_law doc k t d a = ap (λ (y : Node). y.kind) (head_law doc k t d a).2

abbrev pub node_span : Node → Span
node_span x = record { from = x.from; to = x.to }

pub span_law : (doc : Doc) (k : ℕ) (t : Json) (d : Node) → At doc k t → node_span (get_or doc.nodes k d) ≡ span_of t
span_law doc k t d a = ap node_span (head_law doc k t d a).2
