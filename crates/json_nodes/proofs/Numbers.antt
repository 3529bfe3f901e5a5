-- The numbers of the values in a value.
use Rattle.std.proofs.Common.{◌≡◌, ℕ, zero, suc, ◌+◌, List, [], ◌∷◌, ◌++◌, length, refl, sym, ◌∙◌, ap, subst, arith, append_assoc, length-append, zero-add, append-nil}
use Rattle.std.specs.List.{slice_get, flat_map}
use Rattle.std.specs.Prelude.{Option, Some, None}
use Rattle.json_text.specs.Json.{Json}
use Rattle.json_text.specs.Named.{children}
use Rattle.json_nodes.specs.At.{At, ChildAt, Found, FoundChild, found_child, preorder, tree_at, sizes}
use Rattle.json_nodes.specs.Doc.{Doc, Holds}
use Rattle.json_nodes.specs.Nodes.{size}
use Rattle.json_nodes.proofs.Tree.{preorder_shape, preorder_length, everywhere}

-- in a list that goes on with these elements behind k others, element k is the first of them
pub get_front : {A : Type 0} (front : List A) (x : A) (rest : List A) → slice_get (front ++ (x ∷ rest)) (length front) ≡ Some x
get_front [] x rest = refl
get_front (y ∷ front) x rest = get_front front x rest

get_past : {A : Type 0} (xs ys : List A) → slice_get (xs ++ ys) (length xs) ≡ slice_get ys 0
get_past [] ys = refl
get_past (x ∷ xs) ys = get_past xs ys

pub get_behind : {A : Type 0} (front mid tail : List A) → slice_get (front ++ (mid ++ tail)) (length front + length mid) ≡ slice_get tail 0
get_behind [] mid tail = ap (λ i. slice_get (mid ++ tail) i) (zero-add (length mid)) ∙ get_past mid tail
get_behind (y ∷ front) mid tail = let e : suc (length front) + length mid ≡ suc (length front + length mid) = omega arith in
    ap (λ i. slice_get (y ∷ (front ++ (mid ++ tail))) i) e ∙ get_behind front mid tail

-- a value and those in it stand behind k others in preorder
record Stands (values : List Json) (k : ℕ) (t : Json) : Type 0 where
  front : List Json
  rest : List Json
  whole : values ≡ front ++ (preorder t ++ rest)
  behind : length front ≡ k

among_values : (n : ℕ) (js : List Json) (c : Json) → slice_get js n ≡ Some c → Stands (flat_map preorder js) (sizes n js) c
among_values n [] c h = cc
among_values zero (j ∷ js) c h = let same : j ≡ c = cc in record { front = []; rest = flat_map preorder js; whole = ap (λ k. preorder k ++ flat_map preorder js) same; behind = refl }
among_values (suc n) (j ∷ js) c h = let s : Stands (flat_map preorder js) (sizes n js) c = among_values n js c h in
    record {
      front = preorder j ++ s.front;
      rest = s.rest;
      whole = ap (λ xs. preorder j ++ xs) s.whole ∙ sym (append_assoc (preorder j) s.front (preorder c ++ s.rest));
      behind = omega (arith, length-append (preorder j) s.front, preorder_length j, s.behind);
    }

deeper_whole : (x : Json) (values front xs mid later rest : List Json) → values ≡ front ++ ((x ∷ xs) ++ rest) → xs ≡ mid ++ later → values ≡ (front ++ (x ∷ mid)) ++ (later ++ rest)
deeper_whole x values front xs mid later rest e f = e ∙ ap (λ ys. front ++ (x ∷ (ys ++ rest))) f ∙ ap (λ ys. front ++ (x ∷ ys)) (append_assoc mid later rest) ∙ sym (append_assoc front (x ∷ mid) (later ++ rest))

stands_child : (values : List Json) (k n : ℕ) (t c : Json) → Stands values k t → slice_get (children t) n ≡ Some c → Stands values (k + 1 + sizes n (children t)) c
stands_child values k n t c s h =
    let inside : Stands (flat_map preorder (children t)) (sizes n (children t)) c = among_values n (children t) c h in
    let outer : values ≡ s.front ++ ((t ∷ flat_map preorder (children t)) ++ s.rest) = s.whole ∙ ap (λ xs. s.front ++ (xs ++ s.rest)) (preorder_shape t) in
    let w : values ≡ (s.front ++ (t ∷ inside.front)) ++ ((preorder c ++ inside.rest) ++ s.rest) = deeper_whole t values s.front (flat_map preorder (children t)) inside.front (preorder c ++ inside.rest) s.rest outer inside.whole in
    record {
      front = s.front ++ (t ∷ inside.front);
      rest = inside.rest ++ s.rest;
      whole = w ∙ ap (λ xs. (s.front ++ (t ∷ inside.front)) ++ xs) (append_assoc (preorder c) inside.rest s.rest);
      behind = omega (arith, length-append s.front (t ∷ inside.front), s.behind, inside.behind);
    }

stands_everywhere : (j t : Json) (k : ℕ) → tree_at j k ≡ Some t → Stands (preorder j) k t
stands_everywhere j t k h = subst (λ m. Stands (preorder j) m t) (zero-add k) (everywhere (λ m u. Stands (preorder j) m u) (λ m n u c s e. stands_child (preorder j) m n u c s e) (size j) 0 k j t (omega arith) (record { front = []; rest = []; whole = sym (append-nil (preorder j)); behind = refl }) h)

stands_there : (values : List Json) (k : ℕ) (t : Json) → Stands values k t → slice_get values k ≡ Some t
stands_there values k t s =
    let e : values ≡ s.front ++ (t ∷ (flat_map preorder (children t) ++ s.rest)) = s.whole ∙ ap (λ xs. s.front ++ (xs ++ s.rest)) (preorder_shape t) in
    rw (e, ← s.behind) (get_front s.front t (flat_map preorder (children t) ++ s.rest))

pub tree_child : (j t c : Json) (k n : ℕ) → tree_at j k ≡ Some t → slice_get (children t) n ≡ Some c → tree_at j (k + 1 + sizes n (children t)) ≡ Some c
tree_child j t c k n h e = stands_there (preorder j) (k + 1 + sizes n (children t)) c (stands_child (preorder j) k n t c (stands_everywhere j t k h) e)

-- a child is the value of its number
pub child_at : {doc : Doc} {k n m : ℕ} {t u : Json} → ChildAt doc k t n m u → At doc m u
child_at {doc} {k} {n} {m} {t} {u} c = record {
  tree = c.parent.tree;
  holds = c.parent.holds;
  there = subst (λ i. tree_at c.parent.tree i ≡ Some u) (sym c.place) (tree_child c.parent.tree t u k n c.parent.there c.child);
}

-- value 0 is the whole
pub root_at : (doc : Doc) (j : Json) → Holds doc j → At doc 0 j
root_at doc j h = record { tree = j; holds = h; there = ap (λ xs. slice_get xs 0) (preorder_shape j) }

-- an answer that gives a child gives the value
pub child_found : (doc : Doc) (k n : ℕ) (t : Json) (answer : Option ℕ) → FoundChild doc k t n answer → Found doc (slice_get (children t) n) answer
child_found doc k n t answer h = by (slice_get (children t) n) answer h
  where
    by : (o : Option Json) (answer : Option ℕ) → found_child doc k t n o answer → Found doc o answer
    by (Some u) (Some m) h = child_at h
    by None None h = tt
    by (Some u) None h = absurd h
    by None (Some m) h = absurd h
