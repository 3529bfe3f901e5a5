-- Where the name of a member stands.
use Rattle.std.proofs.Common.{◌≡◌, ℕ, zero, suc, ◌+◌, ◌≤◌, ◌<◌, false, List, [], ◌∷◌, ◌++◌, ◌==◌, get_or, ap, subst, arith, ◌∙◌}
use Rattle.std.specs.Prelude.{if◌then◌else◌}
use Rattle.json_text.specs.declared.kind.Kind.TheVariants as kind
use Rattle.json_nodes.specs.Texts.{IsStringAt, between, member_names}
use Rattle.json_nodes.proofs.Spelled.{name_inside}
use Rattle.capability_meet.specs.Compact.{name_text}
use Rattle.std.specs.Prelude.{Some}
use Rattle.std.specs.List.{slice_get}
use Rattle.std.proofs.lemmas.Bool.Decides.{nat_tests}
use Rattle.std.proofs.lemmas.Option.{get_or_from_slice_get}
use Rattle.json_text.specs.declared.span.Span.{Span}
use Rattle.json_text.specs.Json.{Json, object, Members, no_members, member}
use Rattle.json_nodes.specs.declared.node.Node.{Node}
use Rattle.json_nodes.specs.declared.node.Place.{Place}
use Rattle.json_nodes.specs.At.{ChildAt}
use Rattle.json_nodes.specs.Doc.{Doc}
use Rattle.json_nodes.specs.Nodes.{place_of, head_node}
use Rattle.json_nodes.specs.Same.{drop_members}
use Rattle.json_nodes.proofs.Looks.{Here, here_at, head_at}
use Rattle.json_nodes.proofs.Places.{PlacedChild, placed_named}
use Rattle.json_nodes.proofs.Tree.{child_places, members_children}

place_at : (ms : Members) (n : ℕ) (p : Span) (cs : List ℕ) (u : Json) (rest : Members) → drop_members n ms ≡ member p cs u rest → slice_get (child_places (members_children ms)) n ≡ Some (place_of p)
place_at no_members zero p cs u rest h = absurd (cc)
place_at no_members (suc n) p cs u rest h = absurd (cc)
place_at (member s ds j ms) zero p cs u rest h = let same : s ≡ p = cc in ap (λ (x : Span). Some (place_of x)) same
place_at (member s ds j ms) (suc n) p cs u rest h = place_at ms n p cs u rest h

abbrev place_span : Place → Span
place_span p = record { from = p.from; to = p.to }

same_place : (xs : List Place) (n : ℕ) (x y : Place) → slice_get xs n ≡ Some x → slice_get xs n ≡ Some y → x ≡ y
same_place xs n x y h g = cc

pub name_law : (doc : Doc) (k n m : ℕ) (s p : Span) (ms rest : Members) (cs : List ℕ) (u : Json) (d : Node) → ChildAt doc k (object s ms) n m u → drop_members n ms ≡ member p cs u rest → place_span (get_or doc.nodes m d).name ≡ p
name_law doc k n m s p ms rest cs u d c h =
    let x : Here doc.nodes k (object s ms) = here_at c.parent in
    let q : PlacedChild doc.nodes x.level k n (object s ms) m u = placed_named doc.nodes x.level k n (object s ms) u m x.placed c.child c.place in
    let node : get_or doc.nodes m d ≡ head_node (x.level + 1) m q.placed.name u = get_or_from_slice_get doc.nodes m (head_node (x.level + 1) m q.placed.name u) d (head_at doc.nodes (x.level + 1) m u q.placed) in
    let name : q.placed.name ≡ place_of p = same_place (child_places (members_children ms)) n q.placed.name (place_of p) q.named (place_at ms n p cs u rest h) in
    ap (λ (y : Node). place_span y.name) node ∙ ap place_span name

-- a member's name stands somewhere

named_at : (ms : Members) (n : ℕ) (p : Span) (cs : List ℕ) (u : Json) (rest : Members) → drop_members n ms ≡ member p cs u rest → slice_get (member_names ms) n ≡ Some cs
named_at no_members zero p cs u rest h = absurd (cc)
named_at no_members (suc n) p cs u rest h = absurd (cc)
named_at (member s ds j ms) zero p cs u rest h = let same : ds ≡ cs = cc in ap (λ x. Some x) same
named_at (member s ds j ms) (suc n) p cs u rest h = named_at ms n p cs u rest h

pub somewhere : (bs : List ℕ) (p : Span) (cs : List ℕ) → 0 < p.to → name_text bs p cs ≡ between p.from p.to bs
somewhere bs p cs h = let e : (p.to == 0) ≡ false = grind (arith, nat_tests) in ap (λ b. if b then 34 ∷ (cs ++ 34 ∷ []) else between p.from p.to bs) e

string_somewhere : (bs : List ℕ) (p : Span) (cs : List ℕ) → IsStringAt bs p cs → name_text bs p cs ≡ between p.from p.to bs
string_somewhere bs p cs a = let rises : p.from + 2 ≤ p.to = a.rises in somewhere bs p cs (omega arith)

pub name_text_is : (doc : Doc) (k n m : ℕ) (s p : Span) (ms rest : Members) (cs : List ℕ) (u : Json) → ChildAt doc k (object s ms) n m u → drop_members n ms ≡ member p cs u rest → name_text doc.bytes p cs ≡ between p.from p.to doc.bytes
name_text_is doc k n m s p ms rest cs u c h =
    let d : Node = record { kind = kind.Null; level = 0; from = 0; to = 0; after = 0; name = record { from = 0; to = 0 } } in
    let a : IsStringAt doc.bytes (place_span (get_or doc.nodes m d).name) cs = name_inside doc k n m (object s ms) u cs d c (named_at ms n p cs u rest h) in
    string_somewhere doc.bytes p cs (subst (λ (x : Span). IsStringAt doc.bytes x cs) (name_law doc k n m s p ms rest cs u d c h) a)
