-- Look-ups of values that may be absent.
use Rattle.std.proofs.Common.{◌≡◌, ℕ, zero, suc, ◌+◌, ◌≤◌, List, [], ◌∷◌, length, refl, sym, ◌∙◌, ap, subst, arith, add-one}
use Rattle.std.specs.Prelude.{Option, Some, None}
use Rattle.std.specs.List.{slice_get}
use Rattle.json_text.specs.Json.{Json}
use Rattle.json_text.specs.Named.{children}
use Rattle.json_nodes.specs.At.{ChildAt, Found, FoundChild, found_child}
use Rattle.json_nodes.specs.Doc.{Doc}
use Rattle.json_nodes.proofs.Bounds.{at_inside}
use Rattle.json_nodes.proofs.Members.{Follows, found_child_is, no_child}
use Rattle.json_nodes.proofs.Numbers.{child_at}

pub outside : (doc : Doc) (o : Option Json) (place : Option ℕ) (n k : ℕ) → place ≡ Some n → k ≡ length doc.nodes → k ≤ n → Found doc o place → ⊥
outside doc o place n k e f g h = go o (subst (λ z. Found doc o z) e h)
  where
    go : (o : Option Json) → Found doc o (Some n) → ⊥
    go (Some t) a = absurd (omega (arith, at_inside a))
    go None a = a

-- a child that may be there

pub child_found : (doc : Doc) (k n : ℕ) (t : Json) (place : Option ℕ) → FoundChild doc k t n place → Found doc (slice_get (children t) n) place
child_found doc k n t place h = go (slice_get (children t) n) place h
  where
    go : (o : Option Json) (place : Option ℕ) → found_child doc k t n o place → Found doc o place
    go (Some u) (Some m) c = child_at c
    go None None c = tt
    go (Some u) None c = c
    go None (Some m) c = c

none_next : (xs : List Json) (n : ℕ) → slice_get xs n ≡ None → slice_get xs (suc n) ≡ None
none_next [] n h = refl
none_next (x ∷ xs) zero h = absurd (cc)
none_next (x ∷ xs) (suc n) h = none_next xs n h

pub after_none : (doc : Doc) (k n : ℕ) (t : Json) (here answer : Option ℕ) → here ≡ None → answer ≡ None → FoundChild doc k t n here → FoundChild doc k t (n + 1) answer
after_none doc k n t here answer is gives h =
    let none : slice_get (children t) n ≡ None = no_child doc k n t (subst (λ o. FoundChild doc k t n o) is h) in
    let after : slice_get (children t) (n + 1) ≡ None = ap (λ i. slice_get (children t) i) (add-one n) ∙ none_next (children t) n none in
    subst (λ o. FoundChild doc k t (n + 1) o) (sym gives) (subst (λ o. found_child doc k t (n + 1) o None) (sym after) tt)

pub after_some : (doc : Doc) (k n m : ℕ) (t : Json) (here next : Option ℕ) → Some m ≡ here → Follows doc m next → FoundChild doc k t n here → FoundChild doc k t (n + 1) next
after_some doc k n m t here next is f h =
    let c : (u : Json) × ChildAt doc k t n m u = found_child_is doc k n m t (subst (λ o. FoundChild doc k t n o) (sym is) h) in
    f k n t c.0 c.1
