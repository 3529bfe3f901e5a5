-- What a caller learns of what a tape's methods find, and of a walk over the values in an array or an object.
use Rattle.std.proofs.Common.{◌≡◌, ℕ, zero, suc, ◌<◌, ◌≤◌, List, [], ◌∷◌, length, refl, ap, subst, arith, add-one}
use Rattle.std.specs.Prelude.{Option, Some, None, MatchOption, option_map}
use Rattle.std.specs.List.{slice_get}
use Rattle.std.proofs.lemmas.Option.{slice_get_within}
use Rattle.json_text.specs.Json.{Json}
use Rattle.json_text.specs.Named.{children}
use Rattle.json_text.proofs.Laws as laws
use Rattle.json_nodes.specs.At.{At, tree_at, Found, ChildAt, FoundChild}
use Rattle.json_nodes.specs.Doc.{Doc, Holds}
use Rattle.json_nodes.proofs.Members.{Follows, found_child_is, no_child}

-- a text has one tree, and one value of each number

pub one_tree : {doc : Doc} {j k : Json} → Holds doc j → Holds doc k → j ≡ k
one_tree {doc} {j} {k} h g = laws.one_tree doc.bytes j k h.text h.shallow g.text g.shallow

pub one_value : {doc : Doc} {k : ℕ} {t u : Json} → At doc k t → At doc k u → t ≡ u
one_value {doc} {k} {t} {u} a b = let same : a.tree ≡ b.tree = one_tree a.holds b.holds in
    let there : tree_at a.tree k ≡ Some t = a.there in
    let other : tree_at a.tree k ≡ Some u = rw same b.there in
    cc

-- what a look-up's answer says

pub found_value : (doc : Doc) (k : ℕ) (o : Option Json) → Found doc o (Some k) → (t : Json) × (o ≡ Some t) × At doc k t
found_value doc k (Some t) h = (t, refl, h)
found_value doc k None h = absurd h

pub found_nothing : (doc : Doc) (o : Option Json) → Found doc o None → o ≡ None
found_nothing doc (Some t) h = absurd h
found_nothing doc None h = refl

-- what the value that was found gives is what the tree's gives
pub found_gives : {A : Type 0} (doc : Doc) (k : ℕ) (o : Option Json) (f : Json → A) (x : A) → Found doc o (Some k) → ((t : Json) → At doc k t → x ≡ f t) → Some x ≡ option_map f o
found_gives doc k (Some t) f x h is = ap (λ y. Some y) (is t h)
found_gives doc k None f x h is = absurd h

-- a walk over the values in value k has come to this one; `Done t n` tells what the first n of them have given
pub record Walk (doc : Doc) (k : ℕ) (Done : Json → ℕ → Type 0) (next : Option ℕ) : Type 0 where
  pub inside : MatchOption next (Unit {0}) (λ m. m < length doc.nodes)
  pub stands : (t : Json) → At doc k t → (n : ℕ) × FoundChild doc k t n next × (n ≤ length (children t)) × Done t n

later_inside : (m n : ℕ) (next : Option ℕ) → MatchOption next (Unit {0}) (λ i. (m < i) × (i < n)) → MatchOption next (Unit {0}) (λ i. i < n)
later_inside m n None h = tt
later_inside m n (Some i) h = h.1

pub walk_starts : (doc : Doc) (k : ℕ) (Done : Json → ℕ → Type 0) (next : Option ℕ) → ((t : Json) → At doc k t → FoundChild doc k t 0 next) → MatchOption next (Unit {0}) (λ i. (k < i) × (i < length doc.nodes)) → ((t : Json) → At doc k t → Done t 0) → Walk doc k Done next
walk_starts doc k Done next first inside done = record {
  inside = later_inside k (length doc.nodes) next inside;
  stands = λ t a. (0, first t a, omega arith, done t a);
}

-- one more of them has given what it gives
pub walk_on : (doc : Doc) (k m : ℕ) (Before Done : Json → ℕ → Type 0) (here next : Option ℕ) → Walk doc k Before here → here ≡ Some m → Follows doc m next → MatchOption next (Unit {0}) (λ i. (m < i) × (i < length doc.nodes)) → ((t u : Json) (n : ℕ) → ChildAt doc k t n m u → Before t n → Done t (suc n)) → Walk doc k Done next
walk_on doc k m Before Done here next w e follows inside step = record {
  inside = later_inside m (length doc.nodes) next inside;
  stands = λ t a.
      let from : (n : ℕ) × FoundChild doc k t n here × (n ≤ length (children t)) × Before t n = w.stands t a in
      let child : (u : Json) × ChildAt doc k t from.0 m u = found_child_is doc k from.0 m t (subst (λ o. FoundChild doc k t from.0 o) e from.1) in
      let within : from.0 < length (children t) = slice_get_within (children t) from.0 child.0 child.1.child in
      (suc from.0, subst (λ i. FoundChild doc k t i next) (add-one from.0) (follows k from.0 t child.0 child.1), omega arith, step t child.0 from.0 child.1 from.3);
}

past_end : (js : List Json) (n : ℕ) → slice_get js n ≡ None → length js ≤ n
past_end [] n h = omega arith
past_end (j ∷ js) zero h = cc
past_end (j ∷ js) (suc n) h = omega (arith, past_end js n h)

-- all of them have
pub walk_ends : (doc : Doc) (k : ℕ) (Done : Json → ℕ → Type 0) (here : Option ℕ) → Walk doc k Done here → here ≡ None → (t : Json) → At doc k t → Done t (length (children t))
walk_ends doc k Done here w e t a =
    let from : (n : ℕ) × FoundChild doc k t n here × (n ≤ length (children t)) × Done t n = w.stands t a in
    let end : length (children t) ≤ from.0 = past_end (children t) from.0 (no_child doc k from.0 t (subst (λ o. FoundChild doc k t from.0 o) e from.1)) in
    let all : from.0 ≡ length (children t) = omega arith in
    subst (λ n. Done t n) all from.3
