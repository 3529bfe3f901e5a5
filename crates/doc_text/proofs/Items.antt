-- A walk over the items of a list of changes.
use Rattle.std.proofs.Common.{◌≡◌, ℕ, zero, suc, ◌<◌, List, [], ◌∷◌, ◌++◌, length, drop, refl, sym, ◌∙◌, ap, subst, add-one, append_assoc, append-nil}
use Rattle.std.specs.Prelude.{Option, Some, None, Result, Err, MatchOption}
use Rattle.std.specs.List.{slice_get}
use Rattle.std.specs.Option.{option_map}
use Rattle.json_text.specs.declared.span.Span.{Span}
use Rattle.json_text.specs.declared.kind.Kind.{Kind}
use Rattle.json_text.specs.declared.kind.Kind.TheVariants as kind
use Rattle.json_text.specs.Json.{Json, array, Items}
use Rattle.json_text.specs.Named.{children}
use Rattle.json_span.specs.json_nodes.specs.At.{At, ChildAt, FoundChild}
use Rattle.json_span.specs.json_nodes.specs.Doc.{Doc}
use Rattle.json_span.specs.json_nodes.specs.Nodes.{kind_of}
use Rattle.json_span.specs.json_nodes.proofs.Members.{Inside, Follows, found_child_is, no_child, inside_more}
use Rattle.json_span.specs.json_nodes.proofs.Numbers.{child_at}
use Rattle.json_span.specs.json_nodes.proofs.Sames.{array_of}
use Rattle.doc_text.specs.declared.change.ContentChange.{ContentChange}
use Rattle.doc_text.specs.declared.fault.ChangeFault.{ChangeFault}
use Rattle.doc_text.specs.declared.fault.ChangeFault.TheVariants.{BadShape, Memory}
use Rattle.doc_text.specs.Changes.{both, change_of, all_changes, changes_of}
use Rattle.doc_text.specs.Found.{Gives, Rest}

drop_here : (xs : List Json) (n : ℕ) (x : Json) → slice_get xs n ≡ Some x → drop n xs ≡ x ∷ drop (suc n) xs
drop_here [] n x h = absurd (cc)
drop_here (y ∷ xs) zero x h = let same : y ≡ x = cc in ap (λ z. z ∷ xs) same
drop_here (y ∷ xs) (suc n) x h = drop_here xs n x h

drop_past : (xs : List Json) (n : ℕ) → slice_get xs n ≡ None → drop n xs ≡ []
drop_past [] zero h = refl
drop_past [] (suc n) h = refl
drop_past (y ∷ xs) zero h = absurd (cc)
drop_past (y ∷ xs) (suc n) h = drop_past xs n h

-- the next one is there
rest_first : (doc : Doc) (m : ℕ) (values : List Json) → Rest doc (Some m) values → (t : Json) × (more : List Json) × (values ≡ t ∷ more) × At doc m t
rest_first doc m values r =
    let c : (t : Json) × ChildAt doc r.parent r.tree r.count m t = found_child_is doc r.parent r.count m r.tree r.next in
    (c.0, drop (suc r.count) (children r.tree), sym r.are ∙ drop_here (children r.tree) r.count c.0 c.1.child, child_at c.1)

-- none is left
rest_ends : (doc : Doc) (values : List Json) → Rest doc None values → values ≡ []
rest_ends doc values r = sym r.are ∙ drop_past (children r.tree) r.count (no_child doc r.parent r.count r.tree r.next)

rest_next : (doc : Doc) (m : ℕ) (next : Option ℕ) (t : Json) (more : List Json) → Follows doc m next → Rest doc (Some m) (t ∷ more) → Rest doc next more
rest_next doc m next t more follows r =
    let c : (t : Json) × ChildAt doc r.parent r.tree r.count m t = found_child_is doc r.parent r.count m r.tree r.next in
    let here : t ∷ more ≡ c.0 ∷ drop (suc r.count) (children r.tree) = sym r.are ∙ drop_here (children r.tree) r.count c.0 c.1.child in
    record {
      parent = r.parent;
      tree = r.tree;
      count = suc r.count;
      next = subst (λ i. FoundChild doc r.parent r.tree i next) (add-one r.count) (follows r.parent r.count r.tree c.0 c.1);
      are = cc;
    }

-- in the middle of a walk: the changes that were read, and those of the items that are left
pub record ReadSoFar (doc : Doc) (first next : Option ℕ) (done : List ContentChange) : Type 0 where
  pub inside : Inside (length doc.nodes) next
  pub rest : (ts : List Json) → Rest doc first ts → (left : List Json) × Rest doc next left × (all_changes ts ≡ option_map (λ cs. done ++ cs) (all_changes left))

no_more : (o : Option (List ContentChange)) → o ≡ option_map (λ cs. [] ++ cs) o
no_more None = refl
no_more (Some cs) = refl

pub read_starts : (doc : Doc) (first : Option ℕ) → Inside (length doc.nodes) first → ReadSoFar doc first first []
read_starts doc first h = record { inside = h; rest = λ ts r. (ts, r, no_more (all_changes ts)) }

one_more : (done : List ContentChange) (c : ContentChange) (o : Option (List ContentChange)) → option_map (λ cs. done ++ cs) (both (λ c cs. c ∷ cs) (Some c) o) ≡ option_map (λ cs. (done ++ c ∷ []) ++ cs) o
one_more done c None = refl
one_more done c (Some cs) = ap Some (sym (append_assoc done (c ∷ []) cs))

-- the item that is next
record Here (doc : Doc) (first : Option ℕ) (m : ℕ) (done : List ContentChange) (ts : List Json) : Type 0 where
  item : Json
  more : List Json
  there : At doc m item
  left : Rest doc (Some m) (item ∷ more)
  all : all_changes ts ≡ option_map (λ cs. done ++ cs) (all_changes (item ∷ more))

here : (doc : Doc) (first next : Option ℕ) (m : ℕ) (done : List ContentChange) → ReadSoFar doc first next done → next ≡ Some m → (ts : List Json) → Rest doc first ts → Here doc first m done ts
here doc first next m done w e ts r =
    let k : (left : List Json) × Rest doc next left × (all_changes ts ≡ option_map (λ cs. done ++ cs) (all_changes left)) = w.rest ts r in
    let l : Rest doc (Some m) k.0 = subst (λ z. Rest doc z k.0) e k.1 in
    let q : (t : Json) × (more : List Json) × (k.0 ≡ t ∷ more) × At doc m t = rest_first doc m k.0 l in
    record { item = q.0; more = q.1; there = q.3; left = subst (λ z. Rest doc (Some m) z) q.2 l; all = k.2 ∙ ap (λ z. option_map (λ cs. done ++ cs) (all_changes z)) q.2 }

pub read_on : (doc : Doc) (first now next : Option ℕ) (m : ℕ) (done : List ContentChange) (c : ContentChange) → ReadSoFar doc first now done → now ≡ Some m → ((t : Json) → At doc m t → change_of t ≡ Some c)
    → Follows doc m next → MatchOption next (Unit {0}) (λ i. (m < i) × (i < length doc.nodes)) → ReadSoFar doc first next (done ++ c ∷ [])
read_on doc first now next m done c w e told follows later = record {
  inside = inside_more (length doc.nodes) m next later;
  rest = λ ts r.
      let h : Here doc first m done ts = here doc first now m done w e ts r in (
        h.more,
        rest_next doc m next h.item h.more follows h.left,
        h.all ∙ ap (λ o. option_map (λ cs. done ++ cs) (both (λ c cs. c ∷ cs) o (all_changes h.more))) (told h.item h.there) ∙ one_more done c (all_changes h.more),
      );
}

pub read_fails : {B : Type 0} (f : B → List ContentChange) (doc : Doc) (first now : Option ℕ) (m : ℕ) (done : List ContentChange) (fault : ChangeFault) → ReadSoFar doc first now done → now ≡ Some m
    → ((t : Json) → At doc m t → Gives {A = ContentChange} (λ c. c) (Err fault) (change_of t)) → (ts : List Json) → Rest doc first ts → Gives f (Err fault) (all_changes ts)
read_fails f doc first now m done Memory w e told ts r = tt
read_fails f doc first now m done BadShape w e told ts r =
    let h : Here doc first m done ts = here doc first now m done w e ts r in
    h.all ∙ ap (λ o. option_map (λ cs. done ++ cs) (both (λ c cs. c ∷ cs) o (all_changes h.more))) (told h.item h.there)

pub read_ends : (doc : Doc) (first now : Option ℕ) (done : List ContentChange) → ReadSoFar doc first now done → now ≡ None → (ts : List Json) → Rest doc first ts → all_changes ts ≡ Some done
read_ends doc first now done w e ts r =
    let k : (left : List Json) × Rest doc now left × (all_changes ts ≡ option_map (λ cs. done ++ cs) (all_changes left)) = w.rest ts r in
    let none : k.0 ≡ [] = rest_ends doc k.0 (subst (λ z. Rest doc z k.0) e k.1) in
    k.2 ∙ ap (λ z. option_map (λ cs. done ++ cs) (all_changes z)) none ∙ ap Some (append-nil done)

-- all items of an array
pub rest_of : (doc : Doc) (k : ℕ) (t : Json) (first : Option ℕ) → FoundChild doc k t 0 first → Rest doc first (children t)
rest_of doc k t first h = record { parent = k; tree = t; count = 0; next = h; are = refl }

pub array_given : {B : Type 0} (f : B → List ContentChange) (t : Json) (x : Kind) (r : Result B ChangeFault) → x ≡ kind.Array → x ≡ kind_of t → Gives f r (all_changes (children t)) → Gives f r (changes_of t)
array_given f t x r e g h = let q : (s : Span) × (js : Items) × (t ≡ array s js) = array_of t (sym g ∙ e) in
    subst (λ z. Gives f r (changes_of z)) (sym q.2) (subst (λ z. Gives f r (all_changes (children z))) q.2 h)
