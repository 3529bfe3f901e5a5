-- A walk over the values in an array or an object.
use Rattle.std.proofs.Common.{◌≡◌, ℕ, zero, suc, ◌<◌, true, false, List, [], ◌∷◌, length, drop, refl, sym, ◌∙◌, ap, subst, add-one}
use Rattle.std.specs.Prelude.{Option, Some, None, MatchOption}
use Rattle.std.specs.List.{slice_get}
use Rattle.json_text.specs.declared.kind.Word.TheVariants.{Null}
use Rattle.json_text.specs.Bare.{nowhere}
use Rattle.json_text.specs.Json.{Json, word, number, string, array, object}
use Rattle.json_text.specs.Named.{children}
use Rattle.json_nodes.specs.At.{At, Found, ChildAt, FoundChild}
use Rattle.json_nodes.specs.Doc.{Doc}
use Rattle.json_nodes.proofs.Bounds.{at_inside}
use Rattle.json_nodes.proofs.Members.{Inside, Follows, found_child_is, no_child, inside_more}
use Rattle.json_nodes.proofs.Numbers.{child_at}
use Rattle.mux_model.specs.event_model.specs.Members.{listed}
use Rattle.mux_members.specs.Finds.{Rest, values_of, is_array_value}

-- lists from one place on

drop_here : (xs : List Json) (n : ℕ) (x : Json) → slice_get xs n ≡ Some x → drop n xs ≡ x ∷ drop (suc n) xs
drop_here [] n x h = absurd (cc)
drop_here (y ∷ xs) zero x h = let same : y ≡ x = cc in ap (λ z. z ∷ xs) same
drop_here (y ∷ xs) (suc n) x h = drop_here xs n x h

drop_past : (xs : List Json) (n : ℕ) → slice_get xs n ≡ None → drop n xs ≡ []
drop_past [] zero h = refl
drop_past [] (suc n) h = refl
drop_past (y ∷ xs) zero h = absurd (cc)
drop_past (y ∷ xs) (suc n) h = drop_past xs n h

-- what is left

pub rest_none : (doc : Doc) (values : List Json) → values ≡ [] → Rest doc None values
rest_none doc values e = record { parent = 0; tree = word nowhere Null; count = 0; next = tt; are = sym e }

pub rest_absent : (doc : Doc) (o : Option Json) (place inside answer : Option ℕ) → Found doc o place → inside ≡ place → inside ≡ None → answer ≡ None → Rest doc answer (values_of o)
rest_absent doc o place inside answer f same e is = subst (λ z. Rest doc z (values_of o)) (sym is) (rest_none doc (values_of o) (go o (subst (λ z. Found doc o z) (sym same ∙ e) f)))
  where
    go : (o : Option Json) → Found doc o None → values_of o ≡ []
    go None f = refl
    go (Some t) f = absurd f

-- the next one is there
pub rest_first : (doc : Doc) (m : ℕ) (values : List Json) → Rest doc (Some m) values → (t : Json) × (more : List Json) × (values ≡ t ∷ more) × At doc m t
rest_first doc m values r =
    let c : (t : Json) × ChildAt doc r.parent r.tree r.count m t = found_child_is doc r.parent r.count m r.tree r.next in
    (c.0, drop (suc r.count) (children r.tree), sym r.are ∙ drop_here (children r.tree) r.count c.0 c.1.child, child_at c.1)

pub rest_inside : (doc : Doc) (m : ℕ) (values : List Json) → Rest doc (Some m) values → m < length doc.nodes
rest_inside doc m values r = at_inside (rest_first doc m values r).3

-- none is left
pub rest_ends : (doc : Doc) (values : List Json) → Rest doc None values → values ≡ []
rest_ends doc values r = sym r.are ∙ drop_past (children r.tree) r.count (no_child doc r.parent r.count r.tree r.next)

pub rest_next : (doc : Doc) (m : ℕ) (next : Option ℕ) (t : Json) (more : List Json) → Follows doc m next → Rest doc (Some m) (t ∷ more) → Rest doc next more
rest_next doc m next t more follows r =
    let c : (t : Json) × ChildAt doc r.parent r.tree r.count m t = found_child_is doc r.parent r.count m r.tree r.next in
    let here : t ∷ more ≡ c.0 ∷ drop (suc r.count) (children r.tree) = sym r.are ∙ drop_here (children r.tree) r.count c.0 c.1.child in
    record {
      parent = r.parent;
      tree = r.tree;
      count = suc r.count;
      next = subst (λ i. FoundChild doc r.parent r.tree i next) (add-one r.count) (follows r.parent r.count r.tree c.0 c.1);
      are = cc;
    }

-- the items of what is an array, and of what isn't

pub array_listed : (o : Option Json) → is_array_value o ≡ true → values_of o ≡ listed o
array_listed (Some (array s js)) e = refl
array_listed (Some (word s w)) e = absurd (cc)
array_listed (Some (number s ds)) e = absurd (cc)
array_listed (Some (string s cs)) e = absurd (cc)
array_listed (Some (object s ms)) e = absurd (cc)
array_listed None e = absurd (cc)

pub other_listed : (o : Option Json) → is_array_value o ≡ false → listed o ≡ []
other_listed (Some (array s js)) e = absurd (cc)
other_listed (Some (word s w)) e = refl
other_listed (Some (number s ds)) e = refl
other_listed (Some (string s cs)) e = refl
other_listed (Some (object s ms)) e = refl
other_listed None e = refl

-- an object without members

-- in the middle of a walk over the items of a list: what f gives for all of them is what it gives for those that are left
pub record Walking {A : Type 0} (doc : Doc) (list : Option ℕ) (f : List Json → A) (next : Option ℕ) : Type 0 where
  pub inside : Inside (length doc.nodes) next
  pub rest : (o : Option Json) → Found doc o list → (left : List Json) × Rest doc next left × (f (listed o) ≡ f left)

module _ {A : Type 0} (doc : Doc) (list : Option ℕ) (f : List Json → A) where
  pub walking_starts : (next : Option ℕ) → Inside (length doc.nodes) next → ((o : Option Json) → Found doc o list → Rest doc next (listed o)) → Walking doc list f next
  walking_starts next inside first = record { inside = inside; rest = λ o h. (listed o, first o h, refl) }

  -- the next item, and the walk behind it
  pub walking_on : (here next : Option ℕ) (m : ℕ) → Walking doc list f here → here ≡ Some m → ((t : Json) (more : List Json) → Rest doc (Some m) (t ∷ more) → Rest doc next more)
      → MatchOption next (Unit {0}) (λ i. (m < i) × (i < length doc.nodes)) → ((t : Json) (more : List Json) → At doc m t → f (t ∷ more) ≡ f more) → Walking doc list f next
  walking_on here next m w e follows later same = record {
    inside = inside_more (length doc.nodes) m next later;
    rest = λ o h.
        let k : (left : List Json) × Rest doc here left × (f (listed o) ≡ f left) = w.rest o h in
        let r : Rest doc (Some m) k.0 = subst (λ z. Rest doc z k.0) e k.1 in
        let q : (t : Json) × (more : List Json) × (k.0 ≡ t ∷ more) × At doc m t = rest_first doc m k.0 r in
        (q.1, follows q.0 q.1 (subst (λ z. Rest doc (Some m) z) q.2 r), k.2 ∙ ap f q.2 ∙ same q.0 q.1 q.3);
  }

  -- what the next item decides
  pub walking_here : (P : A → Type 0) (here : Option ℕ) (m : ℕ) → Walking doc list f here → here ≡ Some m → ((t : Json) (more : List Json) → At doc m t → P (f (t ∷ more))) → (o : Option Json) → Found doc o list → P (f (listed o))
  walking_here P here m w e tell o h =
      let k : (left : List Json) × Rest doc here left × (f (listed o) ≡ f left) = w.rest o h in
      let r : Rest doc (Some m) k.0 = subst (λ z. Rest doc z k.0) e k.1 in
      let q : (t : Json) × (more : List Json) × (k.0 ≡ t ∷ more) × At doc m t = rest_first doc m k.0 r in
      subst P (sym (k.2 ∙ ap f q.2)) (tell q.0 q.1 q.3)

  pub walking_ends : (P : A → Type 0) (here : Option ℕ) → Walking doc list f here → here ≡ None → P (f []) → (o : Option Json) → Found doc o list → P (f (listed o))
  walking_ends P here w e none o h =
      let k : (left : List Json) × Rest doc here left × (f (listed o) ≡ f left) = w.rest o h in
      subst P (sym (k.2 ∙ ap f (rest_ends doc k.0 (subst (λ z. Rest doc z k.0) e k.1)))) none
