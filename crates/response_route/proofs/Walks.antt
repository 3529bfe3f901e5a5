-- A walk over the documents of a result.
use Rattle.std.proofs.Common.{◌≡◌, ℕ, zero, suc, ◌<◌, ◌&&◌, Bool, true, false, List, [], ◌∷◌, ◌++◌, length, drop, flat_map, Option, Some, None, if◌then◌else◌, refl, sym, ◌∙◌, ap, ap₂, subst, subst₂, add-one, append_assoc, append-nil}
use Rattle.std.specs.Prelude.{MatchOption, nat_le}
use Rattle.std.specs.List.{slice_get}
use Rattle.json_text.specs.declared.span.Span.{Span}
use Rattle.json_text.specs.declared.kind.Kind.{Kind}
use Rattle.json_text.specs.declared.kind.Kind.TheVariants as kind
use Rattle.json_text.specs.declared.kind.Word.TheVariants.{Null, False, True}
use Rattle.json_text.specs.Json.{Json, word, number, string, array, object, Items, span_of}
use Rattle.json_text.specs.Named.{children}
use Rattle.json_nodes.specs.At.{At, Found, ChildAt, FoundChild}
use Rattle.json_nodes.specs.Doc.{Doc}
use Rattle.json_nodes.specs.Nodes.{kind_of}
use Rattle.json_nodes.proofs.Members.{Inside, Follows, found_child_is, no_child, inside_more}
use Rattle.json_nodes.proofs.Numbers.{child_at}
use Rattle.json_nodes.proofs.Sames.{array_of}
use Rattle.document_model.specs.doc_text.specs.Found.{Rest}
use Rattle.event_model.specs.Members.{has_version, listed}
use Rattle.response_route.specs.Edits.{versioned, action_documents, in_front, object_documents, documents_of}
use Rattle.response_route.specs.Reading.{Stand}

-- numbers of values

pub stand_both : (doc : Doc) (ns ms : List ℕ) (ts us : List Json) → Stand doc ns ts → Stand doc ms us → Stand doc (ns ++ ms) (ts ++ us)
stand_both doc [] ms [] us h g = g
stand_both doc (n ∷ ns) ms (t ∷ ts) us h g = (h.0, stand_both doc ns ms ts us h.1 g)
stand_both doc [] ms (t ∷ ts) us h g = absurd h
stand_both doc (n ∷ ns) ms [] us h g = absurd h

pub stand_none : (doc : Doc) (ns : List ℕ) (ts us : List Json) → us ≡ [] → Stand doc ns ts → Stand doc ns (ts ++ us)
stand_none doc ns ts us e h = subst (Stand doc ns) (sym (ap (λ z. ts ++ z) e ∙ append-nil ts)) h

pub stand_one : (doc : Doc) (n : ℕ) (t : Json) (ns new : List ℕ) (ts : List Json) (b : Bool) → b ≡ true → b ≡ has_version (Some t) → new ≡ ns ++ n ∷ [] → At doc n t → Stand doc ns ts → Stand doc new (ts ++ versioned (Some t))
stand_one doc n t ns new ts b e h g a s = subst₂ (λ y z. Stand doc y (ts ++ z)) (sym g) (ap (λ c. if c then t ∷ [] else []) (sym e ∙ h)) (stand_both doc ns (n ∷ []) ts (t ∷ []) s (a, tt))

pub stand_other : (doc : Doc) (t : Json) (ns : List ℕ) (ts : List Json) (b : Bool) → b ≡ false → b ≡ has_version (Some t) → Stand doc ns ts → Stand doc ns (ts ++ versioned (Some t))
stand_other doc t ns ts b e h s = stand_none doc ns ts (versioned (Some t)) (ap (λ c. if c then t ∷ [] else []) (sym h ∙ e)) s

-- a member that is there, and one that isn't

pub there : (doc : Doc) (P : List Json → Type 0) (f : Option Json → List Json) (o : Option Json) (n : ℕ) → Found doc o (Some n) → ((t : Json) → At doc n t → P (f (Some t))) → P (f o)
there doc P f (Some t) n h g = g t h
there doc P f None n h g = absurd h

pub member_absent : (doc : Doc) (f : Option Json → List Json) (ns : List ℕ) (ts : List Json) (o : Option Json) → f None ≡ [] → Found doc o None → Stand doc ns ts → Stand doc ns (ts ++ f o)
member_absent doc f ns ts None e h s = stand_none doc ns ts (f None) e s
member_absent doc f ns ts (Some t) e h s = absurd h

-- items that are left

drop_here : (xs : List Json) (n : ℕ) (x : Json) → slice_get xs n ≡ Some x → drop n xs ≡ x ∷ drop (suc n) xs
drop_here [] n x h = absurd (cc)
drop_here (y ∷ xs) zero x h = let same : y ≡ x = cc in ap (λ z. z ∷ xs) same
drop_here (y ∷ xs) (suc n) x h = drop_here xs n x h

drop_past : (xs : List Json) (n : ℕ) → slice_get xs n ≡ None → drop n xs ≡ []
drop_past [] zero h = refl
drop_past [] (suc n) h = refl
drop_past (y ∷ xs) zero h = absurd (cc)
drop_past (y ∷ xs) (suc n) h = drop_past xs n h

rest_first : (doc : Doc) (m : ℕ) (values : List Json) → Rest doc (Some m) values → (t : Json) × (more : List Json) × (values ≡ t ∷ more) × At doc m t
rest_first doc m values r =
    let c : (t : Json) × ChildAt doc r.parent r.tree r.count m t = found_child_is doc r.parent r.count m r.tree r.next in
    (c.0, drop (suc r.count) (children r.tree), sym r.are ∙ drop_here (children r.tree) r.count c.0 c.1.child, child_at c.1)

rest_ends : (doc : Doc) (values : List Json) → Rest doc None values → values ≡ []
rest_ends doc values r = sym r.are ∙ drop_past (children r.tree) r.count (no_child doc r.parent r.count r.tree r.next)

rest_next : (doc : Doc) (m : ℕ) (next : Option ℕ) (t : Json) (more : List Json) → Follows doc m next → Rest doc (Some m) (t ∷ more) → Rest doc next more
rest_next doc m next t more follows r =
    let c : (t : Json) × ChildAt doc r.parent r.tree r.count m t = found_child_is doc r.parent r.count m r.tree r.next in
    let here : t ∷ more ≡ c.0 ∷ drop (suc r.count) (children r.tree) = sym r.are ∙ drop_here (children r.tree) r.count c.0 c.1.child in
    record {
      parent = r.parent;
      tree = r.tree;
      count = suc r.count;
      next = subst (λ i. FoundChild doc r.parent r.tree i next) (add-one r.count) (follows r.parent r.count r.tree c.0 c.1);
      are = cc;
    }

-- in the middle of a walk: the documents that were taken in, and the items that are left
pub record Walking (f : Json → List Json) (doc : Doc) (first next : Option ℕ) (old now : List ℕ) : Type 0 where
  pub inside : Inside (length doc.nodes) next
  pub rest : (ts js : List Json) → Rest doc first ts → Stand doc old js → (left : List Json) × (done : List Json) × Rest doc next left × Stand doc now (js ++ done) × (flat_map f ts ≡ done ++ flat_map f left)

pub walk_starts : (f : Json → List Json) (doc : Doc) (first : Option ℕ) (old : List ℕ) → Inside (length doc.nodes) first → Walking f doc first first old old
walk_starts f doc first old h = record { inside = h; rest = λ ts js r s. (ts, [], r, stand_none doc old js [] refl s, refl) }

pub walk_on : (f : Json → List Json) (doc : Doc) (first here next : Option ℕ) (m : ℕ) (old now new : List ℕ) → Walking f doc first here old now → here ≡ Some m
    → ((t : Json) (js : List Json) → At doc m t → Stand doc now js → Stand doc new (js ++ f t)) → Follows doc m next → MatchOption next (Unit {0}) (λ i. (m < i) × (i < length doc.nodes)) → Walking f doc first next old new
walk_on f doc first here next m old now new w e told follows later = record {
  inside = inside_more (length doc.nodes) m next later;
  rest = λ ts js r s.
      let k = w.rest ts js r s in
      let l : Rest doc (Some m) k.0 = subst (λ z. Rest doc z k.0) e k.2 in
      let q : (t : Json) × (more : List Json) × (k.0 ≡ t ∷ more) × At doc m t = rest_first doc m k.0 l in (
        q.1,
        k.1 ++ f q.0,
        rest_next doc m next q.0 q.1 follows (subst (λ z. Rest doc (Some m) z) q.2 l),
        subst (Stand doc new) (append_assoc js k.1 (f q.0)) (told q.0 (js ++ k.1) q.3 k.3),
        k.4 ∙ ap (λ z. k.1 ++ flat_map f z) q.2 ∙ sym (append_assoc k.1 (f q.0) (flat_map f q.1)),
      );
}

pub walk_ends : (f : Json → List Json) (doc : Doc) (first here : Option ℕ) (old now : List ℕ) → Walking f doc first here old now → here ≡ None → (ts js : List Json) → Rest doc first ts → Stand doc old js → Stand doc now (js ++ flat_map f ts)
walk_ends f doc first here old now w e ts js r s =
    let k = w.rest ts js r s in
    let none : k.0 ≡ [] = rest_ends doc k.0 (subst (λ z. Rest doc z k.0) e k.2) in
    subst (λ z. Stand doc now (js ++ z)) (sym (k.4 ∙ ap (λ z. k.1 ++ flat_map f z) none ∙ append-nil k.1)) k.3

-- all items of an array, and of what is none
pub array_walked : (doc : Doc) (P : List Json → Type 0) (f : Json → List Json) (k : ℕ) (t : Json) (x : Kind) (first : Option ℕ) → x ≡ kind.Array → x ≡ kind_of t → FoundChild doc k t 0 first
    → ((ts : List Json) → Rest doc first ts → P (flat_map f ts)) → P (flat_map f (listed (Some t)))
array_walked doc P f k t x first e g c h =
    let q : (s : Span) × (is : Items) × (t ≡ array s is) = array_of t (sym g ∙ e) in
    let same : children t ≡ listed (Some t) = ap children q.2 ∙ sym (ap (λ z. listed (Some z)) q.2) in
    subst (λ z. P (flat_map f z)) same (h (children t) (record { parent = k; tree = t; count = 0; next = c; are = refl }))

pub not_walked : (doc : Doc) (f : Json → List Json) (t : Json) (x : Kind) (ns : List ℕ) (js : List Json) → (x ≡ kind.Array → ⊥) → x ≡ kind_of t → Stand doc ns js → Stand doc ns (js ++ flat_map f (listed (Some t)))
not_walked doc f (array s is) x ns js n e h = absurd (n e)
not_walked doc f (object s ms) x ns js n e h = stand_none doc ns js [] refl h
not_walked doc f (word s w) x ns js n e h = stand_none doc ns js [] refl h
not_walked doc f (number s ds) x ns js n e h = stand_none doc ns js [] refl h
not_walked doc f (string s cs) x ns js n e h = stand_none doc ns js [] refl h

-- what has a version

pub both_true : (a b x y : Bool) → x ≡ true → x ≡ a → y ≡ b → y ≡ (a && b)
both_true a b x y e f g = g ∙ sym (ap (λ z. z && b) (sym f ∙ e))

pub one_false : (a b x : Bool) → x ≡ false → x ≡ a → x ≡ (a && b)
one_false a b x e f = e ∙ sym (ap (λ z. z && b) (sym f ∙ e))

-- which of two members stands in front

pub both_there : (doc : Doc) (o p : Option Json) (m n : ℕ) (s r : Span) → Found doc o (Some m) → Found doc p (Some n) → ((t : Json) → At doc m t → s ≡ span_of t) → ((t : Json) → At doc n t → r ≡ span_of t) → nat_le s.to r.from ≡ in_front o p
both_there doc (Some j) (Some k) m n s r h g e f = ap₂ (λ (x : Span) (y : Span). nat_le x.to y.from) (e j h) (f k g)
both_there doc None p m n s r h g e f = absurd h
both_there doc (Some j) None m n s r h g e f = absurd g

pub second_absent : (doc : Doc) (o p : Option Json) (r : Option ℕ) → r ≡ None → Found doc p r → true ≡ in_front o p
second_absent doc (Some j) (Some k) r e h = absurd (subst (Found doc (Some k)) e h)
second_absent doc (Some j) None r e h = refl
second_absent doc None p r e h = refl

pub first_absent : (doc : Doc) (o p : Option Json) (r : Option ℕ) → r ≡ None → Found doc o r → true ≡ in_front o p
first_absent doc (Some j) p r e h = absurd (subst (Found doc (Some j)) e h)
first_absent doc None p r e h = refl

pub in_turn : (P : List Json → Type 0) (b x : Bool) (js ws us : List Json) → x ≡ true → x ≡ b → P ((js ++ ws) ++ us) → P (js ++ (if b then ws ++ us else us ++ ws))
in_turn P b x js ws us e f h = subst P (append_assoc js ws us ∙ ap (λ z. js ++ (if z then ws ++ us else us ++ ws)) (sym e ∙ f)) h

pub turned : (P : List Json → Type 0) (b x : Bool) (js ws us : List Json) → x ≡ false → x ≡ b → P ((js ++ us) ++ ws) → P (js ++ (if b then ws ++ us else us ++ ws))
turned P b x js ws us e f h = subst P (append_assoc js us ws ∙ ap (λ z. js ++ (if z then ws ++ us else us ++ ws)) (sym e ∙ f)) h

-- a result by its kind

pub of_object : (P : List Json → Type 0) (t : Json) (x : Kind) → x ≡ kind.Object → x ≡ kind_of t → P (object_documents t) → P (documents_of t)
of_object P (object s ms) x e f h = h
of_object P (array s js) x e f h = absurd (cc)
of_object P (word s Null) x e f h = absurd (cc)
of_object P (word s False) x e f h = absurd (cc)
of_object P (word s True) x e f h = absurd (cc)
of_object P (number s ds) x e f h = absurd (cc)
of_object P (string s cs) x e f h = absurd (cc)

pub of_array : (P : List Json → Type 0) (t : Json) (x : Kind) → x ≡ kind.Array → x ≡ kind_of t → P (flat_map action_documents (listed (Some t))) → P (documents_of t)
of_array P (array s js) x e f h = h
of_array P (object s ms) x e f h = absurd (cc)
of_array P (word s Null) x e f h = absurd (cc)
of_array P (word s False) x e f h = absurd (cc)
of_array P (word s True) x e f h = absurd (cc)
of_array P (number s ds) x e f h = absurd (cc)
of_array P (string s cs) x e f h = absurd (cc)

pub of_other : (doc : Doc) (t : Json) (x : Kind) (ns : List ℕ) (js : List Json) → (x ≡ kind.Object → ⊥) → (x ≡ kind.Array → ⊥) → x ≡ kind_of t → Stand doc ns js → Stand doc ns (js ++ documents_of t)
of_other doc (object s ms) x ns js n m e h = absurd (n e)
of_other doc (array s is) x ns js n m e h = absurd (m e)
of_other doc (word s w) x ns js n m e h = stand_none doc ns js [] refl h
of_other doc (number s ds) x ns js n m e h = stand_none doc ns js [] refl h
of_other doc (string s cs) x ns js n m e h = stand_none doc ns js [] refl h
