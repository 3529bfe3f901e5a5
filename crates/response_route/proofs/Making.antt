-- The changes of documents, one behind the other.
use Rattle.std.proofs.Common.{◌≡◌, ℕ, zero, suc, ◌+◌, ◌<◌, ◌≤◌, List, [], ◌∷◌, ◌++◌, Vec, Global, length, drop, bytes_eq, codes, if◌then◌else◌, Option, Some, None, option_map, get_or, refl, sym, ◌∙◌, ap, subst, subst₂, add-one, append_assoc, append-nil, arith}
use Rattle.std.specs.Prelude.{Result, Err}
use Rattle.std.specs.Option.{option_and_then}
use Rattle.std.specs.Str.{chars}
use Rattle.json_text.specs.Changes.{edits_of}
use Rattle.json_text.specs.declared.kind.Kind.{Kind}
use Rattle.json_text.specs.declared.kind.Kind.TheVariants as kind
use Rattle.json_text.specs.declared.span.Span.{Span}
use Rattle.json_text.specs.Json.{Json, number, value, span_of}
use Rattle.json_text.specs.Replace.{Edit}
use Rattle.json_text.specs.declared.change.Change.{Change}
use Rattle.json_nodes.specs.At.{At, Found}
use Rattle.json_nodes.specs.Doc.{Doc}
use Rattle.json_nodes.specs.Nodes.{kind_of}
use Rattle.json_nodes.specs.Puts.{put_edits}
use Rattle.json_nodes.proofs.Sames.{number_of}
use Rattle.rpc_message.specs.Message.{is_integer}
use Rattle.document_model.specs.Notices.{integer_text, new_version}
use Rattle.response_route.specs.Edits.{Renaming, all_edits, document_edits, joined, renamed}
use Rattle.response_route.specs.Reading.{Extends, Gives, Stand}
use Rattle.response_route.specs.Versions.{Means}
use Rattle.response_route.specs.declared.fault.EditFault.{EditFault}
use Rattle.response_route.specs.declared.fault.EditFault.TheVariants.{Modified, Memory}
use Rattle.response_route.specs.declared.mapping.Mapping.{Mapping}

-- the changes of documents that were made, and the documents that are left
pub record MadeSoFar (m : Mapping) (doc : Doc) (documents : List ℕ) (i : ℕ) (made : List Edit) : Type 0 where
  pub rest : (r : Renaming) (js : List Json) → Means m r → Stand doc documents js → (left : List Json) × Stand doc (drop i documents) left × (all_edits r js ≡ option_map (λ es. made ++ es) (all_edits r left))

no_more : (o : Option (List Edit)) → o ≡ option_map (λ es. [] ++ es) o
no_more None = refl
no_more (Some es) = refl

pub made_starts : (m : Mapping) (doc : Doc) (documents : List ℕ) → MadeSoFar m doc documents 0 []
made_starts m doc documents = record { rest = λ r js mean s. (js, s, no_more (all_edits r js)) }

drop_here : (xs : List ℕ) (n x : ℕ) → n < length xs → get_or xs n 0 ≡ x → drop n xs ≡ x ∷ drop (n + 1) xs
drop_here xs n x l h = go xs n l h ∙ ap (λ k. x ∷ drop k xs) (sym (add-one n))
  where
    go : (xs : List ℕ) (n : ℕ) → n < length xs → get_or xs n 0 ≡ x → drop n xs ≡ x ∷ drop (suc n) xs
    go [] n l h = absurd (omega (arith, l))
    go (y ∷ ys) zero l h = ap (λ z. z ∷ ys) h
    go (y ∷ ys) (suc n) l h = go ys n (omega (arith, l)) h

one_more : (made new : List Edit) (o p : Option (List Edit)) → option_map (λ es. made ++ es) o ≡ Some new → option_map (λ es. made ++ es) (joined o p) ≡ option_map (λ es. new ++ es) p
one_more made new None p e = absurd (cc)
one_more made new (Some es) None e = refl
one_more made new (Some es) (Some fs) e = let same : made ++ es ≡ new = cc in ap Some (sym (append_assoc made es fs) ∙ ap (λ z. z ++ fs) same)

-- the document that is next
record Here (m : Mapping) (r : Renaming) (doc : Doc) (documents : List ℕ) (i n : ℕ) (made : List Edit) (js : List Json) : Type 0 where
  item : Json
  more : List Json
  there : At doc n item
  left : Stand doc (drop (i + 1) documents) more
  all : all_edits r js ≡ option_map (λ es. made ++ es) (joined (document_edits r item) (all_edits r more))

here : (m : Mapping) (r : Renaming) (doc : Doc) (documents : List ℕ) (i n : ℕ) (made : List Edit) (js : List Json) → MadeSoFar m doc documents i made → i < length documents → get_or documents i 0 ≡ n → Means m r → Stand doc documents js → Here m r doc documents i n made js
here m r doc documents i n made js w low at mean s =
    let k = w.rest r js mean s in
    go k.0 (subst (λ z. Stand doc z k.0) (drop_here documents i n low at) k.1) k.2
  where
    go : (left : List Json) → Stand doc (n ∷ drop (i + 1) documents) left → all_edits r js ≡ option_map (λ es. made ++ es) (all_edits r left) → Here m r doc documents i n made js
    go (t ∷ ts) h e = record { item = t; more = ts; there = h.0; left = h.1; all = e }
    go [] h e = absurd h

pub made_on : (m : Mapping) (doc : Doc) (documents : List ℕ) (i n : ℕ) (made new : List Edit) → MadeSoFar m doc documents i made → i < length documents → get_or documents i 0 ≡ n
    → ((r : Renaming) (t : Json) → Means m r → At doc n t → option_map (λ es. made ++ es) (document_edits r t) ≡ Some new) → MadeSoFar m doc documents (i + 1) new
made_on m doc documents i n made new w low at told = record {
  rest = λ r js mean s.
      let h : Here m r doc documents i n made js = here m r doc documents i n made js w low at mean s in
      (h.more, h.left, h.all ∙ one_more made new (document_edits r h.item) (all_edits r h.more) (told r h.item mean h.there));
}

joined_none : (o p : Option (List Edit)) (made : List Edit) → o ≡ None → option_map (λ es. made ++ es) (joined o p) ≡ None
joined_none None p made e = refl
joined_none (Some es) p made e = absurd (cc)

pub made_fails : (m : Mapping) (doc : Doc) (documents : List ℕ) (i n : ℕ) (made : List Edit) → MadeSoFar m doc documents i made → i < length documents → get_or documents i 0 ≡ n
    → (r : Renaming) → ((t : Json) → Means m r → At doc n t → document_edits r t ≡ None) → (js : List Json) → Means m r → Stand doc documents js → all_edits r js ≡ None
made_fails m doc documents i n made w low at r told js mean s =
    let h : Here m r doc documents i n made js = here m r doc documents i n made js w low at mean s in
    h.all ∙ joined_none (document_edits r h.item) (all_edits r h.more) made (told h.item mean h.there)

drop_all : (xs : List ℕ) (n : ℕ) → length xs ≤ n → drop n xs ≡ []
drop_all [] zero e = refl
drop_all [] (suc n) e = refl
drop_all (x ∷ xs) zero e = absurd (omega (arith, e))
drop_all (x ∷ xs) (suc n) e = drop_all xs n (omega (arith, e))

pub made_ends : (m : Mapping) (doc : Doc) (documents : List ℕ) (i : ℕ) (made : List Edit) → MadeSoFar m doc documents i made → length documents ≤ i → (r : Renaming) (js : List Json) → Means m r → Stand doc documents js
    → all_edits r js ≡ Some made
made_ends m doc documents i made w e r js mean s =
    let k = w.rest r js mean s in
    k.2 ∙ go k.0 (subst (λ z. Stand doc z k.0) (drop_all documents i e) k.1)
  where
    go : (left : List Json) → Stand doc [] left → option_map (λ es. made ++ es) (all_edits r left) ≡ Some made
    go [] h = ap Some (append-nil made)
    go (t ∷ ts) h = absurd h

-- changes put behind others

pub edits_both : (cs ds : List Change) → edits_of (cs ++ ds) ≡ edits_of cs ++ edits_of ds
edits_both [] ds = refl
edits_both (c ∷ cs) ds = ap (λ es. record { span = c.span; text = c.text } ∷ es) (edits_both cs ds)

pub extended : (cs ds new : List Change) (o : Option (List Edit)) → o ≡ Some (edits_of ds) → new ≡ cs ++ ds → option_map (λ es. edits_of cs ++ es) o ≡ Some (edits_of new)
extended cs ds new o e n = ap (option_map (λ es. edits_of cs ++ es)) e ∙ ap Some (sym (edits_both cs ds) ∙ ap edits_of (sym n))

-- one document

pub version_edits : (text : List ℕ) (t : Json) → put_edits (λ cs. if bytes_eq (chars (codes "version")) cs then Some text else None) t ≡ put_edits (new_version text) t
unfolding chars
version_edits text t = refl

pub renamed_is : (result : Result (Vec Change Global) EditFault) (r : Renaming) (t : Json) (u d : List ℕ) (o p x : Option (List ℕ)) → Some u ≡ o → Some d ≡ p → x ≡ r u d
    → Gives result (option_map (λ text. put_edits (new_version text) t) x) → Gives result (renamed r t o p)
renamed_is result r t u d o p x e f h g = subst₂ (λ y z. Gives result (renamed r t y z)) e f (subst (λ z. Gives result (option_map (λ text. put_edits (new_version text) t) z)) h g)

pub no_uri : (r : Renaming) (t : Json) (o p : Option (List ℕ)) (cs : List Change) → None ≡ o → cs ≡ [] → renamed r t o p ≡ Some (edits_of cs)
no_uri r t o p cs e f = ap (λ z. renamed r t z p) (sym e) ∙ ap (λ z. Some (edits_of z)) (sym f)

pub no_version : (r : Renaming) (t : Json) (o p : Option (List ℕ)) (cs : List Change) → None ≡ p → cs ≡ [] → renamed r t o p ≡ Some (edits_of cs)
no_version r t o p cs e f = ap (λ z. renamed r t o z) (sym e) ∙ go o ∙ ap (λ z. Some (edits_of z)) (sym f)
  where
    go : (o : Option (List ℕ)) → renamed r t o None ≡ Some []
    go (Some u) = refl
    go None = refl

-- an integer

number_told : (t : Json) (x : Kind) (at : ℕ) (w : List ℕ) (r : Option (List ℕ)) → x ≡ kind.Number → x ≡ kind_of t → value t at w → r ≡ (if is_integer w then Some w else None) → r ≡ integer_text t
number_told t x at w r e f v h = let k : (s : Span) × (ds : List ℕ) × (t ≡ number s ds) = number_of t (sym f ∙ e) in go k.0 k.1 k.2
  where
    go : (s : Span) (ds : List ℕ) → t ≡ number s ds → r ≡ integer_text t
    go s ds g = let spelled : value (number s ds) at w = subst (λ z. value z at w) g v in
        h ∙ ap (λ (z : List ℕ). if is_integer z then Some z else None) spelled.0.0 ∙ sym (ap integer_text g)

pub integer_found : (doc d : Doc) (o : Option Json) (n : ℕ) (x : Kind) (w : List ℕ) (r : Option (List ℕ)) → x ≡ kind.Number → d ≡ doc → ((t : Json) → At doc n t → x ≡ kind_of t)
    → ((t : Json) → At d n t → value t (span_of t).from w) → r ≡ (if is_integer w then Some w else None) → Found doc o (Some n) → r ≡ option_and_then integer_text o
integer_found doc d (Some t) n x w r e same told text h a = number_told t x (span_of t).from w r e (told t a) (text t (subst (λ z. At z n t) (sym same) a)) h
integer_found doc d None n x w r e same told text h a = absurd a

-- refusals

pub extends_err : (fault : EditFault) (old new : List Edit) (o : Option (List Edit)) → Gives (Err fault) o → Extends (Err fault) old new o
extends_err Modified old new o h = h
extends_err Memory old new o h = tt

pub made_err : (m : Mapping) (doc : Doc) (documents : List ℕ) (i n : ℕ) (made : List Edit) (fault : EditFault) → MadeSoFar m doc documents i made → i < length documents → get_or documents i 0 ≡ n
    → (new : List Edit) → ((r : Renaming) (t : Json) → Means m r → At doc n t → Extends (Err fault) made new (document_edits r t)) → (r : Renaming) (js : List Json) → Means m r → Stand doc documents js → Gives (Err fault) (all_edits r js)
made_err m doc documents i n made Modified w low at new told r js mean s = made_fails m doc documents i n made w low at r (λ t mean a. told r t mean a) js mean s
made_err m doc documents i n made Memory w low at new told r js mean s = tt

pub within_none : (o : Option ℕ) (n : ℕ) → o ≡ None → o ≡ Some n → ⊥
within_none o n e f = clash (sym e ∙ f)
  where
    clash : ◌≡◌ {A = Option ℕ} None (Some n) → ⊥
    clash h = cc

pub within_same : (o : Option ℕ) (n m : ℕ) → o ≡ Some n → o ≡ Some m → n ≡ m
within_same o n m e f = same (sym e ∙ f)
  where
    same : ◌≡◌ {A = Option ℕ} (Some n) (Some m) → n ≡ m
    same h = cc
