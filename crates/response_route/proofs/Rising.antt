-- The documents of a result, or of params, stand one behind the other, and so do the edits in them.
use Rattle.std.proofs.Common.{◌≡◌, ◌⊎◌, ℕ, ◌+◌, ◌-◌, ◌≤◌, Bool, true, false, List, [], ◌∷◌, ◌++◌, length, length-append, take, drop, flat_map, bytes_eq, Option, Some, None, codes, if◌then◌else◌, inl, inr, refl, sym, ◌∙◌, ap, subst, arith}
use Rattle.std.specs.Prelude.{nat_le}
use Rattle.std.specs.Option.{option_and_then, option_map}
use Rattle.std.proofs.lemmas.Bool.{le-leb}
use Rattle.json_text.specs.declared.span.Span.{Span}
use Rattle.json_text.specs.Json.{Json, word, number, string, array, object, Items, no_items, item, Members, value, items, more_items, span_of}
use Rattle.json_text.specs.Named.{items_list, named, named_in}
use Rattle.json_text.specs.Paths.{key, value_at}
use Rattle.json_text.specs.Replace.{Edit, RiseFrom, Rise}
use Rattle.json_text.specs.Tree.{tree_of}
use Rattle.json_text.proofs.Edits.{edits_rise}
use Rattle.json_text.proofs.Inside.{Inside, InSpan, path_inside, member_in_span}
use Rattle.json_text.proofs.Laws.{tree_sound}
use Rattle.json_text.proofs.Swaps.{in_object, swap_makes, swapped, span_is}
use Rattle.json_nodes.specs.Puts.{put_edits}
use Rattle.json_nodes.proofs.Swapped.{put_rise, rise_in, zero_text, zero_value, zero_says}
use Rattle.json_nodes.proofs.TwoSwaps.{both, Either, two_swaps}
use Rattle.document_model.specs.doc_text.specs.Changes.{string_text}
use Rattle.document_model.specs.Notices.{integer_text, new_version}
use Rattle.event_model.specs.Members.{has_version, listed}
use Rattle.rpc_message.specs.Changed.{id_edits}
use Rattle.rpc_message.specs.Envelopes.{not_null}
use Rattle.rpc_message.specs.Message.{Message, is_null, message_of, request, notification, result, error, not_json, not_message}
use Rattle.rpc_message.specs.Parsed.{params_in, result_in}
use Rattle.rpc_message.proofs.Alone.{id_alone}
use Rattle.rpc_message.proofs.Beside.{id_rise}
use Rattle.response_route.specs.Edits.{Renaming, versioned, change_documents, workspace_documents, action_documents, in_front, object_documents, documents_of, renamed, document_edits, joined, all_edits}
use Rattle.response_route.specs.Asked.{documents_asked}
use Rattle.response_route.specs.Results.{documents_in}

-- these values stand one behind the other, from one place up to another
abbrev pub Rising : ℕ → ℕ → List Json → Type 0
Rising at to [] = at ≤ to
Rising at to (t ∷ ts) = (at ≤ (span_of t).from) × ((bs : List ℕ) × value t (span_of t).from bs) × Rising (span_of t).to to ts

rising_in : (ts : List Json) (at from to n : ℕ) → at ≤ from → to ≤ n → Rising from to ts → Rising at n ts
rising_in [] at from to n h g r = omega (arith, h, g, r)
rising_in (t ∷ ts) at from to n h g r = (omega (arith, h, r.0), r.1, rising_in ts (span_of t).to (span_of t).to to n (omega arith) g r.2)

rising_on : (ts us : List Json) (at mid from to : ℕ) → Rising at mid ts → mid ≤ from → Rising from to us → Rising at to (ts ++ us)
rising_on [] us at mid from to h g r = rising_in us at from to to (omega (arith, h, g)) (omega arith) r
rising_on (t ∷ ts) us at mid from to h g r = (h.0, h.1, rising_on ts us (span_of t).to mid from to h.2 g r)

-- wherever a value stands, those in it rise within it
abbrev Rises : (Json → List Json) → Type 0
Rises f = (t : Json) (at : ℕ) (bs : List ℕ) → value t at bs → Rising at (at + length bs) (f t)

abbrev pub maybe : (Json → List Json) → Option Json → List Json
maybe f (Some j) = f j
maybe f None = []

from_is : (t : Json) (at : ℕ) (bs : List ℕ) → value t at bs → (span_of t).from ≡ at
from_is t at bs v = ap (λ (s : Span). s.from) (span_is t at bs v)

to_is : (t : Json) (at : ℕ) (bs : List ℕ) → value t at bs → (span_of t).to ≡ at + length bs
to_is t at bs v = ap (λ (s : Span). s.to) (span_is t at bs v)

versioned_rises : Rises (λ j. versioned (Some j))
versioned_rises t at bs v = go (has_version (Some t))
  where
    go : (b : Bool) → Rising at (at + length bs) (if b then t ∷ [] else [])
    go true = (omega (arith, from_is t at bs v), (bs, subst (λ i. value t i bs) (sym (from_is t at bs v)) v), omega (arith, to_is t at bs v))
    go false = omega arith

-- in a member of an object
record Part (f : Json → List Json) (at n : ℕ) (j : Json) : Type 0 where
  begins : at ≤ (span_of j).from
  rises : Rising (span_of j).from (span_of j).to (f j)
  ends : (span_of j).to ≤ n
  ordered : (span_of j).from ≤ (span_of j).to

part : (f : Json → List Json) → Rises f → (cs : List ℕ) (t j : Json) (at : ℕ) (bs : List ℕ) → value t at bs → named_in cs t ≡ Some j → Part f at (at + length bs) j
unfolding value_at
part f each cs t j at bs v e =
    let i : Inside at bs j = path_inside (key cs ∷ []) t j (ap (λ o. option_and_then (λ k. Some k) o) e) at bs v in
    let from : (span_of j).from ≡ at + length i.before = from_is j (at + length i.before) i.bytes i.stands in
    let to : (span_of j).to ≡ at + length i.before + length i.bytes = to_is j (at + length i.before) i.bytes i.stands in
    let long : length bs ≡ length i.before + (length i.bytes + length i.after) = ap length i.whole ∙ length-append i.before (i.bytes ++ i.after) ∙ ap (λ n. length i.before + n) (length-append i.bytes i.after) in
    record {
      begins = omega (arith, from);
      rises = rising_in (f j) (span_of j).from (at + length i.before) (at + length i.before + length i.bytes) (span_of j).to (omega (arith, from)) (omega (arith, to)) (each j (at + length i.before) i.bytes i.stands);
      ends = omega (arith, to, long);
      ordered = omega (arith, from, to);
    }

member_rises : (f : Json → List Json) → Rises f → (cs : List ℕ) → Rises (λ t. maybe f (named_in cs t))
member_rises f each cs t at bs v = go (named_in cs t) refl
  where
    go : (o : Option Json) → named_in cs t ≡ o → Rising at (at + length bs) (maybe f o)
    go (Some j) e = let p : Part f at (at + length bs) j = part f each cs t j at bs v e in rising_in (f j) at (span_of j).from (span_of j).to (at + length bs) p.begins p.ends p.rises
    go None e = omega arith

-- in the items of an array
module _ (f : Json → List Json) (each : Rises f) where
  one_on : (ts us : List Json) (at a b c n : ℕ) → Rising (at + a) (at + a + b) ts → Rising (at + a + b + c) (at + n) us → Rising at (at + n) (ts ++ us)
  one_on ts us at a b c n h g = rising_on ts us at (at + a + b) (at + a + b + c) (at + n) (rising_in ts at (at + a) (at + a + b) (at + a + b) (omega arith) (omega arith) h) (omega arith) g

  mutual
    items_rise : (js : Items) (at : ℕ) (bs : List ℕ) → items js at bs → Rising at (at + length bs) (flat_map f (items_list js))
    items_rise no_items at bs h = omega arith
    items_rise (item j js) at bs h =
        let k = h.4 in
        let l = k.4 in
        let long : length bs ≡ length h.0 + (length k.0 + (length l.0 + length l.1)) = ap length h.2 ∙ length-append h.0 h.1 ∙ ap (λ n. length h.0 + n) (ap length k.2 ∙ length-append k.0 k.1 ∙ ap (λ n. length k.0 + n) (ap length l.2 ∙ length-append l.0 l.1)) in
        one_on (f j) (flat_map f (items_list js)) at (length h.0) (length k.0) (length l.0) (length bs) (each j (at + length h.0) k.0 k.3)
        (rising_in (flat_map f (items_list js)) (at + length h.0 + length k.0 + length l.0) (at + length h.0 + length k.0 + length l.0) (at + length h.0 + length k.0 + length l.0 + length l.1) (at + length bs) (omega arith) (omega (arith, long)) (more_rise js (at + length h.0 + length k.0 + length l.0) l.1 l.4))

    more_rise : (js : Items) (at : ℕ) (bs : List ℕ) → more_items js at bs → Rising at (at + length bs) (flat_map f (items_list js))
    more_rise no_items at bs h = omega arith
    more_rise (item j js) at bs g =
        let h = g.4 in
        let k = h.4 in
        let l = k.4 in
        let start : ℕ = at + length g.0 in
        let whole : length bs ≡ length g.0 + length g.1 = ap length g.2 ∙ length-append g.0 g.1 in
        let long : length g.1 ≡ length h.0 + (length k.0 + (length l.0 + length l.1)) = ap length h.2 ∙ length-append h.0 h.1 ∙ ap (λ n. length h.0 + n) (ap length k.2 ∙ length-append k.0 k.1 ∙ ap (λ n. length k.0 + n) (ap length l.2 ∙ length-append l.0 l.1)) in
        rising_in (f j ++ flat_map f (items_list js)) at start (start + length g.1) (at + length bs) (omega arith) (omega (arith, whole))
        (one_on (f j) (flat_map f (items_list js)) start (length h.0) (length k.0) (length l.0) (length g.1) (each j (start + length h.0) k.0 k.3)
        (rising_in (flat_map f (items_list js)) (start + length h.0 + length k.0 + length l.0) (start + length h.0 + length k.0 + length l.0) (start + length h.0 + length k.0 + length l.0 + length l.1) (start + length g.1) (omega arith) (omega (arith, long)) (more_rise js (start + length h.0 + length k.0 + length l.0) l.1 l.4)))

  list_rises : Rises (λ j. flat_map f (listed (Some j)))
  list_rises (array s js) at bs v =
      let h = v.0 in
      let k = h.4 in
      let long : length bs ≡ length h.0 + (length k.0 + length k.1) = ap length h.2 ∙ length-append h.0 h.1 ∙ ap (λ n. length h.0 + n) (ap length k.2 ∙ length-append k.0 k.1) in
      rising_in (flat_map f (items_list js)) at (at + length h.0) (at + length h.0 + length k.0) (at + length bs) (omega arith) (omega (arith, long)) (items_rise js (at + length h.0) k.0 k.3)
  list_rises (word s w) at bs v = omega arith
  list_rises (number s ds) at bs v = omega arith
  list_rises (string s cs) at bs v = omega arith
  list_rises (object s ms) at bs v = omega arith

-- two members of different names stand apart
apart : (bs cs : List ℕ) (s : Span) (ms : Members) (t u : Json) (at : ℕ) (w : List ℕ) → value (object s ms) at w → bytes_eq bs cs ≡ false → named bs ms ≡ Some t → named cs ms ≡ Some u
    → ((span_of t).to ≤ (span_of u).from) ⊎ ((span_of u).to ≤ (span_of t).from)
apart bs cs s ms t u at w v n e f = go (two_swaps bs cs zero_value zero_value (edit t ∷ []) (edit u ∷ []) ms t u n (swapped t zero_value zero_text zero_says) (swapped u zero_value zero_text zero_says) e f)
  where
    edit : Json → Edit
    edit j = record { span = span_of j; text = zero_text }

    go : Either (edit t ∷ []) (edit u ∷ []) ms (both bs cs zero_value zero_value ms) → ((span_of t).to ≤ (span_of u).from) ⊎ ((span_of u).to ≤ (span_of t).from)
    go (inl h) =
        let made = swap_makes (in_object s ms (both bs cs zero_value zero_value ms) (edit t ∷ edit u ∷ []) h) at w v in
        let r : RiseFrom at (at + length w) (edit t ∷ edit u ∷ []) = edits_rise (edit t ∷ edit u ∷ []) at (at + length w) w made.out made.edits refl in
        inl r.2.0
    go (inr h) =
        let made = swap_makes (in_object s ms (both bs cs zero_value zero_value ms) (edit u ∷ edit t ∷ []) h) at w v in
        let r : RiseFrom at (at + length w) (edit u ∷ edit t ∷ []) = edits_rise (edit u ∷ edit t ∷ []) at (at + length w) w made.out made.edits refl in
        inr r.2.0

-- the documents of a result

change_rises : Rises change_documents
change_rises t at bs v = go (named_in (codes "textDocument") t) (member_rises (λ j. versioned (Some j)) versioned_rises (codes "textDocument") t at bs v)
  where
    go : (o : Option Json) → Rising at (at + length bs) (maybe (λ j. versioned (Some j)) o) → Rising at (at + length bs) (versioned o)
    go (Some j) h = h
    go None h = h

abbrev changes_listed : Json → List Json
changes_listed j = flat_map change_documents (listed (Some j))

workspace_is : (o : Option Json) → flat_map change_documents (listed o) ≡ maybe changes_listed o
workspace_is (Some j) = refl
workspace_is None = refl

workspace_rises : Rises (λ t. workspace_documents (Some t))
workspace_rises t at bs v = subst (Rising at (at + length bs)) (sym (workspace_is (named_in (codes "documentChanges") t)))
    (member_rises changes_listed (list_rises change_documents change_rises) (codes "documentChanges") t at bs v)

action_is : (o : Option Json) → workspace_documents o ≡ maybe (λ j. workspace_documents (Some j)) o
action_is (Some j) = refl
action_is None = refl

action_rises : Rises action_documents
action_rises t at bs v = subst (Rising at (at + length bs)) (sym (action_is (named_in (codes "edit") t)))
    (member_rises (λ j. workspace_documents (Some j)) workspace_rises (codes "edit") t at bs v)

object_rises : (s : Span) (ms : Members) (at : ℕ) (bs : List ℕ) → value (object s ms) at bs → Rising at (at + length bs) (object_documents (object s ms))
object_rises s ms at bs v = go (named (codes "documentChanges") ms) refl (named (codes "edit") ms) refl
  where
    n : ℕ
    n = at + length bs

    own : Option Json → List Json
    own o = flat_map change_documents (listed o)

    two : (j k : Json) → Part changes_listed at n j → Part (λ i. workspace_documents (Some i)) at n k → ((span_of j).to ≤ (span_of k).from) ⊎ ((span_of k).to ≤ (span_of j).from) → (b : Bool) → nat_le (span_of j).to (span_of k).from ≡ b
        → Rising at n (if b then changes_listed j ++ workspace_documents (Some k) else workspace_documents (Some k) ++ changes_listed j)
    two j k p q side true e = rising_in (changes_listed j ++ workspace_documents (Some k)) at (span_of j).from (span_of k).to n p.begins q.ends
        (rising_on (changes_listed j) (workspace_documents (Some k)) (span_of j).from (span_of j).to (span_of k).from (span_of k).to p.rises (grind (arith, e)) q.rises)
    two j k p q (inl h) false e = absurd (clash (sym e ∙ le-leb (span_of j).to (span_of k).from h))
      where
        clash : false ≡ true → ⊥
        clash x = cc
    two j k p q (inr h) false e = rising_in (workspace_documents (Some k) ++ changes_listed j) at (span_of k).from (span_of j).to n q.begins p.ends
        (rising_on (workspace_documents (Some k)) (changes_listed j) (span_of k).from (span_of k).to (span_of j).from (span_of j).to q.rises h p.rises)

    go : (o : Option Json) → named (codes "documentChanges") ms ≡ o → (p : Option Json) → named (codes "edit") ms ≡ p
        → Rising at n (if in_front o p then own o ++ workspace_documents p else workspace_documents p ++ own o)
    go (Some j) e (Some k) f = two j k (part changes_listed (list_rises change_documents change_rises) (codes "documentChanges") (object s ms) j at bs v e) (part (λ i. workspace_documents (Some i)) workspace_rises (codes "edit") (object s ms) k at bs v f)
        (apart (codes "documentChanges") (codes "edit") s ms j k at bs v refl e f) (nat_le (span_of j).to (span_of k).from) refl
    go (Some j) e None f = let p : Part changes_listed at n j = part changes_listed (list_rises change_documents change_rises) (codes "documentChanges") (object s ms) j at bs v e in
        rising_on (changes_listed j) [] at n n n (rising_in (changes_listed j) at (span_of j).from (span_of j).to n p.begins p.ends p.rises) (omega arith) (omega arith)
    go None e (Some k) f = let p : Part (λ i. workspace_documents (Some i)) at n k = part (λ i. workspace_documents (Some i)) workspace_rises (codes "edit") (object s ms) k at bs v f in
        rising_in (workspace_documents (Some k)) at (span_of k).from (span_of k).to n p.begins p.ends p.rises
    go None e None f = omega arith

documents_rise : Rises documents_of
documents_rise (object s ms) at bs v = object_rises s ms at bs v
documents_rise (array s js) at bs v = list_rises action_documents action_rises (array s js) at bs v
documents_rise (word s w) at bs v = omega arith
documents_rise (number s ds) at bs v = omega arith
documents_rise (string s cs) at bs v = omega arith

-- the edits of documents that rise

rise_on : (es fs : List Edit) (at mid to : ℕ) → RiseFrom at mid es → RiseFrom mid to fs → RiseFrom at to (es ++ fs)
rise_on [] fs at mid to h g = rise_in fs at mid to to h (omega arith) g
rise_on (e ∷ es) fs at mid to h g = (h.0, h.1, rise_on es fs e.span.to mid to h.2 g)

ordered : (t : Json) (at : ℕ) (bs : List ℕ) → value t at bs → (span_of t).from ≤ (span_of t).to
ordered t at bs v = omega (arith, from_is t at bs v, to_is t at bs v)

one_rises : (r : Renaming) (t : Json) (at : ℕ) (bs : List ℕ) (es : List Edit) → value t at bs → document_edits r t ≡ Some es → RiseFrom (span_of t).from (span_of t).to es
one_rises r t at bs es v e = go (option_and_then string_text (named_in (codes "uri") t)) (option_and_then integer_text (named_in (codes "version") t)) e
  where
    put : (o : Option (List ℕ)) → option_map (λ text. put_edits (new_version text) t) o ≡ Some es → RiseFrom (span_of t).from (span_of t).to es
    put (Some text) h = subst (RiseFrom (span_of t).from (span_of t).to) (let same : put_edits (new_version text) t ≡ es = cc in same) (put_rise (new_version text) t at bs v)
    put None h = absurd (cc)

    none : ◌≡◌ {A = Option (List Edit)} (Some []) (Some es) → RiseFrom (span_of t).from (span_of t).to es
    none h = subst (RiseFrom (span_of t).from (span_of t).to) (let same : [] ≡ es = cc in same) (ordered t at bs v)

    go : (u d : Option (List ℕ)) → renamed r t u d ≡ Some es → RiseFrom (span_of t).from (span_of t).to es
    go (Some u) (Some d) h = put (r u d) h
    go (Some u) None h = none h
    go None d h = none h

edits_rising : (r : Renaming) (ts : List Json) (at to : ℕ) (es : List Edit) → Rising at to ts → all_edits r ts ≡ Some es → RiseFrom at to es
edits_rising r [] at to es h e = subst (RiseFrom at to) (let same : [] ≡ es = cc in same) h
edits_rising r (t ∷ ts) at to es h e = go (document_edits r t) refl (all_edits r ts) (λ gs g. edits_rising r ts (span_of t).to to gs h.2 g) e
  where
    go : (a : Option (List Edit)) → document_edits r t ≡ a → (b : Option (List Edit)) → ((gs : List Edit) → b ≡ Some gs → RiseFrom (span_of t).to to gs) → joined a b ≡ Some es → RiseFrom at to es
    go (Some fs) f (Some gs) g k = subst (RiseFrom at to) (let same : fs ++ gs ≡ es = cc in same)
        (rise_on fs gs at (span_of t).to to (rise_in fs at (span_of t).from (span_of t).to (span_of t).to h.0 (omega arith) (one_rises r t (span_of t).from h.1.0 fs h.1.1 f)) (g gs refl))
    go (Some fs) f None g k = absurd (cc)
    go None f b g k = absurd (cc)

-- in a member of a message

module _ (f : Json → List Json) (each : Rises f) (cs : List ℕ) (other : bytes_eq cs (codes "id") ≡ false) (part : Json → Option Json) (is_named : (t p : Json) → part t ≡ Some p → named_in cs t ≡ Some p)
    (r : Renaming) (body w : List ℕ) (es : List Edit) where
  nothing : ◌≡◌ {A = Option (List Edit)} (Some []) (Some es) → Rise body (id_edits body w es)
  nothing h = subst (λ z. Rise body (id_edits body w z)) (let same : [] ≡ es = cc in same) (id_alone body w)

  by_root : (t p : Json) → tree_of body ≡ Some t → named_in cs t ≡ Some p → all_edits r (f p) ≡ Some es → Rise body (id_edits body w es)
  by_root (object s ms) p tree there h =
      let i : InSpan body p = member_in_span body s cs ms p (tree_sound body (object s ms) tree).0 there in
      let bs : List ℕ = take ((span_of p).to - (span_of p).from) (drop (span_of p).from body) in
      let to : (span_of p).to ≡ (span_of p).from + length bs = to_is p (span_of p).from bs i.stands in
      id_rise body w cs s ms p es tree there other
      (subst (λ n. RiseFrom (span_of p).from n es) (sym to) (edits_rising r (f p) (span_of p).from ((span_of p).from + length bs) es (each p (span_of p).from bs i.stands) h))
  by_root (word s x) p tree there h = absurd (cc)
  by_root (number s ds) p tree there h = absurd (cc)
  by_root (string s ds) p tree there h = absurd (cc)
  by_root (array s js) p tree there h = absurd (cc)

  by_part : (t : Json) → tree_of body ≡ Some t → (o : Option Json) → part t ≡ o → all_edits r (maybe f o) ≡ Some es → Rise body (id_edits body w es)
  by_part t tree (Some p) e h = by_root t p tree (is_named t p e) h
  by_part t tree None e h = nothing h

  part_rise : all_edits r (maybe f (option_and_then part (tree_of body))) ≡ Some es → Rise body (id_edits body w es)
  part_rise e = go (tree_of body) refl e
    where
      go : (o : Option Json) → tree_of body ≡ o → all_edits r (maybe f (option_and_then part o)) ≡ Some es → Rise body (id_edits body w es)
      go (Some t) tree h = by_part t tree (part t) refl h
      go None tree h = nothing h

-- in its result

result_named : (m : Message) (t p : Json) → result_in m t ≡ Some p → named_in (codes "result") t ≡ Some p
result_named (result i v) t p e = e
result_named (request i n ps) t p e = absurd (cc)
result_named (notification n ps) t p e = absurd (cc)
result_named (error i v) t p e = absurd (cc)
result_named not_json t p e = absurd (cc)
result_named not_message t p e = absurd (cc)

pub message_rise : (r : Renaming) (body w : List ℕ) (es : List Edit) → all_edits r (documents_in body) ≡ Some es → Rise body (id_edits body w es)
message_rise r body w es e = part_rise documents_of documents_rise (codes "result") refl (result_in (message_of body)) (result_named (message_of body)) r body w es e

-- and in its params

pub not_null_is : (o : Option Json) (p : Json) → not_null o ≡ Some p → o ≡ Some p
not_null_is (Some j) p e = go (is_null j) e
  where
    go : (b : Bool) → (if b then None else Some j) ≡ Some p → Some j ≡ Some p
    go true h = absurd (cc)
    go false h = h
not_null_is None p e = absurd (cc)

params_named : (m : Message) (t p : Json) → params_in m t ≡ Some p → named_in (codes "params") t ≡ Some p
params_named (request i n ps) t p e = not_null_is (named_in (codes "params") t) p e
params_named (notification n ps) t p e = not_null_is (named_in (codes "params") t) p e
params_named (result i v) t p e = absurd (cc)
params_named (error i v) t p e = absurd (cc)
params_named not_json t p e = absurd (cc)
params_named not_message t p e = absurd (cc)

pub asked_rise : (r : Renaming) (body w : List ℕ) (es : List Edit) → all_edits r (documents_asked body) ≡ Some es → Rise body (id_edits body w es)
asked_rise r body w es e = part_rise action_documents action_rises (codes "params") refl (params_in (message_of body)) (params_named (message_of body)) r body w es e
