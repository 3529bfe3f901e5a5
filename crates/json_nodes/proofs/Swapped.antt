-- Edits by names rise, and make a text of the members with the other values.
use Rattle.std.proofs.Common.{◌≡◌, ℕ, ◌+◌, ◌≤◌, List, [], ◌∷◌, length, Option, Some, None, option_map, Result, Ok, Err, IfOk, inl, refl, sym, subst, arith}
use Rattle.json_text.specs.declared.span.Span.{Span}
use Rattle.json_text.specs.declared.kind.Kind.{Kind}
use Rattle.json_text.specs.declared.kind.Kind.TheVariants as kind
use Rattle.json_text.specs.declared.kind.Word.TheVariants.{Null, False, True}
use Rattle.json_text.specs.Json.{Json, word, number, string, array, object, Members, no_members, member, span_of, value}
use Rattle.json_text.specs.Bare.{nowhere}
use Rattle.json_text.specs.Replace.{Edit, RiseFrom, Rise}
use Rattle.json_text.proofs.Edits.{edits_rise}
use Rattle.json_text.proofs.Forms.{says}
use Rattle.json_text.proofs.Swaps.{kept, swapped, in_object, SwapsMembers, no_member_swaps, member_swaps, swap_makes, span_is}
use Rattle.json_nodes.specs.At.{At}
use Rattle.json_nodes.specs.Doc.{Doc}
use Rattle.json_nodes.specs.Nodes.{kind_of}
use Rattle.json_nodes.specs.Puts.{edit_if, member_edits, put_edits, new_or, put_members}
use Rattle.json_nodes.specs.Texts.{between}
use Rattle.json_nodes.proofs.Spelled.{span_text}

-- the bytes say the value, or there is neither
abbrev pub Says : Option Json → Option (List ℕ) → Type 0
Says (Some u) (Some w) = says u w
Says None None = Unit {0}
Says (Some u) None = ⊥
Says None (Some w) = ⊥

swap_case : (s : Span) (cs : List ℕ) (j : Json) (ms rest : Members) (es : List Edit) (u : Option Json) (w : Option (List ℕ)) → Says u w → SwapsMembers ms es rest
    → SwapsMembers (member s cs j ms) (edit_if (span_of j) w es) (member s cs (new_or u j) rest)
swap_case s cs j ms rest es (Some u) (Some w) h g = member_swaps s cs j u ms rest (record { span = span_of j; text = w } ∷ []) es (swapped j u w h) g
swap_case s cs j ms rest es None None h g = member_swaps s cs j j ms rest [] es (kept j) g
swap_case s cs j ms rest es (Some u) None h g = absurd h
swap_case s cs j ms rest es None (Some w) h g = absurd h

-- the edits put those values
pub put_swaps : (text : List ℕ → Option (List ℕ)) (new : List ℕ → Option Json) (ms : Members) → ((cs : List ℕ) → Says (new cs) (text cs)) → SwapsMembers ms (member_edits text ms) (put_members new ms)
put_swaps text new no_members h = no_member_swaps
put_swaps text new (member s cs j ms) h = swap_case s cs j ms (put_members new ms) (member_edits text ms) (new cs) (text cs) (h cs) (put_swaps text new ms h)

-- the places of edits don't hang on the bytes that are put there

abbrev pub zero_text : List ℕ
zero_text = 48 ∷ []

abbrev pub zero_value : Json
zero_value = number nowhere zero_text

pub zero_says : says (number nowhere zero_text) zero_text
zero_says = (refl, ([], 48 ∷ [], [], [], inl refl, inl refl, inl refl, inl refl, refl))

zeros_say : (w : Option (List ℕ)) → Says (option_map (λ x. number nowhere zero_text) w) (option_map (λ x. zero_text) w)
zeros_say (Some w) = zero_says
zeros_say None = tt

same_rise : (text : List ℕ → Option (List ℕ)) (ms : Members) (at n : ℕ) → RiseFrom at n (member_edits (λ cs. option_map (λ x. zero_text) (text cs)) ms) → RiseFrom at n (member_edits text ms)
same_rise text no_members at n h = h
same_rise text (member s cs j ms) at n h = go (text cs) (λ i g. same_rise text ms i n g) h
  where
    go : (w : Option (List ℕ)) → ((i : ℕ) → RiseFrom i n (member_edits (λ ds. option_map (λ x. zero_text) (text ds)) ms) → RiseFrom i n (member_edits text ms)) → RiseFrom at n (edit_if (span_of j) (option_map (λ x. zero_text) w) (member_edits (λ ds. option_map (λ x. zero_text) (text ds)) ms)) → RiseFrom at n (edit_if (span_of j) w (member_edits text ms))
    go (Some w) f g = (g.0, g.1, f (span_of j).to g.2)
    go None f g = f at g

-- the edits of an object rise within it, wherever it stands
object_rise : (text : List ℕ → Option (List ℕ)) (s : Span) (ms : Members) (at : ℕ) (bs : List ℕ) → value (object s ms) at bs → RiseFrom at (at + length bs) (member_edits text ms)
object_rise text s ms at bs v =
    let new : List ℕ → Option Json = λ cs. option_map (λ x. number nowhere zero_text) (text cs) in
    let zeros : List ℕ → Option (List ℕ) = λ cs. option_map (λ x. zero_text) (text cs) in
    let made = swap_makes (in_object s ms (put_members new ms) (member_edits zeros ms) (put_swaps zeros new ms (λ cs. zeros_say (text cs)))) at bs v in
    same_rise text ms at (at + length bs) (edits_rise (member_edits zeros ms) at (at + length bs) bs made.out made.edits refl)

pub put_rise : (text : List ℕ → Option (List ℕ)) (t : Json) (at : ℕ) (bs : List ℕ) → value t at bs → RiseFrom (span_of t).from (span_of t).to (put_edits text t)
put_rise text t at bs v = subst (λ (i : Span). RiseFrom i.from i.to (put_edits text t)) (sym (span_is t at bs v)) (go t v)
  where
    go : (u : Json) → value u at bs → RiseFrom at (at + length bs) (put_edits text u)
    go (object s ms) h = object_rise text s ms at bs h
    go (word s w) h = omega arith
    go (number s ds) h = omega arith
    go (string s cs) h = omega arith
    go (array s js) h = omega arith

-- what rises in a part rises in the whole
pub rise_in : (es : List Edit) (at from to n : ℕ) → at ≤ from → to ≤ n → RiseFrom from to es → RiseFrom at n es
rise_in [] at from to n h g r = omega (arith, h, g, r)
rise_in (e ∷ es) at from to n h g r = (omega (arith, h, r.0), r.1, rise_in es e.span.to e.span.to to n (omega arith) g r.2)

-- the edits of a value of a text

pub edits_within : (doc : Doc) (k : ℕ) (t : Json) (text : List ℕ → Option (List ℕ)) → At doc k t → RiseFrom (span_of t).from (span_of t).to (put_edits text t)
edits_within doc k t text a = put_rise text t (span_of t).from (between (span_of t).from (span_of t).to doc.bytes) (span_text doc k t a).text

pub edits_in_text : (doc : Doc) (k : ℕ) (t : Json) (text : List ℕ → Option (List ℕ)) → At doc k t → Rise doc.bytes (put_edits text t)
edits_in_text doc k t text a = rise_in (put_edits text t) 0 (span_of t).from (span_of t).to (length doc.bytes) (omega arith) (span_text doc k t a).fits (edits_within doc k t text a)

-- the changes of a value, by its kind

module _ {V E : Type 0} (edits : V → List Edit) (r : Result V E) where
  pub object_edits : (doc : Doc) (k : ℕ) (x : Kind) (t : Json) (text : List ℕ → Option (List ℕ)) → x ≡ kind.Object → x ≡ kind_of t
      → ((s : Span) (ms : Members) → At doc k (object s ms) → IfOk r (λ v. edits v ≡ member_edits text ms)) → At doc k t → IfOk r (λ v. edits v ≡ put_edits text t)
  object_edits doc k x (object s ms) text e f h a = h s ms a
  object_edits doc k x (word s Null) text e f h a = absurd (cc)
  object_edits doc k x (word s False) text e f h a = absurd (cc)
  object_edits doc k x (word s True) text e f h a = absurd (cc)
  object_edits doc k x (number s ds) text e f h a = absurd (cc)
  object_edits doc k x (string s cs) text e f h a = absurd (cc)
  object_edits doc k x (array s js) text e f h a = absurd (cc)

  pub are_edits : (P : List Edit → Type 0) (es : List Edit) → P es → IfOk r (λ v. edits v ≡ es) → IfOk r (λ v. P (edits v))
  are_edits P es p h = go r h
    where
      go : (q : Result V E) → IfOk q (λ v. edits v ≡ es) → IfOk q (λ v. P (edits v))
      go (Ok v) g = subst P (sym g) p
      go (Err e) g = tt

pub no_edits : (x : Kind) (t : Json) (text : List ℕ → Option (List ℕ)) → (x ≡ kind.Object → ⊥) → x ≡ kind_of t → [] ≡ put_edits text t
no_edits x (object s ms) text n e = absurd (n e)
no_edits x (word s w) text n e = refl
no_edits x (number s ds) text n e = refl
no_edits x (string s ds) text n e = refl
no_edits x (array s js) text n e = refl
