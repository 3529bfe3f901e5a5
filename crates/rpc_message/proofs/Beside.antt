-- The id's edit in front of the edits of another member, or behind them.
use Rattle.std.proofs.Common.{◌≡◌, ◌⊎◌, ℕ, suc, ◌+◌, ◌≤◌, ◌<◌, false, List, [], ◌∷◌, ◌++◌, length, bytes_eq, take, drop, ◌-◌, Option, Some, None, codes, if◌then◌else◌, inl, inr, refl, sym, ◌∙◌, ap, subst, arith}
use Rattle.std.proofs.lemmas.Bool.{le-leb, lt-leb}
use Rattle.json_text.specs.declared.span.Span.{Span}
use Rattle.json_text.specs.Json.{Json, object, Members, span_of, IsText}
use Rattle.json_text.specs.Named.{named}
use Rattle.json_text.specs.Replace.{Edit, RiseFrom, Rise}
use Rattle.json_text.specs.Tree.{tree_of}
use Rattle.json_text.proofs.Complete.{value_starts}
use Rattle.json_text.proofs.Inside.{InSpan, member_in_span}
use Rattle.json_text.proofs.Laws.{tree_sound}
use Rattle.json_text.proofs.Swaps.{Swaps, swapped, in_object, SwapsMembers, Replaced, replaced, span_is}
use Rattle.json_text.proofs.Forms.{says}
use Rattle.json_span.specs.json_nodes.proofs.Swapped.{rise_in}
use Rattle.json_span.specs.json_nodes.proofs.TwoSwaps.{both, Either, two_swaps, apart}
use Rattle.rpc_message.specs.Changed.{beside, id_edits_at, id_edits}
use Rattle.rpc_message.specs.Message.{place_in}
use Rattle.rpc_message.proofs.Ids.{place_of, no_place}

rise_ends : (at n : ℕ) (es : List Edit) → RiseFrom at n es → at ≤ n
rise_ends at n [] h = h
rise_ends at n (e ∷ es) h = omega (arith, rise_ends e.span.to n es h.2, h.0, h.1)

rise_last : (at n : ℕ) (es : List Edit) (e : Edit) → RiseFrom at n (es ++ e ∷ []) → at ≤ e.span.from
rise_last at n [] e h = h.0
rise_last at n (f ∷ es) e h = omega (arith, rise_last f.span.to n es e h.2, h.0, h.1)

in_front : (e : Edit) (es : List Edit) (from to : ℕ) → RiseFrom from to es → e.span.to ≤ from → beside e es ≡ e ∷ es
in_front e [] from to r h = refl
in_front e (f ∷ es) from to r h = ap (λ b. if b then e ∷ f ∷ es else (f ∷ es) ++ e ∷ []) (le-leb e.span.to f.span.from (omega (arith, h, r.0)))

behind : (e : Edit) (es : List Edit) (at n : ℕ) → RiseFrom at n (es ++ e ∷ []) → e.span.from < e.span.to → beside e es ≡ es ++ e ∷ []
behind e [] at n r h = refl
behind e (f ∷ es) at n r h = ap (λ b. if b then e ∷ f ∷ es else (f ∷ es) ++ e ∷ []) (lt-leb e.span.to f.span.from (omega (arith, h, r.1, rise_last f.span.to n es e r.2)))

rise_with : (e : Edit) (es : List Edit) (at to n : ℕ) → RiseFrom at to es → to ≤ e.span.from → e.span.from ≤ e.span.to → e.span.to ≤ n → RiseFrom at n (es ++ e ∷ [])
rise_with e [] at to n r h g l = (omega (arith, r, h), g, l)
rise_with e (f ∷ es) at to n r h g l = (r.0, r.1, rise_with e es f.span.to to n r.2 h g l)

-- a value isn't empty
not_empty : (bytes : List ℕ) (t : Json) → InSpan bytes t → (span_of t).from < (span_of t).to
not_empty bytes t h =
    let text : List ℕ = take ((span_of t).to - (span_of t).from) (drop (span_of t).from bytes) in
    let starts = value_starts t (span_of t).from text h.stands in
    let end : (span_of t).to ≡ (span_of t).from + length text = ap (λ (s : Span). s.to) (span_is t (span_of t).from text h.stands) in
    let long : length text ≡ suc (length starts.after) = ap length starts.is in
    omega (arith, end, long)

module _ (body w cs : List ℕ) (s : Span) (ms : Members) (p : Json) (es : List Edit) (tree : tree_of body ≡ Some (object s ms)) (there : named cs ms ≡ Some p) (other : bytes_eq cs (codes "id") ≡ false) where
  -- the edits of a member and of the id rise
  pub id_rise : RiseFrom (span_of p).from (span_of p).to es → Rise body (id_edits body w es)
  unfolding id_edits
  id_rise rise = go (named (codes "id") ms) refl
    where
      text : IsText body (object s ms)
      text = (tree_sound body (object s ms) tree).0

      inside : InSpan body p
      inside = member_in_span body s cs ms p text there

      edit : Json → Edit
      edit t = record { span = span_of t; text = w }

      sides : (t : Json) → InSpan body t → ((span_of p).to ≤ (span_of t).from) ⊎ ((span_of t).to ≤ (span_of p).from) → Rise body (beside (edit t) es)
      sides t i (inl h) =
          let all : RiseFrom (span_of p).from (length body) (es ++ edit t ∷ []) = rise_with (edit t) es (span_of p).from (span_of p).to (length body) rise h i.ordered i.fits in
          subst (Rise body) (sym (behind (edit t) es (span_of p).from (length body) all (not_empty body t i)))
          (rise_in (es ++ edit t ∷ []) 0 (span_of p).from (length body) (length body) (omega arith) (omega arith) all)
      sides t i (inr h) = subst (Rise body) (sym (in_front (edit t) es (span_of p).from (span_of p).to rise h))
          (omega arith, i.ordered, rise_in es (span_of t).to (span_of p).from (span_of p).to (length body) h inside.fits rise)

      go : (o : Option Json) → named (codes "id") ms ≡ o → Rise body (id_edits_at w es (place_in (codes "id") (tree_of body)))
      go (Some t) e = subst (λ z. Rise body (id_edits_at w es z)) (sym (place_of (codes "id") body s ms t tree e))
          (sides t (member_in_span body s (codes "id") ms t text e) (apart body cs (codes "id") s ms p t text other there e))
      go None e = subst (λ z. Rise body (id_edits_at w es z)) (sym (no_place (codes "id") body s ms tree e))
          (rise_in es 0 (span_of p).from (span_of p).to (length body) (omega arith) inside.fits rise)

  -- and make the new id and the member's new value
  pub id_swaps : (t u q : Json) → named (codes "id") ms ≡ Some t → says u w → Swaps p es q → Replaced body (id_edits body w es) (object s (both cs (codes "id") q u ms))
  unfolding id_edits
  id_swaps t u q e h g = go (two_swaps cs (codes "id") q u es (edit ∷ []) ms p t other g (swapped t u w h) there e)
    where
      text : IsText body (object s ms)
      text = (tree_sound body (object s ms) tree).0

      edit : Edit
      edit = record { span = span_of t; text = w }

      new : Members
      new = both cs (codes "id") q u ms

      given : (fs : List Edit) → SwapsMembers ms fs new → Replaced body fs (object s new)
      given fs k = replaced body fs (object s ms) (object s new) text (in_object s ms new fs k)

      as_made : (fs : List Edit) → Replaced body fs (object s new) → beside edit es ≡ fs → Replaced body (id_edits_at w es (place_in (codes "id") (tree_of body))) (object s new)
      as_made fs k same = subst (λ z. Replaced body z (object s new)) (sym (ap (id_edits_at w es) (place_of (codes "id") body s ms t tree e) ∙ same)) k

      go : Either es (edit ∷ []) ms new → Replaced body (id_edits_at w es (place_in (codes "id") (tree_of body))) (object s new)
      go (inl k) = let made : Replaced body (es ++ edit ∷ []) (object s new) = given (es ++ edit ∷ []) k in
          as_made (es ++ edit ∷ []) made (behind edit es 0 (length body) made.rise (not_empty body t (member_in_span body s (codes "id") ms t text e)))
      go (inr k) = let made : Replaced body (edit ∷ es) (object s new) = given (edit ∷ es) k in
          as_made (edit ∷ es) made (in_front edit es (span_of t).to (length body) made.rise.2 (omega arith))
