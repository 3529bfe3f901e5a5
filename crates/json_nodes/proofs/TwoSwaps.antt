-- Edits of two members of one object, of different names: which stand in front, and what they make.
use Rattle.std.proofs.Common.{◌≡◌, ◌⊎◌, ℕ, ◌≤◌, Bool, true, false, List, [], ◌∷◌, ◌++◌, Option, Some, None, is_some, bytes_eq, if◌then◌else◌, inl, inr, refl, sym, ◌∙◌, ap, subst}
use Rattle.std.proofs.lemmas.Slice.Eq.{bytes_eq-Decides}
use Rattle.json_text.specs.declared.span.Span.{Span}
use Rattle.json_text.specs.Json.{Json, object, Members, no_members, member, span_of, IsText}
use Rattle.json_text.specs.Named.{named, or_else, if_named}
use Rattle.json_text.specs.Paths.{put_named}
use Rattle.json_text.specs.Replace.{Edit}
use Rattle.json_text.proofs.Paths.{named_step}
use Rattle.json_text.proofs.Put.{some_put}
use Rattle.json_text.proofs.Swaps.{Swaps, kept, swapped, in_object, SwapsMembers, member_swaps, Replaced, replaced}
use Rattle.json_nodes.proofs.Swapped.{zero_text, zero_value, zero_says}

-- the edits of the one come first, or those of the other
abbrev pub Either : List Edit → List Edit → Members → Members → Type 0
Either es fs ms ns = SwapsMembers ms (es ++ fs) ns ⊎ SwapsMembers ms (fs ++ es) ns

-- the members with both new values
abbrev pub both : List ℕ → List ℕ → Json → Json → Members → Members
both bs cs x y ms = put_named cs y (put_named bs x ms)

module _ (bs cs : List ℕ) (x y : Json) (es fs : List Edit) where
  -- one of the two is here, or both are in the rest
  both_later : (s : Span) (ds : List ℕ) (j : Json) (ms : Members) → is_some (named bs ms) ≡ true → is_some (named cs ms) ≡ true → both bs cs x y (member s ds j ms) ≡ member s ds j (both bs cs x y ms)
  unfolding put_named
  both_later s ds j ms h g = ap (λ b. put_named cs y (if b then member s ds j (put_named bs x ms) else member s ds (if bytes_eq bs ds then x else j) ms)) h
      ∙ ap (λ b. if b then member s ds j (both bs cs x y ms) else member s ds (if bytes_eq cs ds then y else j) (put_named bs x ms)) (some_put bs cs ms x ∙ g)

  first_here : (s : Span) (ds : List ℕ) (j : Json) (ms : Members) → is_some (named bs ms) ≡ false → bytes_eq bs ds ≡ true → is_some (named cs ms) ≡ true → both bs cs x y (member s ds j ms) ≡ member s ds x (put_named cs y ms)
  unfolding put_named
  first_here s ds j ms h e g = ap (λ b. put_named cs y (if b then member s ds j (put_named bs x ms) else member s ds (if bytes_eq bs ds then x else j) ms)) h
      ∙ ap (λ b. put_named cs y (member s ds (if b then x else j) ms)) e
      ∙ ap (λ b. if b then member s ds x (put_named cs y ms) else member s ds (if bytes_eq cs ds then y else x) ms) g

  second_here : (s : Span) (ds : List ℕ) (j : Json) (ms : Members) → is_some (named bs ms) ≡ true → is_some (named cs ms) ≡ false → bytes_eq cs ds ≡ true → both bs cs x y (member s ds j ms) ≡ member s ds y (put_named bs x ms)
  unfolding put_named
  second_here s ds j ms h g e = ap (λ b. put_named cs y (if b then member s ds j (put_named bs x ms) else member s ds (if bytes_eq bs ds then x else j) ms)) h
      ∙ ap (λ b. if b then member s ds j (both bs cs x y ms) else member s ds (if bytes_eq cs ds then y else j) (put_named bs x ms)) (some_put bs cs ms x ∙ g)
      ∙ ap (λ b. member s ds (if b then y else j) (put_named bs x ms)) e

  later : (s : Span) (ds : List ℕ) (j : Json) (ms ns : Members) → Either es fs ms ns → Either es fs (member s ds j ms) (member s ds j ns)
  later s ds j ms ns (inl h) = inl (member_swaps s ds j j ms ns [] (es ++ fs) (kept j) h)
  later s ds j ms ns (inr h) = inr (member_swaps s ds j j ms ns [] (fs ++ es) (kept j) h)

  two_names : (ds : List ℕ) → bytes_eq bs cs ≡ false → bytes_eq bs ds ≡ true → bytes_eq cs ds ≡ true → ⊥
  two_names ds n e f = let h : bytes_eq bs cs ≡ true = (bytes_eq-Decides bs cs).1 ((bytes_eq-Decides bs ds).0 e ∙ sym ((bytes_eq-Decides cs ds).0 f)) in cc

  two_case : (s : Span) (ds : List ℕ) (j : Json) (ms : Members) (t u : Json) → bytes_eq bs cs ≡ false → Swaps t es x → Swaps u fs y
      → (o : Option Json) → named bs ms ≡ o → (p : Option Json) → named cs ms ≡ p → (a : Bool) → bytes_eq bs ds ≡ a → (b : Bool) → bytes_eq cs ds ≡ b
      → (o ≡ Some t → p ≡ Some u → Either es fs ms (both bs cs x y ms)) → or_else o (if_named a j) ≡ Some t → or_else p (if_named b j) ≡ Some u → Either es fs (member s ds j ms) (both bs cs x y (member s ds j ms))
  two_case s ds j ms t u n h g (Some k) d (Some l) e a i b c rest f q = subst (Either es fs (member s ds j ms)) (sym (both_later s ds j ms (ap is_some d) (ap is_some e))) (later s ds j ms (both bs cs x y ms) (rest f q))
  two_case s ds j ms t u n h g None d (Some l) e true i b c rest f q =
      let same : t ≡ j = cc in
      inl (subst (λ z. SwapsMembers (member s ds j ms) (es ++ fs) z) (sym (first_here s ds j ms (ap is_some d) i (ap is_some e)))
      (member_swaps s ds j x ms (put_named cs y ms) es fs (subst (λ z. Swaps z es x) same h) (named_step cs ms u y fs (e ∙ q) g)))
  two_case s ds j ms t u n h g (Some k) d None e a i true c rest f q =
      let same : u ≡ j = cc in
      inr (subst (λ z. SwapsMembers (member s ds j ms) (fs ++ es) z) (sym (second_here s ds j ms (ap is_some d) (ap is_some e) c))
      (member_swaps s ds j y ms (put_named bs x ms) fs es (subst (λ z. Swaps z fs y) same g) (named_step bs ms t x es (d ∙ f) h)))
  two_case s ds j ms t u n h g None d None e true i true c rest f q = absurd (two_names ds n i c)
  two_case s ds j ms t u n h g None d p e false i b c rest f q = absurd (cc)
  two_case s ds j ms t u n h g o d None e a i false c rest f q = absurd (cc)

  pub two_swaps : (ms : Members) (t u : Json) → bytes_eq bs cs ≡ false → Swaps t es x → Swaps u fs y → named bs ms ≡ Some t → named cs ms ≡ Some u → Either es fs ms (both bs cs x y ms)
  unfolding named
  two_swaps no_members t u n h g e f = absurd (cc)
  two_swaps (member s ds j ms) t u n h g e f = two_case s ds j ms t u n h g (named bs ms) refl (named cs ms) refl (bytes_eq bs ds) refl (bytes_eq cs ds) refl (λ d l. two_swaps ms t u n h g d l) e f

-- two members of different names stand apart
pub apart : (bytes bs cs : List ℕ) (s : Span) (ms : Members) (t u : Json) → IsText bytes (object s ms) → bytes_eq bs cs ≡ false → named bs ms ≡ Some t → named cs ms ≡ Some u
    → ((span_of t).to ≤ (span_of u).from) ⊎ ((span_of u).to ≤ (span_of t).from)
apart bytes bs cs s ms t u text n e f = go (two_swaps bs cs zero_value zero_value (edit t ∷ []) (edit u ∷ []) ms t u n (swapped t zero_value zero_text zero_says) (swapped u zero_value zero_text zero_says) e f)
  where
    edit : Json → Edit
    edit j = record { span = span_of j; text = zero_text }

    go : Either (edit t ∷ []) (edit u ∷ []) ms (both bs cs zero_value zero_value ms) → ((span_of t).to ≤ (span_of u).from) ⊎ ((span_of u).to ≤ (span_of t).from)
    go (inl h) = let r : Replaced bytes (edit t ∷ edit u ∷ []) (object s (both bs cs zero_value zero_value ms)) = replaced bytes (edit t ∷ edit u ∷ []) (object s ms) (object s (both bs cs zero_value zero_value ms)) text (in_object s ms (both bs cs zero_value zero_value ms) (edit t ∷ edit u ∷ []) h) in
        inl r.rise.2.0
    go (inr h) = let r : Replaced bytes (edit u ∷ edit t ∷ []) (object s (both bs cs zero_value zero_value ms)) = replaced bytes (edit u ∷ edit t ∷ []) (object s ms) (object s (both bs cs zero_value zero_value ms)) text (in_object s ms (both bs cs zero_value zero_value ms) (edit u ∷ edit t ∷ []) h) in
        inr r.rise.2.0
