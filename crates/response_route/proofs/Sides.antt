-- Of two members of different names one stands first, and its edits do, whatever they are.
use Rattle.std.proofs.Common.{◌≡◌, ℕ, suc, ◌+◌, ◌≤◌, ◌<◌, Bool, true, false, List, [], ◌∷◌, ◌++◌, length, Option, Some, None, is_some, bytes_eq, if◌then◌else◌, refl, sym, ◌∙◌, ap, subst, arith}
use Rattle.std.specs.Prelude.{nat_le}
use Rattle.std.specs.Option.{option_and_then}
use Rattle.std.proofs.lemmas.Bool.{le-leb, lt-leb}
use Rattle.std.proofs.lemmas.Slice.Eq.{bytes_eq-Decides}
use Rattle.json_text.specs.declared.span.Span.{Span}
use Rattle.json_text.specs.Json.{Json, object, Members, no_members, member, value, span_of}
use Rattle.json_text.specs.Named.{named, or_else, if_named}
use Rattle.json_text.specs.Paths.{key, value_at, put_named}
use Rattle.json_text.specs.Replace.{Edit, RiseFrom}
use Rattle.json_text.proofs.Complete.{value_starts}
use Rattle.json_text.proofs.Edits.{edits_rise}
use Rattle.json_text.proofs.Inside.{Inside, path_inside}
use Rattle.json_text.proofs.Paths.{named_step}
use Rattle.json_text.proofs.Put.{some_put}
use Rattle.json_text.proofs.Swaps.{Swaps, kept, swapped, in_object, SwapsMembers, member_swaps, swap_makes, span_is}
use Rattle.json_nodes.proofs.Swapped.{zero_text, zero_value, zero_says}
use Rattle.json_nodes.proofs.TwoSwaps.{both}

abbrev pub in_order : Bool → List Edit → List Edit → List Edit
in_order first es fs = if first then es ++ fs else fs ++ es

-- whether the first of the two stands first
pub record Sides (bs cs : List ℕ) (ms : Members) (t u : Json) : Type 0 where
  pub first : Bool
  pub makes : (x y : Json) (es fs : List Edit) → Swaps t es x → Swaps u fs y → SwapsMembers ms (in_order first es fs) (both bs cs x y ms)

module _ (bs cs : List ℕ) where
  both_later : (x y : Json) (s : Span) (ds : List ℕ) (j : Json) (ms : Members) → is_some (named bs ms) ≡ true → is_some (named cs ms) ≡ true → both bs cs x y (member s ds j ms) ≡ member s ds j (both bs cs x y ms)
  unfolding put_named
  both_later x y s ds j ms h g = ap (λ b. put_named cs y (if b then member s ds j (put_named bs x ms) else member s ds (if bytes_eq bs ds then x else j) ms)) h
      ∙ ap (λ b. if b then member s ds j (both bs cs x y ms) else member s ds (if bytes_eq cs ds then y else j) (put_named bs x ms)) (some_put bs cs ms x ∙ g)

  first_here : (x y : Json) (s : Span) (ds : List ℕ) (j : Json) (ms : Members) → is_some (named bs ms) ≡ false → bytes_eq bs ds ≡ true → is_some (named cs ms) ≡ true → both bs cs x y (member s ds j ms) ≡ member s ds x (put_named cs y ms)
  unfolding put_named
  first_here x y s ds j ms h e g = ap (λ b. put_named cs y (if b then member s ds j (put_named bs x ms) else member s ds (if bytes_eq bs ds then x else j) ms)) h
      ∙ ap (λ b. put_named cs y (member s ds (if b then x else j) ms)) e
      ∙ ap (λ b. if b then member s ds x (put_named cs y ms) else member s ds (if bytes_eq cs ds then y else x) ms) g

  second_here : (x y : Json) (s : Span) (ds : List ℕ) (j : Json) (ms : Members) → is_some (named bs ms) ≡ true → is_some (named cs ms) ≡ false → bytes_eq cs ds ≡ true → both bs cs x y (member s ds j ms) ≡ member s ds y (put_named bs x ms)
  unfolding put_named
  second_here x y s ds j ms h g e = ap (λ b. put_named cs y (if b then member s ds j (put_named bs x ms) else member s ds (if bytes_eq bs ds then x else j) ms)) h
      ∙ ap (λ b. if b then member s ds j (both bs cs x y ms) else member s ds (if bytes_eq cs ds then y else j) (put_named bs x ms)) (some_put bs cs ms x ∙ g)
      ∙ ap (λ b. member s ds (if b then y else j) (put_named bs x ms)) e

  two_names : (ds : List ℕ) → bytes_eq bs cs ≡ false → bytes_eq bs ds ≡ true → bytes_eq cs ds ≡ true → ⊥
  two_names ds n e f = let h : bytes_eq bs cs ≡ true = (bytes_eq-Decides bs cs).1 ((bytes_eq-Decides bs ds).0 e ∙ sym ((bytes_eq-Decides cs ds).0 f)) in cc

  later : (s : Span) (ds : List ℕ) (j : Json) (ms : Members) (t u : Json) → is_some (named bs ms) ≡ true → is_some (named cs ms) ≡ true → Sides bs cs ms t u → Sides bs cs (member s ds j ms) t u
  later s ds j ms t u a b k = record {
    first = k.first;
    makes = λ x y es fs h g. subst (SwapsMembers (member s ds j ms) (in_order k.first es fs)) (sym (both_later x y s ds j ms a b))
        (member_swaps s ds j j ms (both bs cs x y ms) [] (in_order k.first es fs) (kept j) (k.makes x y es fs h g));
  }

  sides_case : (s : Span) (ds : List ℕ) (j : Json) (ms : Members) (t u : Json) → bytes_eq bs cs ≡ false
      → (o : Option Json) → named bs ms ≡ o → (p : Option Json) → named cs ms ≡ p → (a : Bool) → bytes_eq bs ds ≡ a → (b : Bool) → bytes_eq cs ds ≡ b
      → (o ≡ Some t → p ≡ Some u → Sides bs cs ms t u) → or_else o (if_named a j) ≡ Some t → or_else p (if_named b j) ≡ Some u → Sides bs cs (member s ds j ms) t u
  sides_case s ds j ms t u n (Some k) d (Some l) e a i b c rest f q = later s ds j ms t u (ap is_some d) (ap is_some e) (rest f q)
  sides_case s ds j ms t u n None d (Some l) e true i b c rest f q =
      let same : t ≡ j = cc in
      record {
        first = true;
        makes = λ x y es fs h g. subst (SwapsMembers (member s ds j ms) (es ++ fs)) (sym (first_here x y s ds j ms (ap is_some d) i (ap is_some e)))
            (member_swaps s ds j x ms (put_named cs y ms) es fs (subst (λ z. Swaps z es x) same h) (named_step cs ms u y fs (e ∙ q) g));
      }
  sides_case s ds j ms t u n (Some k) d None e a i true c rest f q =
      let same : u ≡ j = cc in
      record {
        first = false;
        makes = λ x y es fs h g. subst (SwapsMembers (member s ds j ms) (fs ++ es)) (sym (second_here x y s ds j ms (ap is_some d) (ap is_some e) c))
            (member_swaps s ds j y ms (put_named bs x ms) fs es (subst (λ z. Swaps z fs y) same g) (named_step bs ms t x es (d ∙ f) h));
      }
  sides_case s ds j ms t u n None d None e true i true c rest f q = absurd (two_names ds n i c)
  sides_case s ds j ms t u n None d p e false i b c rest f q = absurd (cc)
  sides_case s ds j ms t u n o d None e a i false c rest f q = absurd (cc)

  pub sides : (ms : Members) (t u : Json) → bytes_eq bs cs ≡ false → named bs ms ≡ Some t → named cs ms ≡ Some u → Sides bs cs ms t u
  unfolding named
  sides no_members t u n e f = absurd (cc)
  sides (member s ds j ms) t u n e f = sides_case s ds j ms t u n (named bs ms) refl (named cs ms) refl (bytes_eq bs ds) refl (bytes_eq cs ds) refl (λ d l. sides ms t u n d l) e f

-- a value isn't empty
filled : (j : Json) (at : ℕ) (bs : List ℕ) → value j at bs → (span_of j).from < (span_of j).to
filled j at bs v =
    let starts = value_starts j at bs v in
    let from : (span_of j).from ≡ at = ap (λ (s : Span). s.from) (span_is j at bs v) in
    let to : (span_of j).to ≡ at + length bs = ap (λ (s : Span). s.to) (span_is j at bs v) in
    let long : length bs ≡ suc (length starts.after) = ap length starts.is in
    omega (arith, from, to, long)

member_filled : (cs : List ℕ) (s : Span) (ms : Members) (j : Json) (at : ℕ) (bs : List ℕ) → value (object s ms) at bs → named cs ms ≡ Some j → (span_of j).from < (span_of j).to
unfolding value_at
member_filled cs s ms j at bs v e =
    let i : Inside at bs j = path_inside (key cs ∷ []) (object s ms) j (ap (λ o. option_and_then (λ k. Some k) o) e) at bs v in
    filled j (at + length i.before) i.bytes i.stands

-- as their places say
pub sides_are : (bs cs : List ℕ) (s : Span) (ms : Members) (t u : Json) (at : ℕ) (w : List ℕ) → value (object s ms) at w → named bs ms ≡ Some t → named cs ms ≡ Some u → (k : Sides bs cs ms t u)
    → nat_le (span_of t).to (span_of u).from ≡ k.first
sides_are bs cs s ms t u at w v e f k = go k.first (k.makes zero_value zero_value (edit t ∷ []) (edit u ∷ []) (swapped t zero_value zero_text zero_says) (swapped u zero_value zero_text zero_says))
  where
    edit : Json → Edit
    edit j = record { span = span_of j; text = zero_text }

    new : Members
    new = both bs cs zero_value zero_value ms

    go : (b : Bool) → SwapsMembers ms (in_order b (edit t ∷ []) (edit u ∷ [])) new → nat_le (span_of t).to (span_of u).from ≡ b
    go true h =
        let made = swap_makes (in_object s ms new (edit t ∷ edit u ∷ []) h) at w v in
        let r : RiseFrom at (at + length w) (edit t ∷ edit u ∷ []) = edits_rise (edit t ∷ edit u ∷ []) at (at + length w) w made.out made.edits refl in
        le-leb (span_of t).to (span_of u).from r.2.0
    go false h =
        let made = swap_makes (in_object s ms new (edit u ∷ edit t ∷ []) h) at w v in
        let r : RiseFrom at (at + length w) (edit u ∷ edit t ∷ []) = edits_rise (edit u ∷ edit t ∷ []) at (at + length w) w made.out made.edits refl in
        let one : (span_of t).from < (span_of t).to = member_filled bs s ms t at w v e in
        let two : (span_of u).from < (span_of u).to = member_filled cs s ms u at w v f in
        let past : (span_of u).to ≤ (span_of t).from = r.2.0 in
        lt-leb (span_of t).to (span_of u).from (omega (arith, one, two, past))
