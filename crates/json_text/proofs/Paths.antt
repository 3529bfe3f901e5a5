-- Putting another value at the end of a path: its edit, its depth, what else stays.
use Rattle.std.proofs.Common.{◌≡◌, ℕ, zero, suc, Bool, true, false, List, [], ◌∷◌, bytes_eq, is_some, if◌then◌else◌, Option, Some, None, refl, subst, append-nil}
use Rattle.std.specs.Option.{option_and_then}
use Rattle.json_text.specs.declared.span.Span.{Span}
use Rattle.json_text.specs.Json.{Json, word, number, string, array, object, Items, no_items, item, Members, no_members, member, span_of, IsText}
use Rattle.json_text.specs.Named.{named, or_else, if_named}
use Rattle.json_text.specs.Paths.{Step, key, index, item_at, step_to, value_at, put_named, put_item, put_step, put_at}
use Rattle.json_text.specs.Replace.{Edit}
use Rattle.json_text.proofs.Forms.{says}
use Rattle.json_text.proofs.Swaps.{Swaps, kept, swapped, in_array, in_object, SwapsItems, no_swaps, item_swaps, SwapsMembers, no_member_swaps, member_swaps, Replaced, replaced}

items_kept : (js : Items) → SwapsItems js [] js
items_kept no_items = no_swaps
items_kept (item j js) = item_swaps j j js js [] [] (kept j) (items_kept js)

members_kept : (ms : Members) → SwapsMembers ms [] ms
members_kept no_members = no_member_swaps
members_kept (member s cs j ms) = member_swaps s cs j j ms ms [] [] (kept j) (members_kept ms)

first_item : (j u : Json) (js : Items) (es : List Edit) → Swaps j es u → SwapsItems (item j js) es (item u js)
first_item j u js es h = subst (λ z. SwapsItems (item j js) z (item u js)) (append-nil es) (item_swaps j u js js es [] h (items_kept js))

first_member : (s : Span) (cs : List ℕ) (j u : Json) (ms : Members) (es : List Edit) → Swaps j es u → SwapsMembers (member s cs j ms) es (member s cs u ms)
first_member s cs j u ms es h = subst (λ z. SwapsMembers (member s cs j ms) z (member s cs u ms)) (append-nil es) (member_swaps s cs j u ms ms es [] h (members_kept ms))

item_step : (n : ℕ) (js : Items) (t u : Json) (es : List Edit) → item_at n js ≡ Some t → Swaps t es u → SwapsItems js es (put_item n u js)
unfolding item_at put_item
item_step n no_items t u es e h = absurd (cc)
item_step zero (item j js) t u es e h = let same : t ≡ j = cc in first_item j u js es (subst (λ z. Swaps z es u) same h)
item_step (suc n) (item j js) t u es e h = item_swaps j j js (put_item n u js) [] es (kept j) (item_step n js t u es e h)

named_case : (s : Span) (ds : List ℕ) (j : Json) (ms rest : Members) (t u : Json) (es : List Edit) (o : Option Json) (b : Bool) → Swaps t es u
    → (o ≡ Some t → SwapsMembers ms es rest) → or_else o (if_named b j) ≡ Some t
    → SwapsMembers (member s ds j ms) es (if is_some o then member s ds j rest else member s ds (if b then u else j) ms)
named_case s ds j ms rest t u es (Some k) b h f e = member_swaps s ds j j ms rest [] es (kept j) (f e)
named_case s ds j ms rest t u es None true h f e = let same : t ≡ j = cc in first_member s ds j u ms es (subst (λ z. Swaps z es u) same h)
named_case s ds j ms rest t u es None false h f e = absurd (cc)

-- edits of the last member of a name are edits of the members
pub named_step : (cs : List ℕ) (ms : Members) (t u : Json) (es : List Edit) → named cs ms ≡ Some t → Swaps t es u → SwapsMembers ms es (put_named cs u ms)
unfolding named put_named
named_step cs no_members t u es e h = absurd (cc)
named_step cs (member s ds j ms) t u es e h = named_case s ds j ms (put_named cs u ms) t u es (named cs ms) (bytes_eq cs ds) h (λ d. named_step cs ms t u es d h) e

step_swaps : (s : Step) (j t u : Json) (es : List Edit) → step_to s j ≡ Some t → Swaps t es u → Swaps j es (put_step s u j)
step_swaps (key cs) (object s ms) t u es e h = in_object s ms (put_named cs u ms) es (named_step cs ms t u es e h)
step_swaps (key cs) (array s js) t u es e h = absurd (cc)
step_swaps (key cs) (word s w) t u es e h = absurd (cc)
step_swaps (key cs) (number s ds) t u es e h = absurd (cc)
step_swaps (key cs) (string s ds) t u es e h = absurd (cc)
step_swaps (index n) (array s js) t u es e h = in_array s js (put_item n u js) es (item_step n js t u es e h)
step_swaps (index n) (object s ms) t u es e h = absurd (cc)
step_swaps (index n) (word s w) t u es e h = absurd (cc)
step_swaps (index n) (number s ds) t u es e h = absurd (cc)
step_swaps (index n) (string s ds) t u es e h = absurd (cc)

-- edits of the value at the end of a path are edits of the whole
pub path_swaps : (path : List Step) (j t u : Json) (es : List Edit) → value_at path j ≡ Some t → Swaps t es u → Swaps j es (put_at path u j)
unfolding value_at put_at
path_swaps [] j t u es e h = let same : t ≡ j = cc in subst (λ z. Swaps z es u) same h
path_swaps (s ∷ path) j t u es e h = go (step_to s j) refl (λ k d. path_swaps path k t u es d h) e
  where
    go : (o : Option Json) → step_to s j ≡ o → ((k : Json) → value_at path k ≡ Some t → Swaps k es (put_at path u k)) → option_and_then (λ k. value_at path k) o ≡ Some t
        → Swaps j es (elim o [ None ↦ j | Some k ↦ put_step s (put_at path u k) j ])
    go None d f e = absurd (cc)
    go (Some k) d f e = step_swaps s j k (put_at path u k) es d (f k e)

-- the value at the end of the path gives way to another
pub put_swaps : (path : List Step) (j t u : Json) (w : List ℕ) → value_at path j ≡ Some t → says u w → Swaps j (record { span = span_of t; text = w } ∷ []) (put_at path u j)
put_swaps path j t u w e h = path_swaps path j t u (record { span = span_of t; text = w } ∷ []) e (swapped t u w h)

-- the text with the new value's bytes in place of the old one's
pub text_put : (bytes : List ℕ) (path : List Step) (j t u : Json) (w : List ℕ) → IsText bytes j → value_at path j ≡ Some t → says u w
    → Replaced bytes (record { span = span_of t; text = w } ∷ []) (put_at path u j)
text_put bytes path j t u w text e h = replaced bytes (record { span = span_of t; text = w } ∷ []) j (put_at path u j) text (put_swaps path j t u w e h)

-- an object's text with the bytes of a member's value replaced
pub member_put : (bytes : List ℕ) (s : Span) (cs : List ℕ) (ms : Members) (t u : Json) (w : List ℕ) → IsText bytes (object s ms) → named cs ms ≡ Some t → says u w
    → Replaced bytes (record { span = span_of t; text = w } ∷ []) (object s (put_named cs u ms))
member_put bytes s cs ms t u w text e h =
    let es : List Edit = record { span = span_of t; text = w } ∷ [] in
    replaced bytes es (object s ms) (object s (put_named cs u ms)) text (step_swaps (key cs) (object s ms) t u es e (swapped t u w h))
