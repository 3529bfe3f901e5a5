-- The text of what two values have in common says its tree.
use Rattle.std.proofs.Common.{◌≡◌, ℕ, suc, ◌+◌, ◌≤◌, Bool, true, false, List, [], ◌∷◌, ◌++◌, length, max, refl, sym, ◌∙◌, ap, subst, arith, codes}
use Rattle.std.specs.Prelude.{Option, Some, None, bytes_eq, if◌then◌else◌}
use Rattle.std.specs.List.{slice_get}
use Rattle.std.specs.Option.{option_and_then, option_map}
use Rattle.json_text.specs.declared.span.Span.{Span}
use Rattle.json_text.specs.Json.{Json, word, number, string, array, object, Items, no_items, item, Members, no_members, member, ◌then◌, byte, space, spans, quoted, value, span_of, IsText, depth, items_depth, members_depth}
use Rattle.json_text.specs.Named.{items_list}
use Rattle.json_text.specs.Tree.{tree_of}
use Rattle.json_text.specs.Number.{IsNumber}
use Rattle.json_text.proofs.Compact.{bare_text, simple_quoted}
use Rattle.json_text.proofs.Forms.{quotes, quotes_of, name_and, says, says_of, says_items, says_more_items, says_members, says_more_members}
use Rattle.json_text.proofs.Laws.{tree_sound, tree_complete}
use Rattle.json_text.proofs.Moves.{PlacedText, placed_text}
use Rattle.json_nodes.specs.Same.{has_name}
use Rattle.json_nodes.specs.Texts.{between}
use Rattle.json_nodes.proofs.Parts.{Part, all_part, part_in, in_first, in_second, child_part, value_span, between_is, Entry, entries, entry, entry_part, entry_name}
use Rattle.capability_meet.specs.Compact.{compact, compact_items, compact_members, name_text}
use Rattle.capability_meet.specs.DeclaredTree.{declared_of, declared_tree, left_out, members_and, members_changed, members_with, members_without, on_members, put_back, with_cancel, with_support}
use Rattle.capability_meet.specs.Meet.{items_of, meets, twin}
use Rattle.capability_meet.specs.MeetTree.{SaysTree, common_items, common_members, meet_of, meet_tree, met_text, put_member, whole_text}
use Rattle.capability_meet.specs.Order.{is_among}
use Rattle.capability_meet.specs.Parts.{braced, bracketed, listed, own}
use Rattle.capability_meet.specs.Shown.{members_of}
use Rattle.capability_meet.proofs.Names.{somewhere}

-- the bytes of values and names

span_bytes : (s : Span) (bs front text back : List ℕ) → bs ≡ front ++ (text ++ back) → s ≡ record { from = 0 + length front; to = 0 + length front + length text } → between s.from s.to bs ≡ text
span_bytes s bs front text back e h =
    let from : s.from ≡ 0 + length front = ap (λ (x : Span). x.from) h in
    let to : s.to ≡ 0 + length front + length text = ap (λ (x : Span). x.to) h in
    between_is front text back bs s.from s.to e (omega (arith, from)) (omega (arith, from, to))

own_says : (bs : List ℕ) (j : Json) → Part (value j) 0 bs → says j (own bs j)
own_says bs j p = subst (λ (xs : List ℕ). says j xs) (sym (span_bytes (span_of j) bs p.front p.text p.back p.whole (value_span j (0 + length p.front) p.text p.is))) (says_of j (0 + length p.front) p.text p.is)

name_says : (bs : List ℕ) (s : Span) (cs : List ℕ) → Part (spans s (quoted cs)) 0 bs → quotes cs (between s.from s.to bs)
name_says bs s cs p = subst (λ (xs : List ℕ). quotes cs xs) (sym (span_bytes s bs p.front p.text p.back p.whole p.is.1)) (quotes_of cs (0 + length p.front) p.text p.is.0)

-- a tree whose strings and names stand in the bytes, but for names that stand nowhere and are plain
abbrev mutual
  pub Written : List ℕ → Json → Type 0
  Written bs (word s w) = Unit {0}
  Written bs (number s ds) = IsNumber ds
  Written bs (string s cs) = quotes cs (own bs (string s cs))
  Written bs (array s js) = ItemsWritten bs js
  Written bs (object s ms) = MembersWritten bs ms

  pub ItemsWritten : List ℕ → Items → Type 0
  ItemsWritten bs no_items = Unit {0}
  ItemsWritten bs (item j js) = Written bs j × ItemsWritten bs js

  pub MembersWritten : List ℕ → Members → Type 0
  MembersWritten bs no_members = Unit {0}
  MembersWritten bs (member p cs j ms) = quotes cs (name_text bs p cs) × Written bs j × MembersWritten bs ms

-- its compact text says it

pub one_more_item : (j : Json) (js : Items) (x rest : List ℕ) → says j x → says_more_items js rest → says_more_items (item j js) (44 ∷ (x ++ rest))
one_more_item j js x rest h g = (44 ∷ [], x ++ rest, refl, refl, ([], x ++ rest, refl, tt, (x, rest, refl, h, ([], rest, refl, tt, g))))

pub first_item : (j : Json) (js : Items) (x rest : List ℕ) → says j x → says_more_items js rest → says_items (item j js) (x ++ rest)
first_item j js x rest h g = ([], x ++ rest, refl, tt, (x, rest, refl, h, ([], rest, refl, tt, g)))

pub array_says : (s : Span) (js : Items) (xs : List (List ℕ)) → says_items js (listed false xs) → says (array s js) (bracketed xs)
array_says s js xs h = (91 ∷ [], listed false xs ++ 93 ∷ [], refl, refl, (listed false xs, 93 ∷ [], refl, h, refl))

object_says : (s : Span) (ms : Members) (xs : List (List ℕ)) → says_members ms (listed false xs) → says (object s ms) (braced xs)
object_says s ms xs h = (123 ∷ [], listed false xs ++ 125 ∷ [], refl, refl, (listed false xs, 125 ∷ [], refl, h, refl))

pair_says : (cs : List ℕ) (j : Json) (q w : List ℕ) → quotes cs q → says j w → name_and cs (says j) (q ++ (58 ∷ w))
pair_says cs j q w h g = (q, 58 ∷ w, refl, h, ([], 58 ∷ w, refl, tt, (58 ∷ [], w, refl, refl, ([], w, refl, tt, g))))

first_member : (p : Span) (cs q : List ℕ) (j : Json) (w rest : List ℕ) (ms : Members) → quotes cs q → says j w → says_more_members ms rest → says_members (member p cs j ms) ((q ++ (58 ∷ w)) ++ rest)
first_member p cs q j w rest ms h g more = ([], (q ++ (58 ∷ w)) ++ rest, refl, tt, (q ++ (58 ∷ w), rest, refl, pair_says cs j q w h g, ([], rest, refl, tt, more)))

one_more_member : (p : Span) (cs q : List ℕ) (j : Json) (w rest : List ℕ) (ms : Members) → quotes cs q → says j w → says_more_members ms rest → says_more_members (member p cs j ms) (44 ∷ ((q ++ (58 ∷ w)) ++ rest))
one_more_member p cs q j w rest ms h g more = (44 ∷ [], (q ++ (58 ∷ w)) ++ rest, refl, refl, ([], (q ++ (58 ∷ w)) ++ rest, refl, tt, (q ++ (58 ∷ w), rest, refl, pair_says cs j q w h g, ([], rest, refl, tt, more))))

mutual
  pub compact_says : (bs : List ℕ) (j : Json) → Written bs j → says j (compact bs j)
  compact_says bs (word s w) h = refl
  compact_says bs (number s ds) h = (refl, h)
  compact_says bs (string s cs) h = h
  compact_says bs (array s js) h = array_says s js (compact_items bs js) (items_say bs js h)
  compact_says bs (object s ms) h = object_says s ms (compact_members bs ms) (members_say bs ms h)

  items_say : (bs : List ℕ) (js : Items) → ItemsWritten bs js → says_items js (listed false (compact_items bs js))
  items_say bs no_items h = tt
  items_say bs (item j js) h = first_item j js (compact bs j) (listed true (compact_items bs js)) (compact_says bs j h.0) (more_items_say bs js h.1)

  more_items_say : (bs : List ℕ) (js : Items) → ItemsWritten bs js → says_more_items js (listed true (compact_items bs js))
  more_items_say bs no_items h = refl
  more_items_say bs (item j js) h = one_more_item j js (compact bs j) (listed true (compact_items bs js)) (compact_says bs j h.0) (more_items_say bs js h.1)

  members_say : (bs : List ℕ) (ms : Members) → MembersWritten bs ms → says_members ms (listed false (compact_members bs ms))
  members_say bs no_members h = tt
  members_say bs (member p cs j ms) h = first_member p cs (name_text bs p cs) j (compact bs j) (listed true (compact_members bs ms)) ms h.0 (compact_says bs j h.1) (more_members_say bs ms h.2)

  more_members_say : (bs : List ℕ) (ms : Members) → MembersWritten bs ms → says_more_members ms (listed true (compact_members bs ms))
  more_members_say bs no_members h = refl
  more_members_say bs (member p cs j ms) h = one_more_member p cs (name_text bs p cs) j (compact bs j) (listed true (compact_members bs ms)) ms h.0 (compact_says bs j h.1) (more_members_say bs ms h.2)

-- a value that stands in the bytes

abbrev ItemsIn : List ℕ → Items → Type 0
ItemsIn bs js = (n : ℕ) (j : Json) → slice_get (items_list js) n ≡ Some j → Part (value j) 0 bs

items_in : (bs : List ℕ) (s : Span) (js : Items) → Part (value (array s js)) 0 bs → ItemsIn bs js
items_in bs s js p n j e = part_in (value (array s js)) (value j) 0 bs p (λ i xs h. child_part (array s js) n j i xs h e)

abbrev MembersIn : List ℕ → Members → Type 0
MembersIn bs ms = (n : ℕ) (e : Entry) → slice_get (entries ms) n ≡ Some e → Part (entry e) 0 bs

members_in : (bs : List ℕ) (s : Span) (ms : Members) → Part (value (object s ms)) 0 bs → MembersIn bs ms
members_in bs s ms p n e g = part_in (value (object s ms)) (entry e) 0 bs p (λ i xs h. entry_part s ms n e i xs h g)

value_in : (bs : List ℕ) (e : Entry) → Part (entry e) 0 bs → Part (value e.content) 0 bs
value_in bs e p = part_in (entry e) (value e.content) 0 bs p (λ i xs h. in_second (spans e.place (quoted e.characters)) (space then byte 58 then space then value e.content) (value e.content) i xs h
    (λ i xs h. in_second space (byte 58 then space then value e.content) (value e.content) i xs h
    (λ i xs h. in_second (byte 58) (space then value e.content) (value e.content) i xs h
    (λ i xs h. in_second space (value e.content) (value e.content) i xs h
    (λ i xs h. all_part (value e.content) i xs h)))))

name_in : (bs : List ℕ) (e : Entry) → Part (entry e) 0 bs → Part (spans e.place (quoted e.characters)) 0 bs
name_in bs e p = part_in (entry e) (spans e.place (quoted e.characters)) 0 bs p (λ i xs h. entry_name e i xs h)

one_byte : (xs a b : List ℕ) → xs ≡ a ++ b → a ≡ 34 ∷ [] → 1 ≤ length xs
one_byte xs a b e h = rw (e, h) (omega arith)

quotes_somewhere : (bs : List ℕ) (s : Span) (cs : List ℕ) → Part (spans s (quoted cs)) 0 bs → quotes cs (name_text bs s cs)
quotes_somewhere bs s cs p =
    let q : quoted cs (0 + length p.front) p.text = p.is.0 in
    let to : s.to ≡ 0 + length p.front + length p.text = ap (λ (x : Span). x.to) p.is.1 in
    subst (λ (xs : List ℕ). quotes cs xs) (sym (somewhere bs s cs (omega (arith, to, one_byte p.text q.0 q.1 q.2 q.3)))) (name_says bs s cs p)

number_in : (bs : List ℕ) (s : Span) (ds : List ℕ) → Part (value (number s ds)) 0 bs → IsNumber ds
number_in bs s ds p = p.is.0.1

mutual
  pub part_written : (bs : List ℕ) (j : Json) → Part (value j) 0 bs → Written bs j
  part_written bs (word s w) p = tt
  part_written bs (number s ds) p = number_in bs s ds p
  part_written bs (string s cs) p = own_says bs (string s cs) p
  part_written bs (array s js) p = items_written bs js (items_in bs s js p)
  part_written bs (object s ms) p = members_written bs ms (members_in bs s ms p)

  items_written : (bs : List ℕ) (js : Items) → ItemsIn bs js → ItemsWritten bs js
  items_written bs no_items f = tt
  items_written bs (item j js) f = (part_written bs j (f 0 j refl), items_written bs js (λ n i e. f (suc n) i e))

  members_written : (bs : List ℕ) (ms : Members) → MembersIn bs ms → MembersWritten bs ms
  members_written bs no_members f = tt
  members_written bs (member p cs j ms) f =
      let e : Part (entry (record { place = p; characters = cs; content = j })) 0 bs = f 0 (record { place = p; characters = cs; content = j }) refl in
      (quotes_somewhere bs p cs (name_in bs (record { place = p; characters = cs; content = j }) e), part_written bs j (value_in bs (record { place = p; characters = cs; content = j }) e), members_written bs ms (λ n d g. f (suc n) d g))

-- what two have in common

items_kept : (bs : List ℕ) (j : Json) (js : Items) (b : Bool) → Written bs j → ItemsWritten bs js → ItemsWritten bs (if b then item j js else js)
items_kept bs j js true h g = (h, g)
items_kept bs j js false h g = g

common_written : (bs : List ℕ) (js ks : Items) → ItemsWritten bs js → ItemsWritten bs (common_items js ks)
common_written bs no_items ks h = tt
common_written bs (item j js) ks h = items_kept bs j (common_items js ks) (is_among j ks) h.0 (common_written bs js ks h.1)

put_written : (bs : List ℕ) (p : Span) (cs : List ℕ) (tree : Json → Json) (o : Option Json) (ms : Members) → quotes cs (name_text bs p cs) → ((k : Json) → Written bs (tree k)) → MembersWritten bs ms → MembersWritten bs (put_member p cs (option_map (λ k. tree k) o) ms)
put_written bs p cs tree None ms h f g = g
put_written bs p cs tree (Some k) ms h f g = (h, f k, g)

mutual
  pub meet_written : (bs : List ℕ) (j k : Json) → Written bs j → Written bs (meet_tree j k)
  meet_written bs (word s w) k h = h
  meet_written bs (number s ds) k h = h
  meet_written bs (string s cs) k h = h
  meet_written bs (array s js) k h = common_written bs js (items_of k) h
  meet_written bs (object s ms) k h = met_written bs ms (members_of k) h

  met_written : (bs : List ℕ) (ms ns : Members) → MembersWritten bs ms → MembersWritten bs (common_members ms ns)
  met_written bs no_members ns h = tt
  met_written bs (member p cs j ms) ns h = put_written bs p cs (λ k. meet_tree j k) (twin cs j ms ns) (common_members ms ns) h.0 (λ k. meet_written bs j k h.1) (met_written bs ms ns h.2)

-- what is declared

without_written : (bs name : List ℕ) (ms : Members) → MembersWritten bs ms → MembersWritten bs (members_without name ms)
without_written bs name no_members h = tt
without_written bs name (member p cs j ms) h = go (bytes_eq name cs) (without_written bs name ms h.2)
  where
    go : (b : Bool) → MembersWritten bs (members_without name ms) → MembersWritten bs (if b then members_without name ms else member p cs j (members_without name ms))
    go true g = g
    go false g = (h.0, h.1, g)

changed_written : (bs name : List ℕ) (f : Json → Json) (ms : Members) → ((j : Json) → Written bs j → Written bs (f j)) → MembersWritten bs ms → MembersWritten bs (members_changed name f ms)
changed_written bs name f no_members g h = tt
changed_written bs name f (member p cs j ms) g h = (h.0, go (bytes_eq name cs), changed_written bs name f ms g h.2)
  where
    go : (b : Bool) → Written bs (if b then f j else j)
    go true = g j h.1
    go false = h.1

and_written : (bs name : List ℕ) (ms : Members) → quotes name (34 ∷ (name ++ 34 ∷ [])) → MembersWritten bs ms → MembersWritten bs (members_and name ms)
and_written bs name no_members q h = (q, tt, tt)
and_written bs name (member p cs j ms) q h = (h.0, h.1, and_written bs name ms q h.2)

with_written : (bs name : List ℕ) (ms : Members) → quotes name (34 ∷ (name ++ 34 ∷ [])) → MembersWritten bs ms → MembersWritten bs (members_with name ms)
with_written bs name ms q h = go (has_name name ms)
  where
    go : (b : Bool) → MembersWritten bs (if b then ms else members_and name ms)
    go true = h
    go false = and_written bs name ms q h

on_written : (bs : List ℕ) (f : Members → Members) → ((ms : Members) → MembersWritten bs ms → MembersWritten bs (f ms)) → (j : Json) → Written bs j → Written bs (on_members f j)
on_written bs f g (word s w) h = h
on_written bs f g (number s ds) h = h
on_written bs f g (string s cs) h = h
on_written bs f g (array s js) h = h
on_written bs f g (object s ms) h = g ms h

required_written : (bs inner name : List ℕ) → quotes name (34 ∷ (name ++ 34 ∷ [])) → (j : Json) → Written bs j → Written bs (on_members (λ ms. members_changed inner (λ k. on_members (λ ns. members_with name ns) k) ms) j)
required_written bs inner name q = on_written bs (λ ms. members_changed inner (λ k. on_members (λ ns. members_with name ns) k) ms) (λ ms h. changed_written bs inner (λ k. on_members (λ ns. members_with name ns) k) ms (on_written bs (λ ns. members_with name ns) (λ ns g. with_written bs name ns q g)) h)

pub declared_written : (bs : List ℕ) (j k : Json) → Written bs j → Written bs (declared_tree j k)
declared_written bs j k h =
    on_written bs (λ ms. members_changed (codes "general") (λ l. with_cancel l) (members_changed (codes "window") (λ l. with_support l) ms))
    (λ ms g. changed_written bs (codes "general") (λ l. with_cancel l) (members_changed (codes "window") (λ l. with_support l) ms) (required_written bs (codes "staleRequestSupport") (codes "cancel") (simple_quoted (codes "cancel") refl))
    (changed_written bs (codes "window") (λ l. with_support l) ms (required_written bs (codes "showDocument") (codes "support") (simple_quoted (codes "support") refl)) g))
    (left_out (meet_tree j k))
    (on_written bs (λ ms. members_without (codes "offsetEncoding") (members_without (codes "notebookDocument") ms)) (λ ms g. without_written bs (codes "offsetEncoding") (members_without (codes "notebookDocument") ms) (without_written bs (codes "notebookDocument") ms g)) (meet_tree j k) (meet_written bs j k h))

-- no deeper than the first

item_if_deep : (j : Json) (js is : Items) (b : Bool) → items_depth js ≤ items_depth is → items_depth (if b then item j js else js) ≤ max (depth j) (items_depth is)
item_if_deep j js is true h = omega (arith, h)
item_if_deep j js is false h = omega (arith, h)

items_deep : (js ks : Items) → items_depth (common_items js ks) ≤ items_depth js
items_deep no_items ks = omega arith
items_deep (item j js) ks = item_if_deep j (common_items js ks) js (is_among j ks) (items_deep js ks)

put_deep : (s : Span) (cs : List ℕ) (j : Json) (tree : Json → Json) (o : Option Json) (ms ns : Members) → ((k : Json) → depth (tree k) ≤ depth j) → members_depth ms ≤ members_depth ns
    → members_depth (put_member s cs (option_map (λ k. tree k) o) ms) ≤ max (depth j) (members_depth ns)
put_deep s cs j tree None ms ns f h = omega (arith, h)
put_deep s cs j tree (Some k) ms ns f h = omega (arith, h, f k)

mutual
  meet_deep : (j k : Json) → depth (meet_tree j k) ≤ depth j
  meet_deep (word s w) k = omega arith
  meet_deep (number s ds) k = omega arith
  meet_deep (string s cs) k = omega arith
  meet_deep (array s js) k = omega (arith, items_deep js (items_of k))
  meet_deep (object s ms) k = omega (arith, members_deep ms (members_of k))

  members_deep : (ms ns : Members) → members_depth (common_members ms ns) ≤ members_depth ms
  members_deep no_members ns = omega arith
  members_deep (member p cs j ms) ns = put_deep p cs j (λ k. meet_tree j k) (twin cs j ms ns) (common_members ms ns) ms (λ k. meet_deep j k) (members_deep ms ns)

without_deep : (name : List ℕ) (ms : Members) → members_depth (members_without name ms) ≤ members_depth ms
without_deep name no_members = omega arith
without_deep name (member p cs j ms) = go (bytes_eq name cs) (without_deep name ms)
  where
    go : (b : Bool) → members_depth (members_without name ms) ≤ members_depth ms → members_depth (if b then members_without name ms else member p cs j (members_without name ms)) ≤ max (depth j) (members_depth ms)
    go true h = omega (arith, h)
    go false h = omega (arith, h)

changed_deep : (name : List ℕ) (f : Json → Json) (ms : Members) → ((j : Json) → depth (f j) ≤ depth j) → members_depth (members_changed name f ms) ≤ members_depth ms
changed_deep name f no_members g = omega arith
changed_deep name f (member p cs j ms) g = go (bytes_eq name cs) (changed_deep name f ms g)
  where
    go : (b : Bool) → members_depth (members_changed name f ms) ≤ members_depth ms → members_depth (member p cs (if b then f j else j) (members_changed name f ms)) ≤ max (depth j) (members_depth ms)
    go true h = omega (arith, h, g j)
    go false h = omega (arith, h)

and_deep : (name : List ℕ) (ms : Members) → members_depth (members_and name ms) ≤ members_depth ms
and_deep name no_members = omega arith
and_deep name (member p cs j ms) = omega (arith, and_deep name ms)

with_deep : (name : List ℕ) (ms : Members) → members_depth (members_with name ms) ≤ members_depth ms
with_deep name ms = go (has_name name ms)
  where
    go : (b : Bool) → members_depth (if b then ms else members_and name ms) ≤ members_depth ms
    go true = omega arith
    go false = and_deep name ms

on_deep : (f : Members → Members) → ((ms : Members) → members_depth (f ms) ≤ members_depth ms) → (j : Json) → depth (on_members f j) ≤ depth j
on_deep f g (word s w) = omega arith
on_deep f g (number s ds) = omega arith
on_deep f g (string s cs) = omega arith
on_deep f g (array s js) = omega arith
on_deep f g (object s ms) = omega (arith, g ms)

required_deep : (inner name : List ℕ) (j : Json) → depth (on_members (λ ms. members_changed inner (λ k. on_members (λ ns. members_with name ns) k) ms) j) ≤ depth j
required_deep inner name = on_deep (λ ms. members_changed inner (λ k. on_members (λ ns. members_with name ns) k) ms) (λ ms. changed_deep inner (λ k. on_members (λ ns. members_with name ns) k) ms (on_deep (λ ns. members_with name ns) (λ ns. with_deep name ns)))

left_deep : (j : Json) → depth (left_out j) ≤ depth j
left_deep j = on_deep (λ ms. members_without (codes "offsetEncoding") (members_without (codes "notebookDocument") ms)) (λ ms. omega (arith, without_deep (codes "offsetEncoding") (members_without (codes "notebookDocument") ms), without_deep (codes "notebookDocument") ms)) j

back_deep : (j : Json) → depth (put_back j) ≤ depth j
back_deep j = on_deep (λ ms. members_changed (codes "general") (λ l. with_cancel l) (members_changed (codes "window") (λ l. with_support l) ms))
    (λ ms. omega (arith, changed_deep (codes "general") (λ l. with_cancel l) (members_changed (codes "window") (λ l. with_support l) ms) (required_deep (codes "staleRequestSupport") (codes "cancel")), changed_deep (codes "window") (λ l. with_support l) ms (required_deep (codes "showDocument") (codes "support")))) j

declared_deep : (j k : Json) → depth (declared_tree j k) ≤ depth j
declared_deep j k = omega (arith, back_deep (left_out (meet_tree j k)), left_deep (meet_tree j k), meet_deep j k)

-- texts

whole_part : (bytes : List ℕ) (j : Json) → IsText bytes j → Part (value j) 0 bytes
whole_part bytes j h = in_second space (value j then space) (value j) 0 bytes h (λ i xs h. in_first (value j) space (value j) i xs h (λ i xs h. all_part (value j) i xs h))

text_says : (text : List ℕ) (j : Json) → says j text → depth j ≤ 1024 → SaysTree text j
text_says text j h d = let p : PlacedText j text = placed_text j text (bare_text j text h) in (p.tree, tree_complete text p.tree p.text (omega (arith, p.deep, d)), p.same)

met_is : (tree : Json → Json → Json) (a b : List ℕ) (j k : Json) → tree_of a ≡ Some j → tree_of b ≡ Some k → meets j k ≡ true → met_text tree a b ≡ Some (compact a (tree j k))
met_is tree a b j k h g m =
    ap (λ o. option_and_then (λ j. option_map (λ k. whole_text tree a j k) (tree_of b)) o) h ∙ ap (λ o. option_map (λ k. whole_text tree a j k) o) g
    ∙ ap (λ x. Some (if x then compact a (tree j k) else codes "{}")) m

text_of : (tree : Json → Json → Json) → ((bs : List ℕ) (j k : Json) → Written bs j → Written bs (tree j k)) → ((j k : Json) → depth (tree j k) ≤ depth j)
    → (a b : List ℕ) (j k : Json) → tree_of a ≡ Some j → tree_of b ≡ Some k → meets j k ≡ true → (text : List ℕ) × (met_text tree a b ≡ Some text) × SaysTree text (tree j k)
text_of tree written deep a b j k h g m =
    let t : IsText a j × (depth j ≤ 1024) = tree_sound a j h in
    (compact a (tree j k), met_is tree a b j k h g m, text_says (compact a (tree j k)) (tree j k) (compact_says a (tree j k) (written a j k (part_written a j (whole_part a j t.0)))) (omega (arith, t.1, deep j k)))

pub meet_text_says : (a b : List ℕ) (j k : Json) → tree_of a ≡ Some j → tree_of b ≡ Some k → meets j k ≡ true → (text : List ℕ) × (meet_of a b ≡ Some text) × SaysTree text (meet_tree j k)
meet_text_says = text_of (λ j k. meet_tree j k) meet_written meet_deep

pub declared_text_says : (a b : List ℕ) (j k : Json) → tree_of a ≡ Some j → tree_of b ≡ Some k → meets j k ≡ true → (text : List ℕ) × (declared_of a b ≡ Some text) × SaysTree text (declared_tree j k)
declared_text_says = text_of (λ j k. declared_tree j k) declared_written declared_deep

-- and it stands as it is written, no deeper than the first
pub declared_stands : (a b : List ℕ) (j k : Json) → tree_of a ≡ Some j → tree_of b ≡ Some k → meets j k ≡ true
    → (declared_of a b ≡ Some (compact a (declared_tree j k))) × says (declared_tree j k) (compact a (declared_tree j k)) × (depth (declared_tree j k) ≤ depth j)
declared_stands a b j k h g m =
    let t : IsText a j × (depth j ≤ 1024) = tree_sound a j h in
    (met_is (λ j k. declared_tree j k) a b j k h g m, compact_says a (declared_tree j k) (declared_written a j k (part_written a j (whole_part a j t.0))), declared_deep j k)
