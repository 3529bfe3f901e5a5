-- What editors are shown of a start's result (LSP 3.17, InitializeResult) is the text of a value, and so the body with it is a result.
use Rattle.std.proofs.Common.{◌≡◌, ℕ, ◌+◌, ◌≤◌, ◌<◌, Bool, true, false, ◌||◌, List, [], ◌∷◌, ◌++◌, length, Option, Some, None, option_map, is_some, bytes_eq, if◌then◌else◌, nat_lt, refl, sym, ◌∙◌, ap, ap₂, subst, subst₂, append_assoc, append-nil, length-append, arith, codes}
use Rattle.std.specs.Option.{option_and_then}
use Rattle.std.proofs.lemmas.Bool.{lt-ltb}
use Rattle.std.proofs.lemmas.Bool.Decides.{nat_tests}
use Rattle.json_text.specs.declared.change.Change.{Change}
use Rattle.json_text.specs.declared.span.Span.{Span}
use Rattle.json_text.specs.Json.{Json, word, number, string, array, object, Members, no_members, member, ◌then◌, byte, space, pair, value, members, more_members, span_of, depth, members_depth}
use Rattle.json_text.specs.Named.{named, named_in, or_else, if_named}
use Rattle.json_text.specs.Paths.{key, value_at, put_at}
use Rattle.json_text.specs.Bare.{bare}
use Rattle.json_text.specs.Tree.{tree_of}
use Rattle.json_text.proofs.Depths.{put_shallow}
use Rattle.json_text.proofs.Forms.{one, blank, quotes, quotes_of, name_and, says, says_members, says_more_members, says_of}
use Rattle.json_text.proofs.Inside.{Inside, path_inside}
use Rattle.json_text.proofs.Laws.{tree_complete}
use Rattle.json_text.proofs.Moves.{Placed, placed}
use Rattle.json_text.proofs.Paths.{put_swaps}
use Rattle.json_text.proofs.Put.{depth_bare}
use Rattle.json_text.proofs.Swaps.{Out, swap_makes}
use Rattle.json_nodes.specs.Texts.{between}
use Rattle.json_nodes.proofs.Parts.{Part, all_part, part_in, value_span, between_is}
use Rattle.rpc_message.specs.Message.{Id, integer, request, result, id_bytes, message_of, result_bytes}
use Rattle.rpc_message.specs.Texts.{ok_text}
use Rattle.rpc_message.specs.ValueTexts.{IsShallowText}
use Rattle.rpc_message.proofs.Fixed.{id_as_response, ok_law}
use Rattle.rpc_message.proofs.Ids.{request_id_bytes, result_bytes_law}
use Rattle.event_model.specs.Stages.{is_first_result}
use Rattle.mux_facts.proofs.Table.{FirstResult, first_result_is}
use Rattle.group_words.specs.Houses.{given_or}
use Rattle.group_words.specs.Rows.{shown_of}
use Rattle.group_words.specs.capability_meet.specs.Parts.{braced, listed, window}
use Rattle.group_words.specs.capability_meet.specs.Shown.{capabilities_text, change_of, other_pairs, shown_text, without, workspace_text}

-- bytes that say a value which nests no deeper than this one
record Says (j : Json) (bytes : List ℕ) : Type 0 where
  tree : Json
  form : says tree bytes
  deep : depth tree ≤ depth j

-- a change that puts the text of such a value in place of a member's
record Fits (j : Json) (c : Change) : Type 0 where
  name : List ℕ
  inner : Json
  there : named_in name j ≡ Some inner
  place : c.span ≡ span_of inner
  text : Says inner c.text

abbrev MayFit : Json → Option Change → Type 0
MayFit j None = Unit {0}
MayFit j (Some c) = Fits j c

-- the bytes between two places, with a change

below : (m n : ℕ) → m < n → nat_lt m n ≡ true
below m n h = lt-ltb m n h

not_below : (m n : ℕ) → n ≤ m → nat_lt m n ≡ false
not_below m n h = grind (arith, nat_tests)

or_true : (a : Bool) → (a || true) ≡ true
or_true true = refl
or_true false = refl

window_inside : (bs : List ℕ) (c : Change) (from to : ℕ) → from ≤ c.span.from → c.span.to ≤ to → window bs (Some c) from to ≡ between from c.span.from bs ++ (c.text ++ between c.span.to to bs)
window_inside bs c from to h g = ap₂ (λ a b. if a || b then between from to bs else between from c.span.from bs ++ (c.text ++ between c.span.to to bs)) (not_below c.span.from from h) (not_below to c.span.to g)

window_behind : (bs : List ℕ) (c : Change) (from to : ℕ) → c.span.from < from → window bs (Some c) from to ≡ between from to bs
window_behind bs c from to h = ap (λ a. if a || nat_lt to c.span.to then between from to bs else between from c.span.from bs ++ (c.text ++ between c.span.to to bs)) (below c.span.from from h)

window_before : (bs : List ℕ) (c : Change) (from to : ℕ) → to < c.span.to → window bs (Some c) from to ≡ between from to bs
window_before bs c from to h = ap (λ b. if b then between from to bs else between from c.span.from bs ++ (c.text ++ between c.span.to to bs))
    (ap (λ b. nat_lt c.span.from from || b) (below to c.span.to h) ∙ or_true (nat_lt c.span.from from))

first_shift : (front a b c back : List ℕ) → front ++ ((a ++ (b ++ c)) ++ back) ≡ front ++ (a ++ ((b ++ c) ++ back))
first_shift front a b c back = simp append_assoc

last_shift : (front a b c back : List ℕ) → front ++ ((a ++ (b ++ c)) ++ back) ≡ (front ++ (a ++ b)) ++ (c ++ back)
last_shift front a b c back = simp append_assoc

-- the middle of these bytes gives way to the text
window_of : (bs front a b c back : List ℕ) (ch : Change) (from to : ℕ) → bs ≡ front ++ ((a ++ (b ++ c)) ++ back) → from ≡ length front → to ≡ from + length a + length b + length c
    → ch.span.from ≡ from + length a → ch.span.to ≡ from + length a + length b → window bs (Some ch) from to ≡ a ++ (ch.text ++ c)
window_of bs front a b c back ch from to e f g h i =
    window_inside bs ch from to (omega (arith, h)) (omega (arith, g, i))
    ∙ ap₂ (λ x y. x ++ (ch.text ++ y)) (between_is front a ((b ++ c) ++ back) bs from ch.span.from (e ∙ first_shift front a b c back) f h)
    (between_is (front ++ (a ++ b)) c back bs ch.span.to to (e ∙ last_shift front a b c back) (omega (arith, i, f, length-append front (a ++ b), length-append a b)) (omega (arith, i, g)))

-- a value's own bytes, with a change in it
changed_says : (bs : List ℕ) (c : Change) (j : Json) → Part (value j) 0 bs → Fits j c → Says j (window bs (Some c) (span_of j).from (span_of j).to)
unfolding value_at
changed_says bs c j p f =
    let path = key f.name ∷ [] in
    let there : value_at path j ≡ Some f.inner = ap (λ o. option_and_then (λ k. Some k) o) f.there in
    let made : Out (says (put_at path f.text.tree j)) (0 + length p.front) p.text (record { span = span_of f.inner; text = c.text } ∷ []) = swap_makes (put_swaps path j f.inner f.text.tree c.text there f.text.form) (0 + length p.front) p.text p.is in
    let e = made.edits in
    let from : (span_of j).from ≡ 0 + length p.front = ap (λ (s : Span). s.from) (value_span j (0 + length p.front) p.text p.is) in
    let to : (span_of j).to ≡ 0 + length p.front + length p.text = ap (λ (s : Span). s.to) (value_span j (0 + length p.front) p.text p.is) in
    let start : c.span.from ≡ 0 + length p.front + length e.0 = ap (λ (s : Span). s.from) (f.place ∙ e.5) in
    let end : c.span.to ≡ 0 + length p.front + length e.0 + length e.1 = ap (λ (s : Span). s.to) (f.place ∙ e.5) in
    let long : length p.text ≡ length e.0 + length e.1 + length e.2 = ap length e.4 ∙ omega (arith, length-append e.0 (e.1 ++ e.2), length-append e.1 e.2) in
    let is : window bs (Some c) (span_of j).from (span_of j).to ≡ made.out =
    window_of bs p.front e.0 e.1 e.2 p.back c (span_of j).from (span_of j).to (p.whole ∙ ap (λ z. p.front ++ (z ++ p.back)) e.4) (omega (arith, from)) (omega (arith, from, to, long)) (omega (arith, from, start)) (omega (arith, from, end))
    ∙ ap (λ z. e.0 ++ (c.text ++ z)) e.6 ∙ sym e.7 in
    record { tree = put_at path f.text.tree j; form = subst (λ z. says (put_at path f.text.tree j) z) (sym is) made.form; deep = put_shallow path j f.inner f.text.tree there f.text.deep }

own_says : (bs : List ℕ) (j : Json) → Part (value j) 0 bs → Says j (between (span_of j).from (span_of j).to bs)
own_says bs j p =
    let from : (span_of j).from ≡ 0 + length p.front = ap (λ (s : Span). s.from) (value_span j (0 + length p.front) p.text p.is) in
    let to : (span_of j).to ≡ 0 + length p.front + length p.text = ap (λ (s : Span). s.to) (value_span j (0 + length p.front) p.text p.is) in
    let is : between (span_of j).from (span_of j).to bs ≡ p.text = between_is p.front p.text p.back bs (span_of j).from (span_of j).to p.whole (omega (arith, from)) (omega (arith, from, to)) in
    record { tree = j; form = subst (λ z. says j z) (sym is) (says_of j (0 + length p.front) p.text p.is); deep = omega arith }

window_says : (bs : List ℕ) (ch : Option Change) (j : Json) → Part (value j) 0 bs → MayFit j ch → Says j (window bs ch (span_of j).from (span_of j).to)
window_says bs None j p f = own_says bs j p
window_says bs (Some c) j p f = changed_says bs c j p f

-- the pairs of an object

-- one that stands in these bytes, from `at` on: its name and what is between, and its value
record PairIn (bs : List ℕ) (at : ℕ) (p : Span) (cs : List ℕ) (j : Json) : Type 0 where
  front : List ℕ
  lead : List ℕ
  text : List ℕ
  back : List ℕ
  whole : bs ≡ front ++ ((lead ++ (text ++ [])) ++ back)
  begins : at ≤ length front
  from : p.from ≡ length front
  value_from : (span_of j).from ≡ length front + length lead
  to : (span_of j).to ≡ length front + length lead + length text
  leads : (k : Json) (w : List ℕ) → says k w → name_and cs (says k) (lead ++ (w ++ []))
  form : says j text

-- one behind the other, with a byte between
abbrev PairsIn : List ℕ → ℕ → Members → Type 0
PairsIn bs at no_members = Unit {0}
PairsIn bs at (member p cs j ms) = PairIn bs at p cs j × PairsIn bs ((span_of j).to + 1) ms

lead_shift : (q b c l w : List ℕ) → (q ++ (b ++ (c ++ l))) ++ (w ++ []) ≡ q ++ (b ++ (c ++ (l ++ w)))
lead_shift q b c l w = ap (λ z. (q ++ (b ++ (c ++ l))) ++ z) (append-nil w) ∙ simp append_assoc

lead_says : (cs q b c l : List ℕ) → quotes cs q → blank b → one 58 c → blank l → (k : Json) (w : List ℕ) → says k w → name_and cs (says k) ((q ++ (b ++ (c ++ l))) ++ (w ++ []))
lead_says cs q b c l h g e f k w s = (q, b ++ (c ++ (l ++ w)), lead_shift q b c l w, h, (b, c ++ (l ++ w), refl, g, (c, l ++ w, refl, e, (l, w, refl, f, s))))

pair_in : (bs front xs back : List ℕ) (at : ℕ) (p : Span) (cs : List ℕ) (j : Json) → bs ≡ front ++ (xs ++ back) → at ≤ length front → pair p cs (value j) (length front) xs → PairIn bs at p cs j
pair_in bs front xs back at p cs j e low h =
    let g : (space then byte 58 then space then value j) (length front + length h.0) h.1 = h.4 in
    let c : (byte 58 then space then value j) (length front + length h.0 + length g.0) g.1 = g.4 in
    let l : (space then value j) (length front + length h.0 + length g.0 + length c.0) c.1 = c.4 in
    let place : span_of j ≡ record { from = length front + length h.0 + length g.0 + length c.0 + length l.0; to = length front + length h.0 + length g.0 + length c.0 + length l.0 + length l.1 } = value_span j _ l.1 l.4 in
    let from : (span_of j).from ≡ length front + length h.0 + length g.0 + length c.0 + length l.0 = ap (λ (s : Span). s.from) place in
    let to : (span_of j).to ≡ length front + length h.0 + length g.0 + length c.0 + length l.0 + length l.1 = ap (λ (s : Span). s.to) place in
    let long : length (h.0 ++ (g.0 ++ (c.0 ++ l.0))) ≡ length h.0 + length g.0 + length c.0 + length l.0 = omega (arith, length-append h.0 (g.0 ++ (c.0 ++ l.0)), length-append g.0 (c.0 ++ l.0), length-append c.0 l.0) in
    record {
      front = front;
      lead = h.0 ++ (g.0 ++ (c.0 ++ l.0));
      text = l.1;
      back = back;
      whole = e ∙ ap (λ z. front ++ (z ++ back)) (h.2 ∙ ap (λ z. h.0 ++ z) (g.2 ∙ ap (λ z. g.0 ++ z) (c.2 ∙ ap (λ z. c.0 ++ z) l.2)) ∙ sym (lead_shift h.0 g.0 c.0 l.0 l.1));
      begins = low;
      from = ap (λ (s : Span). s.from) h.3.1;
      value_from = omega (arith, from, long);
      to = omega (arith, to, long);
      leads = lead_says cs h.0 g.0 c.0 l.0 (quotes_of cs (length front) h.0 h.3.0) g.3 c.3 l.3;
      form = says_of j _ l.1 l.4;
    }

rest_shift : (front a b c d back : List ℕ) → front ++ ((a ++ (b ++ (c ++ d))) ++ back) ≡ (front ++ (a ++ (b ++ c))) ++ (d ++ back)
rest_shift front a b c d back = simp append_assoc

head_shift : (front a b c back : List ℕ) → front ++ ((a ++ (b ++ c)) ++ back) ≡ (front ++ a) ++ (b ++ (c ++ back))
head_shift front a b c back = simp append_assoc

-- a pair, and what is behind it
rest_in : (bs front xs back : List ℕ) (at : ℕ) (p : Span) (cs : List ℕ) (j : Json) (ms : Members) → bs ≡ front ++ (xs ++ back) → at ≤ length front
    → ((front xs back : List ℕ) (at : ℕ) → bs ≡ front ++ (xs ++ back) → at ≤ length front + 1 → more_members ms (length front) xs → PairsIn bs at ms)
    → (space then pair p cs (value j) then space then more_members ms) (length front) xs → PairsIn bs at (member p cs j ms)
rest_in bs front xs back at p cs j ms e low more h =
    let g : (pair p cs (value j) then space then more_members ms) (length front + length h.0) h.1 = h.4 in
    let l : (space then more_members ms) (length front + length h.0 + length g.0) g.1 = g.4 in
    let first : PairIn bs at p cs j = pair_in bs (front ++ h.0) g.0 (g.1 ++ back) at p cs j (e ∙ ap (λ z. front ++ (z ++ back)) (h.2 ∙ ap (λ z. h.0 ++ z) g.2) ∙ head_shift front h.0 g.0 g.1 back) (omega (arith, low, length-append front h.0))
    (subst (λ i. pair p cs (value j) i g.0) (sym (length-append front h.0)) g.3) in
    let long : length (front ++ (h.0 ++ (g.0 ++ l.0))) ≡ length front + length h.0 + length g.0 + length l.0 = omega (arith, length-append front (h.0 ++ (g.0 ++ l.0)), length-append h.0 (g.0 ++ l.0), length-append g.0 l.0) in
    let end : (span_of j).to ≡ length front + length h.0 + length g.0 = pair_ends p cs j (length front + length h.0) g.0 g.3 in (
      first,
      more (front ++ (h.0 ++ (g.0 ++ l.0))) l.1 back ((span_of j).to + 1) (e ∙ ap (λ z. front ++ (z ++ back)) (h.2 ∙ ap (λ z. h.0 ++ z) (g.2 ∙ ap (λ z. g.0 ++ z) l.2)) ∙ rest_shift front h.0 g.0 l.0 l.1 back) (omega (arith, end, long))
          (subst (λ i. more_members ms i l.1) (sym long) l.4),
    )
  where
    pair_ends : (p : Span) (cs : List ℕ) (j : Json) (i : ℕ) (ys : List ℕ) → pair p cs (value j) i ys → (span_of j).to ≡ i + length ys
    pair_ends p cs j i ys h =
        let g : (space then byte 58 then space then value j) (i + length h.0) h.1 = h.4 in
        let c : (byte 58 then space then value j) (i + length h.0 + length g.0) g.1 = g.4 in
        let l : (space then value j) (i + length h.0 + length g.0 + length c.0) c.1 = c.4 in
        ap (λ (s : Span). s.to) (value_span j _ l.1 l.4) ∙ omega (arith, ap length h.2, length-append h.0 h.1, ap length g.2, length-append g.0 g.1, ap length c.2, length-append c.0 c.1, ap length l.2, length-append l.0 l.1)

more_in : (bs : List ℕ) (ms : Members) (front xs back : List ℕ) (at : ℕ) → bs ≡ front ++ (xs ++ back) → at ≤ length front + 1 → more_members ms (length front) xs → PairsIn bs at ms
more_in bs no_members front xs back at e low h = tt
more_in bs (member p cs j ms) front xs back at e low h =
    let one_long : length h.0 ≡ 1 = ap length h.3 in
    rest_in bs (front ++ h.0) h.1 back at p cs j ms (e ∙ ap (λ z. front ++ (z ++ back)) h.2 ∙ shift front h.0 h.1 back) (omega (arith, low, one_long, length-append front h.0))
    (λ front xs back at e low h. more_in bs ms front xs back at e low h) (subst (λ i. (space then pair p cs (value j) then space then more_members ms) i h.1) (sym (length-append front h.0)) h.4)
  where
    shift : (front a b back : List ℕ) → front ++ ((a ++ b) ++ back) ≡ (front ++ a) ++ (b ++ back)
    shift front a b back = simp append_assoc

all_in : (bs : List ℕ) (ms : Members) (front xs back : List ℕ) → bs ≡ front ++ (xs ++ back) → members ms (length front) xs → PairsIn bs 0 ms
all_in bs no_members front xs back e h = tt
all_in bs (member p cs j ms) front xs back e h = rest_in bs front xs back 0 p cs j ms e (omega arith) (λ front xs back at e low h. more_in bs ms front xs back at e low h) h

object_in : (bs : List ℕ) (s : Span) (ms : Members) → Part (value (object s ms)) 0 bs → PairsIn bs 0 ms
object_in bs s ms p =
    let k : (byte 123 then members ms then byte 125) (0 + length p.front) p.text = p.is.0 in
    let m : (members ms then byte 125) (0 + length p.front + length k.0) k.1 = k.4 in
    all_in bs ms (p.front ++ k.0) m.0 (m.1 ++ p.back) (p.whole ∙ ap (λ z. p.front ++ (z ++ p.back)) (k.2 ∙ ap (λ z. k.0 ++ z) m.2) ∙ head_shift p.front k.0 m.0 m.1 p.back)
    (subst (λ i. members ms i m.0) (omega (arith, length-append p.front k.0)) m.3)

-- what the window of a pair says
record PairSays (bs : List ℕ) (ch : Option Change) (p : Span) (cs : List ℕ) (j : Json) : Type 0 where
  tree : Json
  form : name_and cs (says tree) (window bs ch p.from (span_of j).to)
  deep : depth tree ≤ depth j

abbrev AllSay : List ℕ → Option Change → Members → Type 0
AllSay bs ch no_members = Unit {0}
AllSay bs ch (member p cs j ms) = PairSays bs ch p cs j × AllSay bs ch ms

-- a pair in which no change lies
pair_kept : (bs : List ℕ) (ch : Option Change) (at : ℕ) (p : Span) (cs : List ℕ) (j : Json) → PairIn bs at p cs j → window bs ch p.from (span_of j).to ≡ between p.from (span_of j).to bs → PairSays bs ch p cs j
pair_kept bs ch at p cs j h same =
    let is : between p.from (span_of j).to bs ≡ h.lead ++ (h.text ++ []) = between_is h.front (h.lead ++ (h.text ++ [])) h.back bs p.from (span_of j).to h.whole h.from (omega (arith, h.from, h.to, length-append h.lead (h.text ++ []), length-append h.text [])) in
    record { tree = j; form = subst (λ z. name_and cs (says j) z) (sym (same ∙ is)) (h.leads j h.text h.form); deep = omega arith }

-- one whose value gives way
pair_changed : (bs : List ℕ) (c : Change) (at : ℕ) (p : Span) (cs : List ℕ) (j : Json) → PairIn bs at p cs j → c.span ≡ span_of j → Says j c.text → PairSays bs (Some c) p cs j
pair_changed bs c at p cs j h place text =
    let from : c.span.from ≡ (span_of j).from = ap (λ (s : Span). s.from) place in
    let to : c.span.to ≡ (span_of j).to = ap (λ (s : Span). s.to) place in
    let is : window bs (Some c) p.from (span_of j).to ≡ h.lead ++ (c.text ++ []) =
    window_of bs h.front h.lead h.text [] h.back c p.from (span_of j).to h.whole h.from (omega (arith, h.from, h.to)) (omega (arith, h.from, h.value_from, from)) (omega (arith, h.from, h.to, to)) in
    record { tree = text.tree; form = subst (λ z. name_and cs (says text.tree) z) (sym is) (h.leads text.tree c.text text.form); deep = text.deep }

unchanged : (bs : List ℕ) (at : ℕ) (ms : Members) → PairsIn bs at ms → AllSay bs None ms
unchanged bs at no_members h = tt
unchanged bs at (member p cs j ms) h = (pair_kept bs None at p cs j h.0 refl, unchanged bs ((span_of j).to + 1) ms h.1)

-- those behind the change
behind : (bs : List ℕ) (c : Change) (at : ℕ) (ms : Members) → c.span.from < at → PairsIn bs at ms → AllSay bs (Some c) ms
behind bs c at no_members low h = tt
behind bs c at (member p cs j ms) low h =
    let first = h.0 in (
      pair_kept bs (Some c) at p cs j first (window_behind bs c p.from (span_of j).to (omega (arith, low, first.begins, first.from))),
      behind bs c ((span_of j).to + 1) ms (omega (arith, low, first.begins, first.to)) h.1,
    )

-- which of the members a name means: one of the later ones, or the first
which : {R : Type 0} (o : Option Json) (b : Bool) (j w : Json) → or_else o (if_named b j) ≡ Some w → (o ≡ Some w → R) → (j ≡ w → R) → R
which (Some k) b j w e f g = f e
which None true j w e f g = g (cc)
which None false j w e f g = absurd (cc)

record Behind (at : ℕ) (w : Json) : Type 0 where
  begins : at ≤ (span_of w).from
  rises : (span_of w).from ≤ (span_of w).to

later : (bs name : List ℕ) (at : ℕ) (ms : Members) (w : Json) → PairsIn bs at ms → named name ms ≡ Some w → Behind at w
unfolding named
later bs name at no_members w h e = absurd (cc)
later bs name at (member p cs j ms) w h e =
    let first = h.0 in
    which (named name ms) (bytes_eq name cs) j w e
    (λ k. let l : Behind ((span_of j).to + 1) w = later bs name ((span_of j).to + 1) ms w h.1 k in record { begins = omega (arith, l.begins, first.begins, first.to); rises = l.rises })
    (λ same. subst (λ z. Behind at z) same (record { begins = omega (arith, first.begins, first.value_from); rises = omega (arith, first.value_from, first.to) }))

changed : (bs name : List ℕ) (c : Change) (at : ℕ) (ms : Members) (w : Json) → PairsIn bs at ms → named name ms ≡ Some w → c.span ≡ span_of w → Says w c.text → AllSay bs (Some c) ms
unfolding named
changed bs name c at no_members w h e place text = absurd (cc)
changed bs name c at (member p cs j ms) w h e place text =
    let first = h.0 in
    let from : c.span.from ≡ (span_of w).from = ap (λ (s : Span). s.from) place in
    let to : c.span.to ≡ (span_of w).to = ap (λ (s : Span). s.to) place in
    which (named name ms) (bytes_eq name cs) j w e
    (λ k. let l : Behind ((span_of j).to + 1) w = later bs name ((span_of j).to + 1) ms w h.1 k in
    (pair_kept bs (Some c) at p cs j first (window_before bs c p.from (span_of j).to (omega (arith, l.begins, l.rises, to))), changed bs name c ((span_of j).to + 1) ms w h.1 k place text))
    (λ same. let here : c.span ≡ span_of j = place ∙ ap span_of (sym same) in
    let start : c.span.from ≡ (span_of j).from = ap (λ (s : Span). s.from) here in
    (pair_changed bs c at p cs j first here (subst (λ z. Says z c.text) (sym same) text), behind bs c ((span_of j).to + 1) ms (omega (arith, start, first.value_from, first.to)) h.1))

members_say : (bs : List ℕ) (ch : Option Change) (s : Span) (ms : Members) → Part (value (object s ms)) 0 bs → MayFit (object s ms) ch → AllSay bs ch ms
members_say bs None s ms p f = unchanged bs 0 ms (object_in bs s ms p)
members_say bs (Some c) s ms p f = changed bs f.name c 0 ms f.inner (object_in bs s ms p) f.there f.place f.text

-- the other pairs, joined

record SaysMore (ms : Members) (bytes : List ℕ) : Type 0 where
  trees : Members
  form : says_more_members trees bytes
  deep : members_depth trees ≤ members_depth ms

record SaysMembers (ms : Members) (bytes : List ℕ) : Type 0 where
  trees : Members
  form : says_members trees bytes
  deep : members_depth trees ≤ members_depth ms

more_joined : (bs name : List ℕ) (ch : Option Change) (ms : Members) → AllSay bs ch ms → SaysMore ms (listed true (other_pairs bs name ch ms))
more_joined bs name ch no_members h = record { trees = no_members; form = refl; deep = omega arith }
more_joined bs name ch (member p cs j ms) h = go (bytes_eq name cs) (more_joined bs name ch ms h.1)
  where
    go : (b : Bool) → SaysMore ms (listed true (other_pairs bs name ch ms)) → SaysMore (member p cs j ms) (listed true (if b then other_pairs bs name ch ms else (window bs ch p.from (span_of j).to ∷ other_pairs bs name ch ms)))
    go true m = record { trees = m.trees; form = m.form; deep = omega (arith, m.deep) }
    go false m =
        let first = h.0 in
        let x = window bs ch p.from (span_of j).to in
        let rest = listed true (other_pairs bs name ch ms) in
        record { trees = member p cs first.tree m.trees; form = (44 ∷ [], x ++ rest, refl, refl, ([], x ++ rest, refl, tt, (x, rest, refl, first.form, ([], rest, refl, tt, m.form)))); deep = omega (arith, m.deep, first.deep) }

joined : (bs name : List ℕ) (ch : Option Change) (ms : Members) → AllSay bs ch ms → SaysMembers ms (listed false (other_pairs bs name ch ms))
joined bs name ch no_members h = record { trees = no_members; form = tt; deep = omega arith }
joined bs name ch (member p cs j ms) h = go (bytes_eq name cs) (joined bs name ch ms h.1)
  where
    go : (b : Bool) → SaysMembers ms (listed false (other_pairs bs name ch ms)) → SaysMembers (member p cs j ms) (listed false (if b then other_pairs bs name ch ms else (window bs ch p.from (span_of j).to ∷ other_pairs bs name ch ms)))
    go true k = record { trees = k.trees; form = k.form; deep = omega (arith, k.deep) }
    go false k =
        let first = h.0 in
        let m : SaysMore ms (listed true (other_pairs bs name ch ms)) = more_joined bs name ch ms h.1 in
        let x = window bs ch p.from (span_of j).to in
        let rest = listed true (other_pairs bs name ch ms) in
        record { trees = member p cs first.tree m.trees; form = ([], x ++ rest, refl, tt, (x, rest, refl, first.form, ([], rest, refl, tt, m.form))); deep = omega (arith, m.deep, first.deep) }

without_says : (bs name : List ℕ) (ch : Option Change) (j : Json) → Part (value j) 0 bs → MayFit j ch → Says j (without bs name ch j)
without_says bs name ch (object s ms) p f = go (is_some (named_in name (object s ms)))
  where
    go : (b : Bool) → Says (object s ms) (if b then braced (other_pairs bs name ch ms) else window bs ch s.from s.to)
    go true =
        let m : SaysMembers ms (listed false (other_pairs bs name ch ms)) = joined bs name ch ms (members_say bs ch s ms p f) in
        let xs = listed false (other_pairs bs name ch ms) in
        record { tree = object s m.trees; form = (123 ∷ [], xs ++ 125 ∷ [], refl, refl, (xs, 125 ∷ [], refl, m.form, refl)); deep = omega (arith, m.deep) }
    go false = window_says bs ch (object s ms) p f
without_says bs name ch (word s w) p f = window_says bs ch (word s w) p f
without_says bs name ch (number s ds) p f = window_says bs ch (number s ds) p f
without_says bs name ch (string s cs) p f = window_says bs ch (string s cs) p f
without_says bs name ch (array s js) p f = window_says bs ch (array s js) p f

-- a result

member_part : (bs name : List ℕ) (j t : Json) → Part (value j) 0 bs → named_in name j ≡ Some t → Part (value t) 0 bs
unfolding value_at
member_part bs name j t p e = part_in (value j) (value t) 0 bs p (λ i xs h.
    let k : Inside i xs t = path_inside (key name ∷ []) j t (ap (λ o. option_and_then (λ k. Some k) o) e) i xs h in
    record { front = k.before; text = k.bytes; back = k.after; whole = k.whole; is = k.stands })

fits : (f : Json → List ℕ) (name : List ℕ) (j : Json) → ((t : Json) → named_in name j ≡ Some t → Says t (f t)) → MayFit j (option_map (change_of f) (named_in name j))
fits f name j g = go (named_in name j) refl
  where
    go : (o : Option Json) → named_in name j ≡ o → MayFit j (option_map (change_of f) o)
    go None e = tt
    go (Some t) e = record { name = name; inner = t; there = e; place = refl; text = g t e }

capabilities_say : (bs : List ℕ) (j : Json) → Part (value j) 0 bs → Says j (capabilities_text bs j)
capabilities_say bs j p = without_says bs (codes "notebookDocumentSync") (option_map (change_of (workspace_text bs)) (named_in (codes "workspace") j)) j p
    (fits (workspace_text bs) (codes "workspace") j (λ t e. without_says bs (codes "workspaceFolders") None t (member_part bs (codes "workspace") j t p e) tt))

-- what is shown of a value's bytes says a value that nests no deeper
shown_text_says : (bs : List ℕ) (j : Json) → value j 0 bs → Says j (shown_text bs j)
shown_text_says bs j h =
    let p : Part (value j) 0 bs = all_part (value j) 0 bs h in
    let place : span_of j ≡ record { from = 0; to = 0 + length bs } = value_span j 0 bs h in
    let from : (span_of j).from ≡ 0 = ap (λ (s : Span). s.from) place in
    let to : (span_of j).to ≡ 0 + length bs = ap (λ (s : Span). s.to) place in
    subst₂ (λ a b. Says j (window bs (option_map (change_of (capabilities_text bs)) (named_in (codes "capabilities") j)) a b)) from (omega (arith, to))
    (window_says bs (option_map (change_of (capabilities_text bs)) (named_in (codes "capabilities") j)) j p
    (fits (capabilities_text bs) (codes "capabilities") j (λ t e. capabilities_say bs t (member_part bs (codes "capabilities") j t p e))))

-- what editors are shown of the first result of a start
pub shown_value : (body : List ℕ) → is_first_result (message_of body) ≡ true → (v : Json) × IsShallowText 1023 v (shown_of (result_bytes body))
shown_value body first =
    let k : FirstResult (message_of body) = first_result_is (message_of body) first in
    let t : IsShallowText 1023 k.r (result_bytes body) = result_bytes_law body (Some (integer (codes "1"))) k.r k.is in
    let tree = t.text.tree in
    let deep : depth tree ≡ depth k.r = sym (depth_bare tree) ∙ ap depth t.text.same in
    let read : tree_of (result_bytes body) ≡ Some tree = tree_complete (result_bytes body) tree ([], result_bytes body, refl, tt, (result_bytes body, [], sym (append-nil (result_bytes body)), t.text.stands, tt)) (omega (arith, deep, t.shallow)) in
    let s : Says tree (shown_text (result_bytes body) tree) = shown_text_says (result_bytes body) tree t.text.stands in
    let p : Placed s.tree 0 (shown_text (result_bytes body) tree) = placed s.tree 0 (shown_text (result_bytes body) tree) s.form in (
      bare s.tree,
      subst (λ z. IsShallowText 1023 (bare s.tree) (given_or (option_map (shown_text (result_bytes body)) z) [])) (sym read)
          (record { text = record { tree = p.tree; stands = p.stands; same = p.same }; shallow = omega (arith, depth_bare s.tree, s.deep, deep, t.shallow) }),
    )

-- and an editor's `initialize` is answered with it
pub shown_says : (initialize body : List ℕ) (id : Id) (method : List ℕ) (params : Option Json) → message_of initialize ≡ request id method params → is_first_result (message_of body) ≡ true
    → (v : Json) × (message_of (ok_text (id_bytes initialize) (shown_of (result_bytes body))) ≡ result (Some id) v)
shown_says initialize body id method params asks first =
    let k : (v : Json) × IsShallowText 1023 v (shown_of (result_bytes body)) = shown_value body first in
    (k.0, ok_law (Some id) k.0 (id_bytes initialize) (shown_of (result_bytes body)) (id_as_response id (id_bytes initialize) (request_id_bytes initialize id method params asks)) k.1.text k.1.shallow)
