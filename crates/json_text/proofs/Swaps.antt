-- Some values of a tree replaced by others: what the edits of their places come to.
use Rattle.std.proofs.Common.{◌≡◌, ℕ, ◌+◌, List, [], ◌∷◌, ◌++◌, length, refl, sym, ◌∙◌, ap, subst, append-nil, add-zero, arith}
use Rattle.json_text.specs.declared.span.Span.{Span}
use Rattle.json_text.specs.Json.{Json, word, number, string, array, object, Items, no_items, item, Members, no_members, member, Rule, ◌then◌, byte, space, spans, quoted, pair, value, items, more_items, members, more_members, span_of, IsText}
use Rattle.json_text.specs.Replace.{Edit, replace, Rise}
use Rattle.json_text.proofs.Edits.{between, EditsTo, edits_then, edits_rise, edits_replace}
use Rattle.json_text.proofs.Forms.{Form, ◌along◌, one, blank, quotes, name_and, says, says_items, says_more_items, says_members, says_more_members, SaysText, Unplaced, byte_of, space_of, quotes_of, says_of, items_of, members_of, more_members_of, more_items_of}

mutual
  -- these edits, in a text of the first tree, make a text of the second
  pub data Swaps : Json → List Edit → Json → Type 0 where
    kept : (j : Json) → Swaps j [] j
    swapped : (j u : Json) (w : List ℕ) → says u w → Swaps j (record { span = span_of j; text = w } ∷ []) u
    in_array : (s : Span) (js ks : Items) (es : List Edit) → SwapsItems js es ks → Swaps (array s js) es (array s ks)
    in_object : (s : Span) (ms ns : Members) (es : List Edit) → SwapsMembers ms es ns → Swaps (object s ms) es (object s ns)

  pub data SwapsItems : Items → List Edit → Items → Type 0 where
    no_swaps : SwapsItems no_items [] no_items
    item_swaps : (j k : Json) (js ks : Items) (es fs : List Edit) → Swaps j es k → SwapsItems js fs ks → SwapsItems (item j js) (es ++ fs) (item k ks)

  pub data SwapsMembers : Members → List Edit → Members → Type 0 where
    no_member_swaps : SwapsMembers no_members [] no_members
    member_swaps : (s : Span) (cs : List ℕ) (j k : Json) (ms ns : Members) (es fs : List Edit) → Swaps j es k → SwapsMembers ms fs ns
        → SwapsMembers (member s cs j ms) (es ++ fs) (member s cs k ns)

-- what the edits make has this form
pub record Out (F : Form) (at : ℕ) (bs : List ℕ) (es : List Edit) : Type 0 where
  pub out : List ℕ
  pub edits : EditsTo at bs es out
  pub form : F out

-- wherever the rule's bytes stand
abbrev pub Makes : Rule → Form → List Edit → Type 0
Makes P F es = (at : ℕ) (bs : List ℕ) → P at bs → Out F at bs es

keeps : (P : Rule) (F : Form) → Unplaced P F → Makes P F []
keeps P F f at bs h = record { out = bs; edits = refl; form = f at bs h }

then_makes : (P Q : Rule) (F G : Form) (es fs : List Edit) → Makes P F es → Makes Q G fs → Makes (P then Q) (F along G) (es ++ fs)
then_makes P Q F G es fs f g at bs h =
    let p : Out F at h.0 es = f at h.0 h.3 in
    let q : Out G (at + length h.0) h.1 fs = g (at + length h.0) h.1 h.4 in
    record {
      out = p.out ++ q.out;
      form = (p.out, q.out, refl, p.form, q.form);
      edits = subst (λ z. EditsTo at z (es ++ fs) (p.out ++ q.out)) (sym h.2) (edits_then es fs at h.0 h.1 p.out q.out p.edits q.edits);
    }

blank_makes : (P : Rule) (F : Form) (es : List Edit) → Makes P F es → Makes (space then P) (blank along F) es
blank_makes P F es f = then_makes space P blank F [] es (keeps space blank space_of) f

byte_makes : (c : ℕ) (P : Rule) (F : Form) (es : List Edit) → Makes P F es → Makes (byte c then P) (one c along F) es
byte_makes c P F es f = then_makes (byte c) P (one c) F [] es (keeps (byte c) (one c) (byte_of c)) f

pair_makes : (s : Span) (cs : List ℕ) (P : Rule) (F : Form) (es : List Edit) → Makes P F es → Makes (pair s cs P) (name_and cs F) es
pair_makes s cs P F es f = then_makes (spans s (quoted cs)) (space then byte 58 then space then P) (quotes cs) (blank along one 58 along blank along F) [] es
    (keeps (spans s (quoted cs)) (quotes cs) (λ at bs h. quotes_of cs at bs h.0))
    (blank_makes (byte 58 then space then P) (one 58 along blank along F) es (byte_makes 58 (space then P) (blank along F) es (blank_makes P F es f)))

two_make : (P Q : Rule) (F G : Form) (es fs : List Edit) → Makes P F es → Makes Q G fs → Makes (space then P then space then Q) (blank along F along blank along G) (es ++ fs)
two_make P Q F G es fs f g = blank_makes (P then space then Q) (F along blank along G) (es ++ fs) (then_makes P (space then Q) F (blank along G) es fs f (blank_makes Q G fs g))

ended_makes : (P Q : Rule) (F G : Form) (es : List Edit) → Makes P F es → Unplaced Q G → Makes (P then Q) (F along G) es
ended_makes P Q F G es f g = subst (λ z. Makes (P then Q) (F along G) z) (append-nil es) (then_makes P Q F G es [] f (keeps Q G g))

-- between brackets
closed_makes : (a b : ℕ) (P : Rule) (F : Form) (es : List Edit) → Makes P F es → Makes (byte a then P then byte b) (one a along F along one b) es
closed_makes a b P F es f = byte_makes a (P then byte b) (F along one b) es (ended_makes P (byte b) F (one b) es f (byte_of b))

-- a value stands in its span
pub span_is : (j : Json) (at : ℕ) (bs : List ℕ) → value j at bs → span_of j ≡ between at (length bs)
span_is (word s w) at bs h = h.1
span_is (number s ds) at bs h = h.1
span_is (string s cs) at bs h = h.1
span_is (array s js) at bs h = h.1
span_is (object s ms) at bs h = h.1

swapped_makes : (j u : Json) (w : List ℕ) → says u w → Makes (value j) (says u) (record { span = span_of j; text = w } ∷ [])
swapped_makes j u w h at bs stands = record {
  out = w;
  form = h;
  edits = ([], bs, [], [], sym (append-nil bs), span_is j at bs stands ∙ ap (λ i. between i (length bs)) (sym (add-zero at)), refl, sym (append-nil w));
}

mutual
  -- the edits make a text of the other tree
  pub swap_makes : {j k : Json} {es : List Edit} → Swaps j es k → Makes (value j) (says k) es
  swap_makes (kept j) = keeps (value j) (says j) (says_of j)
  swap_makes (swapped j u w h) = swapped_makes j u w h
  swap_makes (in_array s js ks es h) = λ at bs v. closed_makes 91 93 (items js) (says_items ks) es (items_make h) at bs v.0
  swap_makes (in_object s ms ns es h) = λ at bs v. closed_makes 123 125 (members ms) (says_members ns) es (members_make h) at bs v.0

  pub items_make : {js ks : Items} {es : List Edit} → SwapsItems js es ks → Makes (items js) (says_items ks) es
  items_make no_swaps = keeps (items no_items) (says_items no_items) (items_of no_items)
  items_make (item_swaps j k js ks es fs h g) = two_make (value j) (more_items js) (says k) (says_more_items ks) es fs (swap_makes h) (more_items_make g)

  pub more_items_make : {js ks : Items} {es : List Edit} → SwapsItems js es ks → Makes (more_items js) (says_more_items ks) es
  more_items_make no_swaps = keeps (more_items no_items) (says_more_items no_items) (more_items_of no_items)
  more_items_make (item_swaps j k js ks es fs h g) = byte_makes 44 (space then value j then space then more_items js) (blank along says k along blank along says_more_items ks) (es ++ fs)
      (two_make (value j) (more_items js) (says k) (says_more_items ks) es fs (swap_makes h) (more_items_make g))

  pub members_make : {ms ns : Members} {es : List Edit} → SwapsMembers ms es ns → Makes (members ms) (says_members ns) es
  members_make no_member_swaps = keeps (members no_members) (says_members no_members) (members_of no_members)
  members_make (member_swaps s cs j k ms ns es fs h g) = two_make (pair s cs (value j)) (more_members ms) (name_and cs (says k)) (says_more_members ns) es fs
      (pair_makes s cs (value j) (says k) es (swap_makes h)) (more_members_make g)

  pub more_members_make : {ms ns : Members} {es : List Edit} → SwapsMembers ms es ns → Makes (more_members ms) (says_more_members ns) es
  more_members_make no_member_swaps = keeps (more_members no_members) (says_more_members no_members) (more_members_of no_members)
  more_members_make (member_swaps s cs j k ms ns es fs h g) = byte_makes 44 (space then pair s cs (value j) then space then more_members ms) (blank along name_and cs (says k) along blank along says_more_members ns) (es ++ fs)
      (two_make (pair s cs (value j)) (more_members ms) (name_and cs (says k)) (says_more_members ns) es fs (pair_makes s cs (value j) (says k) es (swap_makes h)) (more_members_make g))

text_makes : (j k : Json) (es : List Edit) → Swaps j es k → Makes (space then value j then space) (SaysText k) es
text_makes j k es h = blank_makes (value j then space) (says k along blank) es (ended_makes (value j) space (says k) blank es (swap_makes h) space_of)

-- a text with edits: they rise, and what `replace` makes is a text of the other tree
pub record Replaced (bytes : List ℕ) (es : List Edit) (k : Json) : Type 0 where
  pub rise : Rise bytes es
  pub says : SaysText k (replace bytes es)

pub replaced : (bytes : List ℕ) (es : List Edit) (j k : Json) → IsText bytes j → Swaps j es k → Replaced bytes es k
replaced bytes es j k text h =
    let made : Out (SaysText k) 0 bytes es = text_makes j k es h 0 bytes text in
    record {
      rise = edits_rise es 0 (length bytes) bytes made.out made.edits (omega arith);
      says = subst (SaysText k) (sym (edits_replace es bytes made.out made.edits)) made.form;
    }
