-- Each value of a text stands in the text's bytes, at its span.
use Rattle.std.proofs.Common.{◌≡◌, ℕ, zero, suc, ◌+◌, ◌-◌, ◌≤◌, Bool, true, false, List, [], ◌∷◌, ◌++◌, length, take, drop, bytes_eq, Option, Some, None, refl, sym, ◌∙◌, ap, subst, subst₂, append_assoc, append-nil, length-append, add-zero, arith}
use Rattle.std.specs.Option.{option_and_then}
use Rattle.json_text.specs.declared.span.Span.{Span}
use Rattle.json_text.specs.Json.{Json, word, number, string, array, object, Items, no_items, item, Members, no_members, member, Rule, ◌then◌, byte, space, spans, quoted, pair, value, items, more_items, members, more_members, span_of, IsText}
use Rattle.json_text.specs.Named.{named, or_else, if_named}
use Rattle.json_text.specs.Paths.{Step, key, index, item_at, step_to, value_at}
use Rattle.json_text.proofs.Edits.{between, middle}
use Rattle.json_text.proofs.Swaps.{span_is}

-- the tree's bytes are a part of these
pub record Inside (at : ℕ) (bs : List ℕ) (t : Json) : Type 0 where
  pub before : List ℕ
  pub bytes : List ℕ
  pub after : List ℕ
  pub whole : bs ≡ before ++ (bytes ++ after)
  pub stands : value t (at + length before) bytes

-- wherever the rule's bytes stand
abbrev pub Has : Rule → Json → Type 0
Has P t = (at : ℕ) (bs : List ℕ) → P at bs → Inside at bs t

itself : (t : Json) → Has (value t) t
itself t at bs h = record { before = []; bytes = bs; after = []; whole = sym (append-nil bs); stands = subst (λ i. value t i bs) (sym (add-zero at)) h }

regroup : (p a b c : List ℕ) → p ++ (a ++ (b ++ c)) ≡ (p ++ a) ++ (b ++ c)
regroup p a b c = simp append_assoc

regroup_end : (a b c d : List ℕ) → (a ++ (b ++ c)) ++ d ≡ a ++ (b ++ (c ++ d))
regroup_end a b c d = simp append_assoc

later : (at : ℕ) (a b bs : List ℕ) (t : Json) → bs ≡ a ++ b → Inside (at + length a) b t → Inside at bs t
later at a b bs t e h = record {
  before = a ++ h.before;
  bytes = h.bytes;
  after = h.after;
  whole = e ∙ ap (λ z. a ++ z) h.whole ∙ regroup a h.before h.bytes h.after;
  stands = subst (λ i. value t i h.bytes) (place at a h.before) h.stands;
}
  where
    place : (at : ℕ) (a b : List ℕ) → at + length a + length b ≡ at + length (a ++ b)
    place at a b = omega (arith, length-append a b)

sooner : (at : ℕ) (a b bs : List ℕ) (t : Json) → bs ≡ a ++ b → Inside at a t → Inside at bs t
sooner at a b bs t e h = record { before = h.before; bytes = h.bytes; after = h.after ++ b; whole = e ∙ ap (λ z. z ++ b) h.whole ∙ regroup_end h.before h.bytes h.after b; stands = h.stands }

second : (P Q : Rule) (t : Json) → Has Q t → Has (P then Q) t
second P Q t f at bs h = later at h.0 h.1 bs t h.2 (f (at + length h.0) h.1 h.4)

first : (P Q : Rule) (t : Json) → Has P t → Has (P then Q) t
first P Q t f at bs h = sooner at h.0 h.1 bs t h.2 (f at h.0 h.3)

in_pair : (s : Span) (cs : List ℕ) (P : Rule) (t : Json) → Has P t → Has (pair s cs P) t
in_pair s cs P t f = second (spans s (quoted cs)) (space then byte 58 then space then P) t (second space (byte 58 then space then P) t (second (byte 58) (space then P) t (second space P t f)))

-- within one of two
one_of : (P Q : Rule) (t : Json) → Has P t → Has (space then P then space then Q) t
one_of P Q t f = second space (P then space then Q) t (first P (space then Q) t f)

other_of : (P Q : Rule) (t : Json) → Has Q t → Has (space then P then space then Q) t
other_of P Q t f = second space (P then space then Q) t (second P (space then Q) t (second space Q t f))

closed : (a b : ℕ) (P : Rule) (t : Json) → Has P t → Has (byte a then P then byte b) t
closed a b P t f = second (byte a) (P then byte b) t (first P (byte b) t f)

the_same : (t j : Json) → j ≡ t → Has (value j) t
the_same t j e = subst (λ z. Has (value z) t) (sym e) (itself t)

item_later : (n : ℕ) (js : Items) (t : Json) → item_at n js ≡ Some t → Has (more_items js) t
unfolding item_at
item_later n no_items t e = absurd (cc)
item_later zero (item j js) t e = second (byte 44) (space then value j then space then more_items js) t (one_of (value j) (more_items js) t (the_same t j (cc)))
item_later (suc n) (item j js) t e = second (byte 44) (space then value j then space then more_items js) t (other_of (value j) (more_items js) t (item_later n js t e))

item_inside : (n : ℕ) (js : Items) (t : Json) → item_at n js ≡ Some t → Has (items js) t
unfolding item_at
item_inside n no_items t e = absurd (cc)
item_inside zero (item j js) t e = one_of (value j) (more_items js) t (the_same t j (cc))
item_inside (suc n) (item j js) t e = other_of (value j) (more_items js) t (item_later n js t e)

choice : (s : Span) (ds : List ℕ) (j t : Json) (ms : Members) (o : Option Json) (b : Bool) → (o ≡ Some t → Has (more_members ms) t) → or_else o (if_named b j) ≡ Some t
    → Has (space then pair s ds (value j) then space then more_members ms) t
choice s ds j t ms (Some k) b f e = other_of (pair s ds (value j)) (more_members ms) t (f e)
choice s ds j t ms None true f e = one_of (pair s ds (value j)) (more_members ms) t (in_pair s ds (value j) t (the_same t j (cc)))
choice s ds j t ms None false f e = absurd (cc)

member_later : (cs : List ℕ) (ms : Members) (t : Json) → named cs ms ≡ Some t → Has (more_members ms) t
unfolding named
member_later cs no_members t e = absurd (cc)
member_later cs (member s ds j ms) t e = second (byte 44) (space then pair s ds (value j) then space then more_members ms) t
    (choice s ds j t ms (named cs ms) (bytes_eq cs ds) (λ h. member_later cs ms t h) e)

member_inside : (cs : List ℕ) (ms : Members) (t : Json) → named cs ms ≡ Some t → Has (members ms) t
unfolding named
member_inside cs no_members t e = absurd (cc)
member_inside cs (member s ds j ms) t e = choice s ds j t ms (named cs ms) (bytes_eq cs ds) (λ h. member_later cs ms t h) e

step_inside : (s : Step) (j t : Json) → step_to s j ≡ Some t → Has (value j) t
step_inside (key cs) (object s ms) t e at bs h = closed 123 125 (members ms) t (member_inside cs ms t e) at bs h.0
step_inside (key cs) (array s js) t e at bs h = absurd (cc)
step_inside (key cs) (word s w) t e at bs h = absurd (cc)
step_inside (key cs) (number s ds) t e at bs h = absurd (cc)
step_inside (key cs) (string s ds) t e at bs h = absurd (cc)
step_inside (index n) (array s js) t e at bs h = closed 91 93 (items js) t (item_inside n js t e) at bs h.0
step_inside (index n) (object s ms) t e at bs h = absurd (cc)
step_inside (index n) (word s w) t e at bs h = absurd (cc)
step_inside (index n) (number s ds) t e at bs h = absurd (cc)
step_inside (index n) (string s ds) t e at bs h = absurd (cc)

within : (j t : Json) → Has (value j) t → (at : ℕ) (bs : List ℕ) → Inside at bs j → Inside at bs t
within j t f at bs h = later at h.before (h.bytes ++ h.after) bs t h.whole (sooner (at + length h.before) h.bytes h.after (h.bytes ++ h.after) t refl (f (at + length h.before) h.bytes h.stands))

-- the value at the end of a path stands inside
pub path_inside : (path : List Step) (j t : Json) → value_at path j ≡ Some t → Has (value j) t
unfolding value_at
path_inside [] j t e = the_same t j (cc)
path_inside (s ∷ path) j t e = go (step_to s j) refl (λ k d. path_inside path k t d) e
  where
    go : (o : Option Json) → step_to s j ≡ o → ((k : Json) → value_at path k ≡ Some t → Has (value k) t) → option_and_then (λ k. value_at path k) o ≡ Some t → Has (value j) t
    go None d f e = absurd (cc)
    go (Some k) d f e = λ at bs h. within k t (f k e) at bs (step_inside s j k d at bs h)

text_inside : (j t : Json) → Has (value j) t → Has (space then value j then space) t
text_inside j t f = second space (value j then space) t (first (value j) space t f)

-- a value's span lies in the bytes, and in it stands the value
pub record InSpan (bytes : List ℕ) (t : Json) : Type 0 where
  pub ordered : (span_of t).from ≤ (span_of t).to
  pub fits : (span_of t).to ≤ length bytes
  pub stands : value t (span_of t).from (take ((span_of t).to - (span_of t).from) (drop (span_of t).from bytes))

-- the bytes between two places
pub cut : (from to : ℕ) (a b c bs : List ℕ) → bs ≡ a ++ (b ++ c) → from ≡ length a → to ≡ length a + length b → take (to - from) (drop from bs) ≡ b
cut from to a b c bs whole begin end = ap (λ z. take (to - from) (drop from z)) whole ∙ middle from to a (b ++ c) b c (sym begin) refl (omega arith)

size : (a b c bs : List ℕ) → bs ≡ a ++ (b ++ c) → length bs ≡ length a + length b + length c
size a b c bs e = ap length e ∙ omega (arith, length-append a (b ++ c), length-append b c)

pub in_span : (bytes : List ℕ) (t : Json) → Inside 0 bytes t → InSpan bytes t
in_span bytes t h =
    let place : span_of t ≡ between (0 + length h.before) (length h.bytes) = span_is t (0 + length h.before) h.bytes h.stands in
    let begin : (span_of t).from ≡ 0 + length h.before = ap (λ (s : Span). s.from) place in
    let end : (span_of t).to ≡ 0 + length h.before + length h.bytes = ap (λ (s : Span). s.to) place in
    let long : length bytes ≡ length h.before + length h.bytes + length h.after = size h.before h.bytes h.after bytes h.whole in
    record {
      ordered = omega (arith, begin, end);
      fits = omega (arith, end, long);
      stands = subst₂ (λ i z. value t i z) (sym begin) (sym (cut (span_of t).from (span_of t).to h.before h.bytes h.after bytes h.whole (omega (arith, begin)) (omega (arith, end)))) h.stands;
    }

pub value_in_span : (bytes : List ℕ) (path : List Step) (j t : Json) → IsText bytes j → value_at path j ≡ Some t → InSpan bytes t
value_in_span bytes path j t text e = in_span bytes t (text_inside j t (path_inside path j t e) 0 bytes text)

pub member_in_span : (bytes : List ℕ) (s : Span) (cs : List ℕ) (ms : Members) (t : Json) → IsText bytes (object s ms) → named cs ms ≡ Some t → InSpan bytes t
member_in_span bytes s cs ms t text e = in_span bytes t (text_inside (object s ms) t (step_inside (key cs) (object s ms) t e) 0 bytes text)
