-- Where in the bytes of a text each value and each name stands.
use Rattle.std.proofs.Common.{◌≡◌, ℕ, zero, suc, ◌+◌, ◌-◌, List, [], ◌∷◌, ◌++◌, length, refl, sym, ◌∙◌, ap, subst, arith, append_assoc, length-append, append-nil}
use Rattle.std.proofs.Math.Seq.{drop-append_seam, take-append_seam}
use Rattle.std.specs.Prelude.{Some}
use Rattle.std.specs.List.{slice_get}
use Rattle.json_text.specs.declared.span.Span.{Span}
use Rattle.json_text.specs.Json.{Json, word, number, string, array, object, Items, no_items, item, Members, no_members, member, Rule, ◌then◌, byte, spans, space, quoted, pair, value, items, more_items, members, more_members, span_of}
use Rattle.json_nodes.specs.Texts.{between}
use Rattle.json_text.specs.Named.{children, items_list, values_list}

-- a part of the bytes, at its place, is by this rule
pub record Part (R : Rule) (at : ℕ) (bs : List ℕ) : Type 0 where
  pub front : List ℕ
  pub text : List ℕ
  pub back : List ℕ
  pub whole : bs ≡ front ++ (text ++ back)
  pub is : R (at + length front) text

pub all_part : (R : Rule) (at : ℕ) (bs : List ℕ) → R at bs → Part R at bs
all_part R at bs h = record { front = []; text = bs; back = []; whole = sym (append-nil bs); is = subst (λ i. R i bs) (omega arith) h }

regroup : (u v w front text back bs mid : List ℕ) → bs ≡ u ++ (mid ++ w) → mid ≡ front ++ (text ++ back) → bs ≡ (u ++ front) ++ (text ++ (back ++ w))
regroup u v w front text back bs mid e f = e ∙ ap (λ xs. u ++ (xs ++ w)) f ∙ simp append_assoc

-- a part of a part
pub part_in : (P R : Rule) (at : ℕ) (bs : List ℕ) → Part P at bs → ((i : ℕ) (xs : List ℕ) → P i xs → Part R i xs) → Part R at bs
part_in P R at bs p f = let q : Part R (at + length p.front) p.text = f (at + length p.front) p.text p.is in record {
  front = p.front ++ q.front;
  text = q.text;
  back = q.back ++ p.back;
  whole = regroup p.front [] p.back q.front q.text q.back bs p.text p.whole q.whole;
  is = subst (λ i. R i q.text) (omega (arith, length-append p.front q.front)) q.is;
}

pub in_first : (P Q R : Rule) (at : ℕ) (bs : List ℕ) → (P then Q) at bs → ((i : ℕ) (xs : List ℕ) → P i xs → Part R i xs) → Part R at bs
in_first P Q R at bs h f = part_in P R at bs (record { front = []; text = h.0; back = h.1; whole = h.2; is = subst (λ i. P i h.0) (omega arith) h.3 }) f

pub in_second : (P Q R : Rule) (at : ℕ) (bs : List ℕ) → (P then Q) at bs → ((i : ℕ) (xs : List ℕ) → Q i xs → Part R i xs) → Part R at bs
in_second P Q R at bs h f = part_in Q R at bs (record { front = h.0; text = h.1; back = []; whole = h.2 ∙ ap (λ xs. h.0 ++ xs) (sym (append-nil h.1)); is = h.4 }) f

same_value : (i j : Json) (at : ℕ) (bs : List ℕ) → i ≡ j → value i at bs → Part (value j) at bs
same_value i j at bs e h = all_part (value j) at bs (subst (λ k. value k at bs) e h)

more_items_part : (n : ℕ) (js : Items) (c : Json) (at : ℕ) (bs : List ℕ) → more_items js at bs → slice_get (items_list js) n ≡ Some c → Part (value c) at bs
more_items_part n no_items c at bs h e = cc
more_items_part zero (item j js) c at bs h e =
    let same : j ≡ c = cc in
    in_second (byte 44) (space then value j then space then more_items js) (value c) at bs h
    (λ i xs h. in_second space (value j then space then more_items js) (value c) i xs h
    (λ i xs h. in_first (value j) (space then more_items js) (value c) i xs h
    (λ i xs h. same_value j c i xs same h)))
more_items_part (suc n) (item j js) c at bs h e =
    let rest : (i : ℕ) (xs : List ℕ) → more_items js i xs → Part (value c) i xs = λ i xs h. more_items_part n js c i xs h e in
    in_second (byte 44) (space then value j then space then more_items js) (value c) at bs h
    (λ i xs h. in_second space (value j then space then more_items js) (value c) i xs h
    (λ i xs h. in_second (value j) (space then more_items js) (value c) i xs h
    (λ i xs h. in_second space (more_items js) (value c) i xs h rest)))

items_part : (n : ℕ) (js : Items) (c : Json) (at : ℕ) (bs : List ℕ) → items js at bs → slice_get (items_list js) n ≡ Some c → Part (value c) at bs
items_part n no_items c at bs h e = cc
items_part zero (item j js) c at bs h e =
    let same : j ≡ c = cc in
    in_second space (value j then space then more_items js) (value c) at bs h
    (λ i xs h. in_first (value j) (space then more_items js) (value c) i xs h
    (λ i xs h. same_value j c i xs same h))
items_part (suc n) (item j js) c at bs h e =
    let rest : (i : ℕ) (xs : List ℕ) → more_items js i xs → Part (value c) i xs = λ i xs h. more_items_part n js c i xs h e in
    in_second space (value j then space then more_items js) (value c) at bs h
    (λ i xs h. in_second (value j) (space then more_items js) (value c) i xs h
    (λ i xs h. in_second space (more_items js) (value c) i xs h rest))

-- a member of an object
pub record Entry : Type 0 where
  pub place : Span
  pub characters : List ℕ
  pub content : Json

abbrev pub entries : Members → List Entry
entries no_members = []
entries (member s cs j ms) = record { place = s; characters = cs; content = j } ∷ entries ms

abbrev pub entry : Entry → Rule
entry e = pair e.place e.characters (value e.content)

same_entry : (d e : Entry) (at : ℕ) (bs : List ℕ) → d ≡ e → entry d at bs → Part (entry e) at bs
same_entry d e at bs same h = all_part (entry e) at bs (subst (λ k. entry k at bs) same h)

more_members_part : (n : ℕ) (ms : Members) (e : Entry) (at : ℕ) (bs : List ℕ) → more_members ms at bs → slice_get (entries ms) n ≡ Some e → Part (entry e) at bs
more_members_part n no_members e at bs h g = cc
more_members_part zero (member s cs j ms) e at bs h g =
    let d : Entry = record { place = s; characters = cs; content = j } in
    let same : d ≡ e = cc in
    in_second (byte 44) (space then entry d then space then more_members ms) (entry e) at bs h
    (λ i xs h. in_second space (entry d then space then more_members ms) (entry e) i xs h
    (λ i xs h. in_first (entry d) (space then more_members ms) (entry e) i xs h
    (λ i xs h. same_entry d e i xs same h)))
more_members_part (suc n) (member s cs j ms) e at bs h g =
    let d : Entry = record { place = s; characters = cs; content = j } in
    let rest : (i : ℕ) (xs : List ℕ) → more_members ms i xs → Part (entry e) i xs = λ i xs h. more_members_part n ms e i xs h g in
    in_second (byte 44) (space then entry d then space then more_members ms) (entry e) at bs h
    (λ i xs h. in_second space (entry d then space then more_members ms) (entry e) i xs h
    (λ i xs h. in_second (entry d) (space then more_members ms) (entry e) i xs h
    (λ i xs h. in_second space (more_members ms) (entry e) i xs h rest)))

members_part : (n : ℕ) (ms : Members) (e : Entry) (at : ℕ) (bs : List ℕ) → members ms at bs → slice_get (entries ms) n ≡ Some e → Part (entry e) at bs
members_part n no_members e at bs h g = cc
members_part zero (member s cs j ms) e at bs h g =
    let d : Entry = record { place = s; characters = cs; content = j } in
    let same : d ≡ e = cc in
    in_second space (entry d then space then more_members ms) (entry e) at bs h
    (λ i xs h. in_first (entry d) (space then more_members ms) (entry e) i xs h
    (λ i xs h. same_entry d e i xs same h))
members_part (suc n) (member s cs j ms) e at bs h g =
    let d : Entry = record { place = s; characters = cs; content = j } in
    let rest : (i : ℕ) (xs : List ℕ) → more_members ms i xs → Part (entry e) i xs = λ i xs h. more_members_part n ms e i xs h g in
    in_second space (entry d then space then more_members ms) (entry e) at bs h
    (λ i xs h. in_second (entry d) (space then more_members ms) (entry e) i xs h
    (λ i xs h. in_second space (more_members ms) (entry e) i xs h rest))

-- the value and the name of a member

entry_value : (e : Entry) (at : ℕ) (bs : List ℕ) → entry e at bs → Part (value e.content) at bs
entry_value e at bs h = in_second (spans e.place (quoted e.characters)) (space then byte 58 then space then value e.content) (value e.content) at bs h
    (λ i xs h. in_second space (byte 58 then space then value e.content) (value e.content) i xs h
    (λ i xs h. in_second (byte 58) (space then value e.content) (value e.content) i xs h
    (λ i xs h. in_second space (value e.content) (value e.content) i xs h
    (λ i xs h. all_part (value e.content) i xs h))))

pub entry_name : (e : Entry) (at : ℕ) (bs : List ℕ) → entry e at bs → Part (spans e.place (quoted e.characters)) at bs
entry_name e at bs h = in_first (spans e.place (quoted e.characters)) (space then byte 58 then space then value e.content) (spans e.place (quoted e.characters)) at bs h
    (λ i xs h. all_part (spans e.place (quoted e.characters)) i xs h)

pub entry_of : (ms : Members) (n : ℕ) (c : Json) → slice_get (values_list ms) n ≡ Some c → (e : Entry) × (slice_get (entries ms) n ≡ Some e) × (e.content ≡ c)
entry_of no_members n c h = cc
entry_of (member s cs j ms) zero c h = let same : j ≡ c = cc in (record { place = s; characters = cs; content = j }, refl, same)
entry_of (member s cs j ms) (suc n) c h = entry_of ms n c h

pub entry_part : (s : Span) (ms : Members) (n : ℕ) (e : Entry) (at : ℕ) (bs : List ℕ) → value (object s ms) at bs → slice_get (entries ms) n ≡ Some e → Part (entry e) at bs
entry_part s ms n e at bs h g = in_second (byte 123) (members ms then byte 125) (entry e) at bs h.0
    (λ i xs h. in_first (members ms) (byte 125) (entry e) i xs h
    (λ i xs h. members_part n ms e i xs h g))

-- the children of a value stand in it
pub child_part : (t : Json) (n : ℕ) (c : Json) (at : ℕ) (bs : List ℕ) → value t at bs → slice_get (children t) n ≡ Some c → Part (value c) at bs
child_part (word s w) n c at bs h e = cc
child_part (number s ds) n c at bs h e = cc
child_part (string s cs) n c at bs h e = cc
child_part (array s js) n c at bs h e = in_second (byte 91) (items js then byte 93) (value c) at bs h.0
    (λ i xs h. in_first (items js) (byte 93) (value c) i xs h
    (λ i xs h. items_part n js c i xs h e))
child_part (object s ms) n c at bs h e = let f : (d : Entry) × (slice_get (entries ms) n ≡ Some d) × (d.content ≡ c) = entry_of ms n c e in
    part_in (entry f.0) (value c) at bs (entry_part s ms n f.0 at bs h f.1)
    (λ i xs h. subst (λ k. Part (value k) i xs) f.2 (entry_value f.0 i xs h))

-- a value's span is where its bytes stand
pub value_span : (t : Json) (at : ℕ) (bs : List ℕ) → value t at bs → span_of t ≡ record { from = at; to = at + length bs }
value_span (word s w) at bs h = h.1
value_span (number s ds) at bs h = h.1
value_span (string s cs) at bs h = h.1
value_span (array s js) at bs h = h.1
value_span (object s ms) at bs h = h.1

pub between_is : (front text back bs : List ℕ) (from to : ℕ) → bs ≡ front ++ (text ++ back) → from ≡ length front → to ≡ from + length text → between from to bs ≡ text
between_is front text back bs from to e f g =
    let n : to - from ≡ length text = omega arith in
    rw (e, n, f, drop-append_seam, take-append_seam) refl
