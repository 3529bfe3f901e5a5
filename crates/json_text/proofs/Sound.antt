-- What is read as a value is one of RFC 8259, section 3.
use Rattle.std.proofs.Common.{◌≡◌, ℕ, zero, suc, ◌+◌, ◌≤◌, max, Bool, true, false, List, [], ◌∷◌, ◌⊎◌, inl, inr, ◌==◌, if◌then◌else◌, refl, arith}
use Rattle.json_text.specs.declared.span.Span.{Span}
use Rattle.json_text.specs.declared.kind.Word.{Word}
use Rattle.json_text.specs.declared.kind.Word.TheVariants.{Null, False, True}
use Rattle.json_text.specs.Json.{Json, word, number, string, array, object, Items, no_items, item, Members, no_members, Rule, ◌then◌, byte, space, spans, quoted, pair, letters, value, items, more_items, members, more_members, depth, items_depth, members_depth}
use Rattle.json_text.specs.Read.{reads, Reader, ◌>>=◌, gives, spanned, skip, expect, expect_all, read_number, read_string, read_list}
use Rattle.json_text.specs.Tree.{Entry, member_of, Name, read_name, read_member, read_leaf, read_value}
use Rattle.json_text.proofs.Front.{Front, Sound, bound, picked, gave, joined, weaken, expect_sound, spanned_sound}
use Rattle.json_text.proofs.ListsSound.{skip_sound, ListRules, list_sound}
use Rattle.json_text.proofs.NumbersSound.{number_sound}
use Rattle.json_text.proofs.StringsSound.{string_sound, expect_all_sound}

-- a value with at most d arrays and objects open at once
abbrev pub fits : ℕ → Json → Rule
fits d j at bs = value j at bs × (depth j ≤ d)

abbrev items_fit : ℕ → Items → Rule
items_fit d js at bs = items js at bs × (items_depth js ≤ d)

abbrev more_items_fit : ℕ → Items → Rule
more_items_fit d js at bs = more_items js at bs × (items_depth js ≤ d)

item_rules : (d : ℕ) → ListRules no_items item (fits d) (more_items_fit d) (items_fit d)
item_rules d = record {
  nil_more = λ i. (refl, omega arith);
  cons_more = λ j js i xs h.
      let k = h.4 in let m = k.4 in let n = m.4 in
      let small : max (depth j) (items_depth js) ≤ d = omega (arith, m.3.1, n.4.1) in
      ((h.0, h.1, h.2, h.3, (k.0, k.1, k.2, k.3, (m.0, m.1, m.2, m.3.0, (n.0, n.1, n.2, n.3, n.4.0)))), small);
  nil_first = λ i xs h. (h, omega arith);
  cons_first = λ j js i xs k.
      let m = k.4 in let n = m.4 in
      let small : max (depth j) (items_depth js) ≤ d = omega (arith, m.3.1, n.4.1) in
      ((k.0, k.1, k.2, k.3, (m.0, m.1, m.2, m.3.0, (n.0, n.1, n.2, n.3, n.4.0))), small);
}

abbrev entry_fits : ℕ → Entry → Rule
entry_fits d e at bs = pair e.name e.characters (value e.content) at bs × (depth e.content ≤ d)

abbrev members_fit : ℕ → Members → Rule
members_fit d ms at bs = members ms at bs × (members_depth ms ≤ d)

abbrev more_members_fit : ℕ → Members → Rule
more_members_fit d ms at bs = more_members ms at bs × (members_depth ms ≤ d)

member_rules : (d : ℕ) → ListRules no_members member_of (entry_fits d) (more_members_fit d) (members_fit d)
member_rules d = record {
  nil_more = λ i. (refl, omega arith);
  cons_more = λ e ms i xs h.
      let k = h.4 in let m = k.4 in let n = m.4 in
      let small : max (depth e.content) (members_depth ms) ≤ d = omega (arith, m.3.1, n.4.1) in
      ((h.0, h.1, h.2, h.3, (k.0, k.1, k.2, k.3, (m.0, m.1, m.2, m.3.0, (n.0, n.1, n.2, n.3, n.4.0)))), small);
  nil_first = λ i xs h. (h, omega arith);
  cons_first = λ e ms i xs k.
      let m = k.4 in let n = m.4 in
      let small : max (depth e.content) (members_depth ms) ≤ d = omega (arith, m.3.1, n.4.1) in
      ((k.0, k.1, k.2, k.3, (m.0, m.1, m.2, m.3.0, (n.0, n.1, n.2, n.3, n.4.0))), small);
}

abbrev named_at : Name → Rule
named_at n = spans n.place (quoted n.characters)

name_sound : Sound read_name named_at
name_sound at bs n to rest h =
    let k = spanned_sound (λ s cs. record { place = s; characters = cs }) (λ at bs. read_string at bs) quoted string_sound at bs n to rest h in
    rw k.2 k.3

paired : (n : Name) (d : ℕ) (j : Json) (at : ℕ) (bs : List ℕ) → (named_at n then (space then (byte 58 then (space then fits d j)))) at bs → entry_fits d (record { name = n.place; characters = n.characters; content = j }) at bs
paired n d j at bs h =
    let k = h.4 in let m = k.4 in let r = m.4 in
    ((h.0, h.1, h.2, h.3, (k.0, k.1, k.2, k.3, (m.0, m.1, m.2, m.3, (r.0, r.1, r.2, r.3, r.4.0)))), r.4.1)

member_sound : (d : ℕ) (inner : Reader Json) → Sound inner (fits d) → Sound (read_member inner) (entry_fits d)
member_sound d inner rec at bs e to rest h =
    let f = bound (read_name at bs) (λ n at bs. skip at bs >>= λ done at bs. expect 58 at bs >>= λ done at bs. skip at bs >>= λ done at bs. inner at bs >>= λ j. gives (record { name = n.place; characters = n.characters; content = j })) e to rest h in
    let g = bound (skip f.to f.rest) (λ done at bs. expect 58 at bs >>= λ done at bs. skip at bs >>= λ done at bs. inner at bs >>= λ j. gives (record { name = f.read.place; characters = f.read.characters; content = j })) e to rest f.goes in
    let k = bound (expect 58 g.to g.rest) (λ done at bs. skip at bs >>= λ done at bs. inner at bs >>= λ j. gives (record { name = f.read.place; characters = f.read.characters; content = j })) e to rest g.goes in
    let m = bound (skip k.to k.rest) (λ done at bs. inner at bs >>= λ j. gives (record { name = f.read.place; characters = f.read.characters; content = j })) e to rest k.goes in
    let r = bound (inner m.to m.rest) (λ j. gives (record { name = f.read.place; characters = f.read.characters; content = j })) e to rest m.goes in
    gave (entry_fits d) at bs (record { name = f.read.place; characters = f.read.characters; content = r.read }) e r.to to r.rest rest r.goes
    (weaken (paired f.read d r.read)
    (joined at bs f.to f.rest r.to r.rest (name_sound at bs f.read f.to f.rest f.is)
    (joined f.to f.rest g.to g.rest r.to r.rest (skip_sound f.to f.rest g.read g.to g.rest g.is)
    (joined g.to g.rest k.to k.rest r.to r.rest (expect_sound 58 g.to g.rest k.read k.to k.rest k.is)
    (joined k.to k.rest m.to m.rest r.to r.rest (skip_sound k.to k.rest m.read m.to m.rest m.is) (rec m.to m.rest r.read r.to r.rest r.is))))))

word_sound : (d : ℕ) (w : Word) → Sound (spanned (λ s done. word s w) (expect_all (letters w))) (fits d)
word_sound d w at bs j to rest h =
    let k = spanned_sound (λ s done. word s w) (expect_all (letters w)) (λ done at bs. bs ≡ letters w) (expect_all_sound (letters w)) at bs j to rest h in
    rw k.2 (weaken (λ i xs e. (e, omega arith)) k.3)

text_sound : (d : ℕ) → Sound (spanned string (λ at bs. read_string at bs)) (fits d)
text_sound d at bs j to rest h =
    let k = spanned_sound string (λ at bs. read_string at bs) quoted string_sound at bs j to rest h in
    rw k.2 (weaken (λ i xs e. (e, omega arith)) k.3)

numeral_sound : (d : ℕ) → Sound (spanned number read_number) (fits d)
numeral_sound d at bs j to rest h =
    let k = spanned_sound number read_number _ number_sound at bs j to rest h in
    rw k.2 (weaken (λ i xs e. (e, omega arith)) k.3)

either_sound : {A : Type 0} (x : Bool) (r s : Reader A) (P : A → Rule) → Sound r P → Sound s P → Sound (if x then r else s) P
either_sound true r s P k l = k
either_sound false r s P k l = l

leaf_sound : (d b : ℕ) → Sound (read_leaf b) (fits d)
leaf_sound d b =
    either_sound (b == 34) (spanned string (λ at bs. read_string at bs)) _ (fits d) (text_sound d)
    (either_sound (b == 110) (spanned (λ s done. word s Null) (expect_all (letters Null))) _ (fits d) (word_sound d Null)
    (either_sound (b == 102) (spanned (λ s done. word s False) (expect_all (letters False))) _ (fits d) (word_sound d False)
    (either_sound (b == 116) (spanned (λ s done. word s True) (expect_all (letters True))) (spanned number read_number) (fits d) (word_sound d True) (numeral_sound d))))

array_fits : (d : ℕ) (s : Span) (js : Items) (i : ℕ) (xs : List ℕ) → spans s (byte 91 then (items_fit d js then byte 93)) i xs → fits (suc d) (array s js) i xs
array_fits d s js i xs e =
    let h = e.0 in let m = h.4 in
    let small : 1 + items_depth js ≤ suc d = omega (arith, m.3.1) in
    (((h.0, h.1, h.2, h.3, (m.0, m.1, m.2, m.3.0, m.4)), e.1), small)

array_sound : (d : ℕ) (inner : Reader Json) → Sound inner (fits d) → Sound (spanned array (read_list 91 93 inner no_items item)) (fits (suc d))
array_sound d inner rec at bs j to rest h =
    let k = spanned_sound array (read_list 91 93 inner no_items item) (λ js. byte 91 then (items_fit d js then byte 93)) (list_sound 93 inner no_items item (fits d) (more_items_fit d) (items_fit d) (item_rules d) rec 91) at bs j to rest h in
    rw k.2 (weaken (array_fits d k.0 k.1) k.3)

object_fits : (d : ℕ) (s : Span) (ms : Members) (i : ℕ) (xs : List ℕ) → spans s (byte 123 then (members_fit d ms then byte 125)) i xs → fits (suc d) (object s ms) i xs
object_fits d s ms i xs e =
    let h = e.0 in let m = h.4 in
    let small : 1 + members_depth ms ≤ suc d = omega (arith, m.3.1) in
    (((h.0, h.1, h.2, h.3, (m.0, m.1, m.2, m.3.0, m.4)), e.1), small)

object_sound : (d : ℕ) (inner : Reader Json) → Sound inner (fits d) → Sound (spanned object (read_list 123 125 (read_member inner) no_members member_of)) (fits (suc d))
object_sound d inner rec at bs j to rest h =
    let k = spanned_sound object (read_list 123 125 (read_member inner) no_members member_of) (λ ms. byte 123 then (members_fit d ms then byte 125)) (list_sound 125 (read_member inner) no_members member_of (entry_fits d) (more_members_fit d) (members_fit d) (member_rules d) (member_sound d inner rec) 123) at bs j to rest h in
    rw k.2 (weaken (object_fits d k.0 k.1) k.3)

pub value_sound : (d : ℕ) → Sound (read_value d) (fits d)
unfolding read_value
value_sound zero at [] j to rest h = cc
value_sound zero at (b ∷ bs) j to rest h = leaf_sound zero b at (b ∷ bs) j to rest h
value_sound (suc d) at [] j to rest h = cc
value_sound (suc d) at (b ∷ bs) j to rest h = pick (λ at bs j to rest k. value_sound d at bs j to rest k) (picked (b == 91) _ _ _ h)
  where
    inner : Reader Json
    inner = λ at bs. read_value d at bs

    braces : Reader Json
    braces at bs = if b == 123 then spanned object (read_list 123 125 (read_member inner) no_members member_of) at bs else read_leaf b at bs

    pick : Sound inner (fits d) → ((b == 91 ≡ true) × (spanned array (read_list 91 93 inner no_items item) at (b ∷ bs) ≡ reads j to rest)) ⊎ ((b == 91 ≡ false) × (braces at (b ∷ bs) ≡ reads j to rest)) → Front (fits (suc d) j) at (b ∷ bs) to rest
    pick rec (inl k) = array_sound d inner rec at (b ∷ bs) j to rest k.1
    pick rec (inr k) = elim (picked (b == 123) _ _ _ k.1) [
      | inl l ↦ object_sound d inner rec at (b ∷ bs) j to rest l.1
      | inr l ↦ leaf_sound (suc d) b at (b ∷ bs) j to rest l.1
    ]
