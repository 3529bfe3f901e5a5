-- A value of RFC 8259, section 3, is read, by induction on its tree.
use Rattle.std.proofs.Common.{◌≡◌, ℕ, zero, suc, ◌+◌, ◌<◌, ◌≤◌, false, List, [], ◌∷◌, ◌++◌, length, ◌⊎◌, inl, inr, ◌==◌, codes, nat_le, refl, sym, ap, ◌∙◌, arith, append_assoc, length-append}
use Rattle.std.proofs.lemmas.Bool.{and_parts, or_from, ne_eqb, leb-true}
use Rattle.json_text.specs.declared.span.Span.{Span}
use Rattle.json_text.specs.declared.kind.Word.{Word}
use Rattle.json_text.specs.declared.kind.Word.TheVariants.{Null, False, True}
use Rattle.json_text.specs.Json.{Json, word, number, string, array, object, Items, no_items, item, Members, no_members, member, Rule, is_space, pair, letters, value, items, more_items, members, more_members, depth, items_depth, members_depth}
use Rattle.json_text.specs.Number.{IsNumber, IsWhole, IsMinus}
use Rattle.json_text.specs.Read.{reads, Reader, spanned, skip, expect_all, read_number, read_string, read_list}
use Rattle.json_text.specs.Tree.{member_of, Name, read_name, read_member, read_leaf, read_value}
use Rattle.json_text.proofs.ListsRead.{starts_no_space, skip_read, Closes, EntryRead, EntryStarts, MoreStarts, MoreRead, no_more_read, more_read, nil_read, cons_read}
use Rattle.json_text.proofs.NumbersRead.{number_read}
use Rattle.json_text.proofs.StringsRead.{expect_all_read, string_read, enclosed, length-enclosed}

abbrev inner : ℕ → Reader Json
inner d at bs = read_value d at bs

abbrev ValueRead : Json → Type 0
ValueRead j = (d : ℕ) → depth j ≤ d → EntryRead (inner d) (value j) j

abbrev MoreItemsRead : Items → Type 0
MoreItemsRead js = (d : ℕ) → items_depth js ≤ d → MoreRead 93 (inner d) no_items item (more_items js) js

-- between the brackets of an array at `at`
abbrev ItemsRead : Items → Type 0
ItemsRead js = (d : ℕ) → items_depth js ≤ d → (at i n : ℕ) (bs rest : List ℕ) → items js i bs → i ≡ at + 1 → n ≡ at + length bs + 2 → read_list 91 93 (inner d) no_items item at (91 ∷ (bs ++ 93 ∷ rest)) ≡ reads js n rest

abbrev MoreMembersRead : Members → Type 0
MoreMembersRead ms = (d : ℕ) → members_depth ms ≤ d → MoreRead 125 (read_member (inner d)) no_members member_of (more_members ms) ms

abbrev MembersRead : Members → Type 0
MembersRead ms = (d : ℕ) → members_depth ms ≤ d → (at i n : ℕ) (bs rest : List ℕ) → members ms i bs → i ≡ at + 1 → n ≡ at + length bs + 2 → read_list 123 125 (read_member (inner d)) no_members member_of at (123 ∷ (bs ++ 125 ∷ rest)) ≡ reads ms n rest

bracket : Closes 93
bracket = record { no_space = refl; no_number = refl; no_comma = refl }

brace : Closes 125
brace = record { no_space = refl; no_number = refl; no_comma = refl }

-- a number begins with a sign or a digit
record NumberStarts (bs : List ℕ) : Type 0 where
  first : ℕ
  after : List ℕ
  is : bs ≡ first ∷ after
  is_first : (first ≡ 45) ⊎ ((48 ≤ first) × (first ≤ 57))

whole_starts : (ws ts : List ℕ) → IsWhole ws → NumberStarts (ws ++ ts)
whole_starts ws ts (inl e) = record { first = 48; after = ts; is = ap (λ l. l ++ ts) e; is_first = inr (omega arith, omega arith) }
whole_starts ws ts (inr k) =
    let p = and_parts (nat_le 49 k.0) (nat_le k.0 57) k.2 in
    let low : 49 ≤ k.0 = leb-true 49 k.0 p.0 in
    record { first = k.0; after = k.1 ++ ts; is = ap (λ l. l ++ ts) k.4; is_first = inr (omega arith, leb-true k.0 57 p.1) }

signed_starts : (ms bs : List ℕ) → IsMinus ms → NumberStarts bs → NumberStarts (ms ++ bs)
signed_starts ms bs (inl e) s = rw e s
signed_starts ms bs (inr e) s = record { first = 45; after = bs; is = ap (λ l. l ++ bs) e; is_first = inl refl }

number_starts : (bs : List ℕ) → IsNumber bs → NumberStarts bs
number_starts bs h = rw h.8 (signed_starts h.0 (h.1 ++ (h.2 ++ h.3)) h.4 (whole_starts h.1 (h.2 ++ h.3) h.5))

no_digit : (b c : ℕ) → (b ≡ 45) ⊎ ((48 ≤ b) × (b ≤ 57)) → (c < 45) ⊎ (57 < c) → (b == c) ≡ false
no_digit b c h k = ne_eqb b c (λ e. omega arith)

number_first : (b : ℕ) → (b ≡ 45) ⊎ ((48 ≤ b) × (b ≤ 57)) → is_space b ≡ false
number_first b h = or_from (b == 32) _ (no_digit b 32 h (inl (omega arith))) (or_from (b == 9) _ (no_digit b 9 h (inl (omega arith))) (or_from (b == 10) _ (no_digit b 10 h (inl (omega arith))) (no_digit b 13 h (inl (omega arith)))))

regrouped : (q g b h v rest : List ℕ) → (q ++ (g ++ (b ++ (h ++ v)))) ++ rest ≡ q ++ (g ++ (b ++ (h ++ (v ++ rest))))
regrouped q g b h v rest = simp append_assoc

-- the first byte of a value
pub value_starts : (j : Json) → EntryStarts 93 (value j)
value_starts (word s Null) at bs h = record { first = 110; after = codes "ull"; is = h.0; no_space = refl; no_close = refl }
value_starts (word s False) at bs h = record { first = 102; after = codes "alse"; is = h.0; no_space = refl; no_close = refl }
value_starts (word s True) at bs h = record { first = 116; after = codes "rue"; is = h.0; no_space = refl; no_close = refl }
value_starts (number s ds) at bs h =
    let k = number_starts ds h.0.1 in
    record { first = k.first; after = k.after; is = h.0.0 ∙ k.is; no_space = number_first k.first k.is_first; no_close = no_digit k.first 93 k.is_first (inr (omega arith)) }
value_starts (string s cs) at bs h = record { first = 34; after = h.0.1; is = h.0.2 ∙ ap (λ l. l ++ h.0.1) h.0.3; no_space = refl; no_close = refl }
value_starts (array s js) at bs h = record { first = 91; after = h.0.1; is = h.0.2 ∙ ap (λ l. l ++ h.0.1) h.0.3; no_space = refl; no_close = refl }
value_starts (object s ms) at bs h = record { first = 123; after = h.0.1; is = h.0.2 ∙ ap (λ l. l ++ h.0.1) h.0.3; no_space = refl; no_close = refl }

pair_starts : (s : Span) (cs : List ℕ) (P : Rule) → EntryStarts 125 (pair s cs P)
pair_starts s cs P at bs h =
    let q = h.3.0 in
    record { first = 34; after = q.1 ++ h.1; is = h.2 ∙ ap (λ l. l ++ h.1) (q.2 ∙ ap (λ l. l ++ q.1) q.3); no_space = refl; no_close = refl }

items_start : (js : Items) → MoreStarts (more_items js)
items_start no_items at bs h = inl h
items_start (item j js) at bs h = inr (h.1, h.2 ∙ ap (λ l. l ++ h.1) h.3)

members_start : (ms : Members) → MoreStarts (more_members ms)
members_start no_members at bs h = inl h
members_start (member s cs j ms) at bs h = inr (h.1, h.2 ∙ ap (λ l. l ++ h.1) h.3)

spanned_read : {A B : Type 0} (f : Span → A → B) (r : Reader A) (s : Span) (x : A) (at n : ℕ) (bs rest : List ℕ) → r at bs ≡ reads x n rest → s ≡ record { from = at; to = n } → spanned f r at bs ≡ reads (f s x) n rest
spanned_read f r s x at n bs rest h e = rw h (ap (λ t. reads (f t x) n rest) (sym e))

-- the span of a value's bytes, and the place behind them
ends : (s : Span) (at n : ℕ) (bs : List ℕ) → s ≡ record { from = at; to = at + length bs } → n ≡ at + length bs → s ≡ record { from = at; to = n }
ends s at n bs h e = h ∙ ap (λ i. record { from = at; to = i }) (sym e)

leaf_goes : (d b at : ℕ) (bs : List ℕ) → (b == 91) ≡ false → (b == 123) ≡ false → read_value d at (b ∷ bs) ≡ read_leaf b at (b ∷ bs)
unfolding read_value
leaf_goes zero b at bs h k = refl
leaf_goes (suc d) b at bs h k = rw (h, k) refl

word_read : (d : ℕ) (s : Span) (w : Word) (at n : ℕ) (rest : List ℕ) → n ≡ at + length (letters w) → s ≡ record { from = at; to = n } → read_value d at (letters w ++ rest) ≡ reads (word s w) n rest
word_read d s Null at n rest e h = leaf_goes d 110 at (codes "ull" ++ rest) refl refl ∙ spanned_read (λ s done. word s Null) (expect_all (letters Null)) s tt at n (letters Null ++ rest) rest (expect_all_read at n (letters Null) rest e) h
word_read d s False at n rest e h = leaf_goes d 102 at (codes "alse" ++ rest) refl refl ∙ spanned_read (λ s done. word s False) (expect_all (letters False)) s tt at n (letters False ++ rest) rest (expect_all_read at n (letters False) rest e) h
word_read d s True at n rest e h = leaf_goes d 116 at (codes "rue" ++ rest) refl refl ∙ spanned_read (λ s done. word s True) (expect_all (letters True)) s tt at n (letters True ++ rest) rest (expect_all_read at n (letters True) rest e) h

word_case : (s : Span) (w : Word) → ValueRead (word s w)
word_case s w d small at n bs rest h k e = ap (λ l. read_value d at (l ++ rest)) h.0 ∙ word_read d s w at n rest (omega (arith, e, ap length h.0)) (ends s at n bs h.1 e)

number_goes : (d b at : ℕ) (us : List ℕ) → (b ≡ 45) ⊎ ((48 ≤ b) × (b ≤ 57)) → read_value d at (b ∷ us) ≡ spanned number read_number at (b ∷ us)
number_goes d b at us h =
    leaf_goes d b at us (no_digit b 91 h (inr (omega arith))) (no_digit b 123 h (inr (omega arith)))
    ∙ rw (no_digit b 34 h (inl (omega arith)), no_digit b 110 h (inr (omega arith)), no_digit b 102 h (inr (omega arith)), no_digit b 116 h (inr (omega arith))) refl

number_case : (s : Span) (ds : List ℕ) → ValueRead (number s ds)
number_case s ds d small at n bs rest h k e =
    let f = number_starts ds h.0.1 in
    let whole : ds ++ rest ≡ f.first ∷ (f.after ++ rest) = ap (λ l. l ++ rest) f.is in
    ap (λ l. read_value d at (l ++ rest)) h.0.0 ∙ ap (read_value d at) whole ∙ number_goes d f.first at (f.after ++ rest) f.is_first ∙ ap (λ l. spanned number read_number at l) (sym whole)
    ∙ spanned_read number read_number s ds at n (ds ++ rest) rest (number_read at n ds rest h.0.1 k (omega (arith, e, ap length h.0.0))) (ends s at n bs h.1 e)

string_case : (s : Span) (cs : List ℕ) → ValueRead (string s cs)
string_case s cs d small at n bs rest h k e =
    let q = h.0 in
    let whole : bs ++ rest ≡ 34 ∷ (q.1 ++ rest) = ap (λ l. l ++ rest) (q.2 ∙ ap (λ l. l ++ q.1) q.3) in
    ap (read_value d at) whole ∙ leaf_goes d 34 at (q.1 ++ rest) refl refl ∙ ap (λ l. spanned string (λ at bs. read_string at bs) at l) (sym whole)
    ∙ spanned_read string (λ at bs. read_string at bs) s cs at n (bs ++ rest) rest (string_read at n cs bs rest q e) (ends s at n bs h.1 e)

array_goes : (d at : ℕ) (us : List ℕ) → read_value (suc d) at (91 ∷ us) ≡ spanned array (read_list 91 93 (inner d) no_items item) at (91 ∷ us)
unfolding read_value
array_goes d at us = refl

object_goes : (d at : ℕ) (us : List ℕ) → read_value (suc d) at (123 ∷ us) ≡ spanned object (read_list 123 125 (read_member (inner d)) no_members member_of) at (123 ∷ us)
unfolding read_value
object_goes d at us = refl

array_case : (s : Span) (js : Items) → ItemsRead js → ValueRead (array s js)
array_case s js rec zero small at n bs rest h k e = absurd (omega arith)
array_case s js rec (suc d) small at n bs rest h k e =
    let g = h.0 in let m = g.4 in
    let size : length bs ≡ length m.0 + 2 = length-enclosed 91 93 bs g.0 g.1 m.0 m.1 g.2 g.3 m.2 m.4 in
    ap (read_value (suc d) at) (enclosed 91 93 bs g.0 g.1 m.0 m.1 rest g.2 g.3 m.2 m.4) ∙ array_goes d at (m.0 ++ 93 ∷ rest)
    ∙ spanned_read array (read_list 91 93 (inner d) no_items item) s js at n (91 ∷ (m.0 ++ 93 ∷ rest)) rest (rec d (omega arith) at (at + length g.0) n m.0 rest m.3 (omega (arith, ap length g.3)) (omega (arith, size, e))) (ends s at n bs h.1 e)

object_case : (s : Span) (ms : Members) → MembersRead ms → ValueRead (object s ms)
object_case s ms rec zero small at n bs rest h k e = absurd (omega arith)
object_case s ms rec (suc d) small at n bs rest h k e =
    let g = h.0 in let m = g.4 in
    let size : length bs ≡ length m.0 + 2 = length-enclosed 123 125 bs g.0 g.1 m.0 m.1 g.2 g.3 m.2 m.4 in
    ap (read_value (suc d) at) (enclosed 123 125 bs g.0 g.1 m.0 m.1 rest g.2 g.3 m.2 m.4) ∙ object_goes d at (m.0 ++ 125 ∷ rest)
    ∙ spanned_read object (read_list 123 125 (read_member (inner d)) no_members member_of) s ms at n (123 ∷ (m.0 ++ 125 ∷ rest)) rest (rec d (omega arith) at (at + length g.0) n m.0 rest m.3 (omega (arith, ap length g.3)) (omega (arith, size, e))) (ends s at n bs h.1 e)

item_case : (j : Json) (js : Items) → ValueRead j → MoreItemsRead js → ItemsRead (item j js)
item_case j js rec more d small at i n bs rest h e k = cons_read 91 93 (inner d) no_items item (value j) (more_items js) j js bracket (value_starts j) (rec d (omega arith)) (items_start js) (more d (omega arith)) at i n bs rest h e k

more_item_case : (j : Json) (js : Items) → ValueRead j → MoreItemsRead js → MoreItemsRead (item j js)
more_item_case j js rec more d small = more_read 93 (inner d) no_items item (value j) (more_items js) j js bracket (value_starts j) (rec d (omega arith)) (items_start js) (more d (omega arith))

paired_whole : (bs q a g b c d h v rest : List ℕ) → bs ≡ q ++ a → a ≡ g ++ b → b ≡ c ++ d → c ≡ 58 ∷ [] → d ≡ h ++ v → bs ++ rest ≡ q ++ (g ++ (58 ∷ (h ++ (v ++ rest))))
paired_whole bs q a g b c d h v rest e f i k l = rw (e, f, i, k, l) (regrouped q g (58 ∷ []) h v rest)

paired_length : (bs q a g b c d h v : List ℕ) → bs ≡ q ++ a → a ≡ g ++ b → b ≡ c ++ d → c ≡ 58 ∷ [] → d ≡ h ++ v → length bs ≡ length q + length g + 1 + length h + length v
paired_length bs q a g b c d h v e f i k l = rw (e, f, i, k, l) (omega (arith, length-append q (g ++ (58 ∷ (h ++ v))), length-append g (58 ∷ (h ++ v)), length-append h v))

pair_goes : (inner : Reader Json) (m : Name) (j : Json) (at p q r n : ℕ) (us vs ws xs rest : List ℕ) → read_name at us ≡ reads m p vs → skip p vs ≡ reads tt q (58 ∷ ws) → skip (q + 1) ws ≡ reads tt r xs → inner r xs ≡ reads j n rest
    → read_member inner at us ≡ reads (record { name = m.place; characters = m.characters; content = j }) n rest
pair_goes inner m j at p q r n us vs ws xs rest e f g h = rw (e, f, g, h) refl

pair_case : (s : Span) (cs : List ℕ) (j : Json) → ValueRead j → (d : ℕ) → depth j ≤ d → EntryRead (read_member (inner d)) (pair s cs (value j)) (record { name = s; characters = cs; content = j })
pair_case s cs j rec d small at n bs rest h k e =
    let f = h.4 in let g = f.4 in let m = g.4 in
    let size : length bs ≡ length h.0 + length f.0 + 1 + length m.0 + length m.1 = paired_length bs h.0 h.1 f.0 f.1 g.0 g.1 m.0 m.1 h.2 f.2 g.2 g.3 m.2 in
    let one : length g.0 ≡ 1 = ap length g.3 in
    ap (read_member (inner d) at) (paired_whole bs h.0 h.1 f.0 f.1 g.0 g.1 m.0 m.1 rest h.2 f.2 g.2 g.3 m.2)
    ∙ pair_goes (inner d) (record { place = s; characters = cs }) j at (at + length h.0) (at + length h.0 + length f.0) (at + length h.0 + length f.0 + length g.0 + length m.0) n
    (h.0 ++ (f.0 ++ (58 ∷ (m.0 ++ (m.1 ++ rest))))) (f.0 ++ (58 ∷ (m.0 ++ (m.1 ++ rest)))) (m.0 ++ (m.1 ++ rest)) (m.1 ++ rest) rest
    (spanned_read (λ s cs. record { place = s; characters = cs }) (λ at bs. read_string at bs) s cs at (at + length h.0) (h.0 ++ (f.0 ++ (58 ∷ (m.0 ++ (m.1 ++ rest))))) (f.0 ++ (58 ∷ (m.0 ++ (m.1 ++ rest))))
    (string_read at (at + length h.0) cs h.0 (f.0 ++ (58 ∷ (m.0 ++ (m.1 ++ rest)))) h.3.0 refl) h.3.1)
    (skip_read (at + length h.0) 0 (at + length h.0 + length f.0) f.0 (58 ∷ (m.0 ++ (m.1 ++ rest))) f.3 refl refl)
    (skip_read (at + length h.0 + length f.0 + 1) 0 (at + length h.0 + length f.0 + length g.0 + length m.0) m.0 (m.1 ++ rest) m.3 (starts_no_space 93 m.1 rest (value_starts j _ m.1 m.4)) (omega (arith, one)))
    (rec d small (at + length h.0 + length f.0 + length g.0 + length m.0) n m.1 rest m.4 k (omega (arith, one, size, e)))

member_case : (s : Span) (cs : List ℕ) (j : Json) (ms : Members) → ValueRead j → MoreMembersRead ms → MembersRead (member s cs j ms)
member_case s cs j ms rec more d small at i n bs rest h e k = cons_read 123 125 (read_member (inner d)) no_members member_of (pair s cs (value j)) (more_members ms) (record { name = s; characters = cs; content = j }) ms brace (pair_starts s cs (value j)) (pair_case s cs j rec d (omega arith)) (members_start ms) (more d (omega arith)) at i n bs rest h e k

more_member_case : (s : Span) (cs : List ℕ) (j : Json) (ms : Members) → ValueRead j → MoreMembersRead ms → MoreMembersRead (member s cs j ms)
more_member_case s cs j ms rec more d small = more_read 125 (read_member (inner d)) no_members member_of (pair s cs (value j)) (more_members ms) (record { name = s; characters = cs; content = j }) ms brace (pair_starts s cs (value j)) (pair_case s cs j rec d (omega arith)) (members_start ms) (more d (omega arith))

mutual
  pub value_read : (j : Json) → ValueRead j
  value_read (word s w) = word_case s w
  value_read (number s ds) = number_case s ds
  value_read (string s cs) = string_case s cs
  value_read (array s js) = array_case s js (items_read js)
  value_read (object s ms) = object_case s ms (members_read ms)

  items_read : (js : Items) → ItemsRead js
  items_read no_items = λ d small at i n bs rest h e k. nil_read 91 93 (inner d) no_items item at i n bs rest bracket h k
  items_read (item j js) = item_case j js (value_read j) (more_items_read js)

  more_items_read : (js : Items) → MoreItemsRead js
  more_items_read no_items = λ d small. no_more_read 93 (inner d) no_items item
  more_items_read (item j js) = more_item_case j js (value_read j) (more_items_read js)

  members_read : (ms : Members) → MembersRead ms
  members_read no_members = λ d small at i n bs rest h e k. nil_read 123 125 (read_member (inner d)) no_members member_of at i n bs rest brace h k
  members_read (member s cs j ms) = member_case s cs j ms (value_read j) (more_members_read ms)

  more_members_read : (ms : Members) → MoreMembersRead ms
  more_members_read no_members = λ d small. no_more_read 125 (read_member (inner d)) no_members member_of
  more_members_read (member s cs j ms) = more_member_case s cs j ms (value_read j) (more_members_read ms)
