-- Two values say the same just where their texts are equal.
use Rattle.std.proofs.Common.{◌≡◌, ℕ, suc, ◌==◌, Bool, true, false, cond, T, List, [], ◌∷◌, ◌++◌, refl, sym, ◌∙◌, ap, ap₂, subst, append_assoc}
use Rattle.std.specs.Prelude.{Option, Some, None, bytes_eq, encode_utf8_all}
use Rattle.std.specs.declared.cmp.Ordering.{Ordering}
use Rattle.std.specs.declared.cmp.Ordering.TheVariants.{Less, Equal, Greater}
use Rattle.std.specs.Cmp.{IsTotalOrder}
use Rattle.std.specs.FinMap.Entries as map
use Rattle.std.specs.Option.{option_map}
use Rattle.std.proofs.lemmas.Cmp.{nat_list_cmp_total, on_total}
use Rattle.std.proofs.lemmas.Map.Text.{is_eq-slice_cmp}
use Rattle.std.proofs.lemmas.Str.{encodes_same}
use Rattle.json_text.specs.declared.kind.Kind.{Kind}
use Rattle.json_text.specs.declared.kind.Kind.TheVariants as kind
use Rattle.json_text.specs.declared.kind.Word.{Word}
use Rattle.json_text.specs.declared.kind.Word.TheVariants as word_of
use Rattle.json_text.specs.declared.span.Span.{Span}
use Rattle.json_text.specs.Json.{Json, word, number, string, array, object, Items, no_items, item, Members, no_members, member}
use Rattle.json_text.specs.Named.{named, if_named, or_else}
use Rattle.json_nodes.specs.Nodes.{kind_of}
use Rattle.json_nodes.specs.Same.{same}
use Rattle.json_nodes.specs.SameTree.{Same, SameItems, SameNamed, words, numbers, strings, arrays, objects, no_more, one_more, neither, both}
use Rattle.json_nodes.proofs.ByName.{equal_items, texts_equal}
use Rattle.json_nodes.proofs.Induction.{ItemsHave, MembersHave, Steps, every}
use Rattle.json_nodes.proofs.SameLaw.{same_law}
use Rattle.json_nodes.proofs.Sames.{array_of, number_of, object_of, string_of, word_false, word_null, word_true}
use Rattle.json_nodes.proofs.Spelling.{decided, named_member, named_none}
use Rattle.capability_meet.specs.ValueText.{Pair, by_name, items_text, marked, pairs_text, pairs_with, value_text}

-- a text ends by itself: what stands behind it doesn't matter

marked_ends : (bs cs xs ys : List ℕ) → marked bs ++ xs ≡ marked cs ++ ys → (bs ≡ cs) × (xs ≡ ys)
marked_ends [] [] xs ys e = (refl, let r : xs ≡ ys = cc in r)
marked_ends [] (c ∷ cs) xs ys e = absurd (cc)
marked_ends (b ∷ bs) [] xs ys e = absurd (cc)
marked_ends (b ∷ bs) (c ∷ cs) xs ys e =
    let h : b ≡ c = cc in
    let r : marked bs ++ xs ≡ marked cs ++ ys = cc in
    let q : (bs ≡ cs) × (xs ≡ ys) = marked_ends bs cs xs ys r in
    (ap₂ (λ z zs. z ∷ zs) h q.0, q.1)

-- the kind that a text begins with
abbrev kind_at : List ℕ → Kind
kind_at [] = kind.Null
kind_at (b ∷ bs) = cond (b == 110) kind.Null (cond (b == 102) kind.False (cond (b == 116) kind.True (cond (b == 48) kind.Number (cond (b == 34) kind.Text (cond (b == 91) kind.Array kind.Object)))))

begins : (t : Json) (xs : List ℕ) → kind_at (value_text t ++ xs) ≡ kind_of t
begins (word s word_of.Null) xs = refl
begins (word s word_of.False) xs = refl
begins (word s word_of.True) xs = refl
begins (number s ds) xs = refl
begins (string s cs) xs = refl
begins (array s js) xs = refl
begins (object s ms) xs = refl

same_kinds : (t u : Json) (xs ys : List ℕ) → value_text t ++ xs ≡ value_text u ++ ys → kind_of u ≡ kind_of t
same_kinds t u xs ys e = sym (begins u ys) ∙ ap kind_at (sym e) ∙ begins t xs

-- a text that ends by itself before the text of a value does
abbrev Ends : List ℕ → Type 0
Ends x = (u : Json) (xs ys : List ℕ) → x ++ xs ≡ value_text u ++ ys → (x ≡ value_text u) × (xs ≡ ys)

-- it is enough to know it of a value of this form
abbrev EndsAt : List ℕ → Json → Type 0
EndsAt x u = (xs ys : List ℕ) → x ++ xs ≡ value_text u ++ ys → (x ≡ value_text u) × (xs ≡ ys)

ends_at : (x : List ℕ) (u v : Json) → u ≡ v → EndsAt x v → EndsAt x u
ends_at x u v e h = subst (λ z. EndsAt x z) (sym e) h

one_byte : (b : ℕ) (xs ys : List ℕ) → b ∷ xs ≡ b ∷ ys → xs ≡ ys
one_byte b xs ys e = cc

word_ends : (s : Span) (w : Word) → Ends (value_text (word s w))
word_ends s word_of.Null u xs ys e =
    let k : (r : Span) × (u ≡ word r word_of.Null) = word_null u (same_kinds (word s word_of.Null) u xs ys e) in
    ends_at (110 ∷ []) u (word k.0 word_of.Null) k.1 (λ xs ys e. (refl, one_byte 110 xs ys e)) xs ys e
word_ends s word_of.False u xs ys e =
    let k : (r : Span) × (u ≡ word r word_of.False) = word_false u (same_kinds (word s word_of.False) u xs ys e) in
    ends_at (102 ∷ []) u (word k.0 word_of.False) k.1 (λ xs ys e. (refl, one_byte 102 xs ys e)) xs ys e
word_ends s word_of.True u xs ys e =
    let k : (r : Span) × (u ≡ word r word_of.True) = word_true u (same_kinds (word s word_of.True) u xs ys e) in
    ends_at (116 ∷ []) u (word k.0 word_of.True) k.1 (λ xs ys e. (refl, one_byte 116 xs ys e)) xs ys e

marked_at : (a : ℕ) (bs cs xs ys : List ℕ) → (a ∷ marked bs) ++ xs ≡ (a ∷ marked cs) ++ ys → (a ∷ marked bs ≡ a ∷ marked cs) × (xs ≡ ys)
marked_at a bs cs xs ys e = let q : (bs ≡ cs) × (xs ≡ ys) = marked_ends bs cs xs ys (one_byte a (marked bs ++ xs) (marked cs ++ ys) e) in (ap (λ z. a ∷ marked z) q.0, q.1)

number_ends : (s : Span) (ds : List ℕ) → Ends (value_text (number s ds))
number_ends s ds u xs ys e =
    let k : (r : Span) × (es : List ℕ) × (u ≡ number r es) = number_of u (same_kinds (number s ds) u xs ys e) in
    ends_at (48 ∷ marked ds) u (number k.0 k.1) k.2 (λ xs ys e. marked_at 48 ds k.1 xs ys e) xs ys e

string_ends : (s : Span) (cs : List ℕ) → Ends (value_text (string s cs))
string_ends s cs u xs ys e =
    let k : (r : Span) × (ds : List ℕ) × (u ≡ string r ds) = string_of u (same_kinds (string s cs) u xs ys e) in
    ends_at (34 ∷ marked (encode_utf8_all cs)) u (string k.0 k.1) k.2 (λ xs ys e. marked_at 34 (encode_utf8_all cs) (encode_utf8_all k.1) xs ys e) xs ys e

abbrev ItemsEnd : Items → Type 0
ItemsEnd js = (ks : Items) (xs ys : List ℕ) → items_text js ++ xs ≡ items_text ks ++ ys → (items_text js ≡ items_text ks) × (xs ≡ ys)

no_items_end : ItemsEnd no_items
no_items_end no_items xs ys e = (refl, one_byte 0 xs ys e)
no_items_end (item k ks) xs ys e = absurd (cc)

item_ends : (j : Json) (js : Items) → Ends (value_text j) → ItemsEnd js → ItemsEnd (item j js)
item_ends j js f g no_items xs ys e = absurd (cc)
item_ends j js f g (item k ks) xs ys e =
    let h : (value_text j ++ items_text js) ++ xs ≡ (value_text k ++ items_text ks) ++ ys = one_byte 1 ((value_text j ++ items_text js) ++ xs) ((value_text k ++ items_text ks) ++ ys) e in
    let p : (value_text j ≡ value_text k) × (items_text js ++ xs ≡ items_text ks ++ ys) = f k (items_text js ++ xs) (items_text ks ++ ys) (sym (append_assoc (value_text j) (items_text js) xs) ∙ h ∙ append_assoc (value_text k) (items_text ks) ys) in
    let q : (items_text js ≡ items_text ks) × (xs ≡ ys) = g ks xs ys p.1 in
    (ap₂ (λ a b. 1 ∷ (a ++ b)) p.0 q.0, q.1)

array_ends : (s : Span) (js : Items) → ItemsEnd js → Ends (value_text (array s js))
array_ends s js f u xs ys e =
    let k : (r : Span) × (ks : Items) × (u ≡ array r ks) = array_of u (same_kinds (array s js) u xs ys e) in
    ends_at (91 ∷ items_text js) u (array k.0 k.1) k.2 (λ xs ys e. let q : (items_text js ≡ items_text k.1) × (xs ≡ ys) = f k.1 xs ys (one_byte 91 (items_text js ++ xs) (items_text k.1 ++ ys) e) in (ap (λ z. 91 ∷ z) q.0, q.1)) xs ys e

-- what holds of the texts of pairs, and of the values of members

abbrev PairsHave : (List ℕ → Type 0) → List Pair → Type 0
PairsHave P [] = Unit {0}
PairsHave P (p ∷ ps) = P p.1 × PairsHave P ps

abbrev EachHas : (List ℕ → Type 0) → Members → Type 0
EachHas P no_members = Unit {0}
EachHas P (member s cs j ms) = P (value_text j) × EachHas P ms

pair_put : (P : List ℕ → Type 0) (cs x : List ℕ) (ps : List Pair) → P x → PairsHave P ps → PairsHave P (map.put by_name cs x ps)
pair_put P cs x [] h g = (h, tt)
pair_put P cs x (p ∷ ps) h g = go (by_name cs p.0) (pair_put P cs x ps h g.1)
  where
    go : (o : Ordering) → PairsHave P (map.put by_name cs x ps) → PairsHave P (map.by_order o ((cs, x) ∷ p ∷ ps) ((p.0, x) ∷ ps) (p ∷ map.put by_name cs x ps))
    go Less r = (h, g)
    go Equal r = (h, g.1)
    go Greater r = (g.0, r)

pairs_have : (P : List ℕ → Type 0) (ms : Members) (ps : List Pair) → EachHas P ms → PairsHave P ps → PairsHave P (pairs_with ps ms)
pairs_have P no_members ps h g = g
pairs_have P (member s cs j ms) ps h g = pairs_have P ms (map.put by_name cs (value_text j) ps) h.1 (pair_put P cs (value_text j) ps h.0 g)

-- the text of some value
abbrev IsText : List ℕ → Type 0
IsText x = (u : Json) × (x ≡ value_text u)

each_text : (ms : Members) → EachHas IsText ms
each_text no_members = tt
each_text (member s cs j ms) = ((j, refl), each_text ms)

pairs_end : (ps qs : List Pair) (xs ys : List ℕ) → PairsHave Ends ps → PairsHave IsText qs → pairs_text ps ++ xs ≡ pairs_text qs ++ ys → (ps ≡ qs) × (xs ≡ ys)
pairs_end [] [] xs ys f g e = (refl, one_byte 0 xs ys e)
pairs_end [] (q ∷ qs) xs ys f g e = absurd (cc)
pairs_end (p ∷ ps) [] xs ys f g e = absurd (cc)
pairs_end (p ∷ ps) (q ∷ qs) xs ys f g e =
    let m = marked (encode_utf8_all p.0) in
    let n = marked (encode_utf8_all q.0) in
    let h : (m ++ (p.1 ++ pairs_text ps)) ++ xs ≡ (n ++ (q.1 ++ pairs_text qs)) ++ ys = one_byte 1 ((m ++ (p.1 ++ pairs_text ps)) ++ xs) ((n ++ (q.1 ++ pairs_text qs)) ++ ys) e in
    let a : (encode_utf8_all p.0 ≡ encode_utf8_all q.0) × ((p.1 ++ pairs_text ps) ++ xs ≡ (q.1 ++ pairs_text qs) ++ ys) =
    marked_ends (encode_utf8_all p.0) (encode_utf8_all q.0) ((p.1 ++ pairs_text ps) ++ xs) ((q.1 ++ pairs_text qs) ++ ys)
    (sym (append_assoc m (p.1 ++ pairs_text ps) xs) ∙ h ∙ append_assoc n (q.1 ++ pairs_text qs) ys) in
    let b : (p.1 ≡ value_text g.0.0) × (pairs_text ps ++ xs ≡ pairs_text qs ++ ys) =
    f.0 g.0.0 (pairs_text ps ++ xs) (pairs_text qs ++ ys)
    (sym (append_assoc p.1 (pairs_text ps) xs) ∙ a.1 ∙ append_assoc q.1 (pairs_text qs) ys ∙ ap (λ z. z ++ (pairs_text qs ++ ys)) g.0.1) in
    let r : (ps ≡ qs) × (xs ≡ ys) = pairs_end ps qs xs ys f.1 g.1 b.1 in
    let name : p.0 ≡ q.0 = encodes_same p.0 q.0 a.0 in
    let text : p.1 ≡ q.1 = b.0 ∙ sym g.0.1 in
    ((λ i. (name i, text i) ∷ r.0 i), r.1)

object_ends : (s : Span) (ms : Members) → EachHas Ends ms → Ends (value_text (object s ms))
object_ends s ms f u xs ys e =
    let k : (r : Span) × (ns : Members) × (u ≡ object r ns) = object_of u (same_kinds (object s ms) u xs ys e) in
    ends_at (123 ∷ pairs_text (pairs_with [] ms)) u (object k.0 k.1) k.2
    (λ xs ys e.
    let q : (pairs_with [] ms ≡ pairs_with [] k.1) × (xs ≡ ys) =
    pairs_end (pairs_with [] ms) (pairs_with [] k.1) xs ys (pairs_have Ends ms [] f tt) (pairs_have IsText k.1 [] (each_text k.1) tt)
    (one_byte 123 (pairs_text (pairs_with [] ms) ++ xs) (pairs_text (pairs_with [] k.1) ++ ys) e) in
    (ap (λ z. 123 ∷ pairs_text z) q.0, q.1))
    xs ys e

mutual
  value_ends : (t : Json) → Ends (value_text t)
  value_ends (word s w) = word_ends s w
  value_ends (number s ds) = number_ends s ds
  value_ends (string s cs) = string_ends s cs
  value_ends (array s js) = array_ends s js (items_end js)
  value_ends (object s ms) = object_ends s ms (members_end ms)

  items_end : (js : Items) → ItemsEnd js
  items_end no_items = no_items_end
  items_end (item j js) = item_ends j js (value_ends j) (items_end js)

  members_end : (ms : Members) → EachHas Ends ms
  members_end no_members = tt
  members_end (member s cs j ms) = (value_ends j, members_end ms)

-- the text under a name

by_name_total : IsTotalOrder by_name
by_name_total = on_total encode_utf8_all nat_list_cmp_total

one_name : (cs ds : List ℕ) → by_name cs ds ≡ Equal → cs ≡ ds
one_name cs ds e = encodes_same cs ds (equal_items (encode_utf8_all cs) (encode_utf8_all ds) e)

abbrev first_of : Option (List ℕ) → Option (List ℕ) → Option (List ℕ)
first_of (Some x) o = Some x
first_of None o = o

first_none : (o : Option (List ℕ)) → first_of o None ≡ o
first_none None = refl
first_none (Some x) = refl

one_more_name : (o : Option Json) (b : Bool) (j : Json) (p : Option (List ℕ)) → first_of (option_map value_text o) (cond b (Some (value_text j)) p) ≡ first_of (option_map value_text (or_else o (if_named b j))) p
one_more_name (Some k) b j p = refl
one_more_name None true j p = refl
one_more_name None false j p = refl

texts_at : (cs : List ℕ) (ms : Members) (ps : List Pair) → map.find by_name cs (pairs_with ps ms) ≡ first_of (option_map value_text (named cs ms)) (map.find by_name cs ps)
texts_at cs no_members ps = ap (λ o. first_of (option_map value_text o) (map.find by_name cs ps)) (sym (named_none cs))
texts_at cs (member s ds j ms) ps =
    texts_at cs ms (map.put by_name ds (value_text j) ps)
    ∙ ap (first_of (option_map value_text (named cs ms))) (map.find-put by_name by_name_total cs ds (value_text j) ps
    ∙ ap (λ b. cond b (Some (value_text j)) (map.find by_name cs ps)) (is_eq-slice_cmp (encode_utf8_all cs) (encode_utf8_all ds) ∙ texts_equal cs ds))
    ∙ one_more_name (named cs ms) (bytes_eq cs ds) j (map.find by_name cs ps)
    ∙ ap (λ o. first_of (option_map value_text o) (map.find by_name cs ps)) (sym (named_member cs ds s j ms))

named_text : (cs : List ℕ) (ms : Members) → map.find by_name cs (pairs_with [] ms) ≡ option_map value_text (named cs ms)
named_text cs ms = texts_at cs ms [] ∙ first_none (option_map value_text (named cs ms))

in_order : (ms : Members) (ps : List Pair) → T (map.is_sorted by_name ps) → T (map.is_sorted by_name (pairs_with ps ms))
in_order no_members ps h = h
in_order (member s cs j ms) ps h = in_order ms (map.put by_name cs (value_text j) ps) (map.is_sorted-put by_name by_name_total cs (value_text j) ps h)

-- values that say the same have one text

abbrev OneText : Json → Type 0
OneText t = (u : Json) → Same t u → value_text t ≡ value_text u

word_text : (s : Span) (w : Word) → OneText (word s w)
word_text s w (word r v) (words {w = x}) = refl
word_text s w (number r ds) h = elim h [ ]
word_text s w (string r ds) h = elim h [ ]
word_text s w (array r js) h = elim h [ ]
word_text s w (object r ms) h = elim h [ ]

number_text : (s : Span) (ds : List ℕ) → OneText (number s ds)
number_text s ds (number r es) (numbers {ds = xs}) = refl
number_text s ds (word r w) h = elim h [ ]
number_text s ds (string r es) h = elim h [ ]
number_text s ds (array r js) h = elim h [ ]
number_text s ds (object r ms) h = elim h [ ]

string_text : (s : Span) (cs : List ℕ) → OneText (string s cs)
string_text s cs (string r ds) (strings {cs = xs}) = refl
string_text s cs (word r w) h = elim h [ ]
string_text s cs (number r ds) h = elim h [ ]
string_text s cs (array r js) h = elim h [ ]
string_text s cs (object r ms) h = elim h [ ]

items_one : (js ks : Items) → ItemsHave OneText js → SameItems js ks → items_text js ≡ items_text ks
items_one no_items no_items f h = refl
items_one no_items (item k ks) f h = elim h [ ]
items_one (item j js) no_items f h = elim h [ ]
items_one (item j js) (item k ks) f (one_more h g) = ap₂ (λ a b. 1 ∷ (a ++ b)) (f 0 j refl k h) (items_one js ks (λ n i e. f (suc n) i e) g)

array_text : (s : Span) (js : Items) → ItemsHave OneText js → OneText (array s js)
array_text s js f (array r ks) (arrays h) = ap (λ z. 91 ∷ z) (items_one js ks f h)
array_text s js f (word r w) h = elim h [ ]
array_text s js f (number r ds) h = elim h [ ]
array_text s js f (string r ds) h = elim h [ ]
array_text s js f (object r ms) h = elim h [ ]

named_one : (o p : Option Json) → ((j : Json) → o ≡ Some j → OneText j) → SameNamed o p → option_map value_text o ≡ option_map value_text p
named_one None None f h = refl
named_one None (Some k) f h = elim h [ ]
named_one (Some j) None f h = elim h [ ]
named_one (Some j) (Some k) f (both h) = ap (λ x. Some x) (f j refl k h)

object_text : (s : Span) (ms : Members) → MembersHave OneText ms → OneText (object s ms)
object_text s ms f (object r ns) (objects g) =
    ap (λ ps. 123 ∷ pairs_text ps) (map.same_entries by_name by_name_total one_name (pairs_with [] ms) (pairs_with [] ns) (in_order ms [] tt) (in_order ns [] tt)
    (λ cs. named_text cs ms ∙ named_one (named cs ms) (named cs ns) (λ j e. f cs j e) (g cs) ∙ sym (named_text cs ns)))
object_text s ms f (word r w) h = elim h [ ]
object_text s ms f (number r ds) h = elim h [ ]
object_text s ms f (string r ds) h = elim h [ ]
object_text s ms f (array r js) h = elim h [ ]

one_text : Steps OneText
one_text = record {
  words = λ s w. word_text s w;
  numbers = λ s ds. number_text s ds;
  strings = λ s cs. string_text s cs;
  arrays = λ s js f. array_text s js f;
  objects = λ s ms f. object_text s ms f;
}

-- values of one text say the same

abbrev OneValue : Json → Type 0
OneValue t = (u : Json) → value_text t ≡ value_text u → Same t u

one_kind : (t u : Json) → value_text t ≡ value_text u → kind_of u ≡ kind_of t
one_kind t u e = same_kinds t u [] [] (ap (λ z. z ++ []) e)

same_as : (t u v : Json) → u ≡ v → Same t v → Same t u
same_as t u v e h = subst (λ z. Same t z) (sym e) h

word_one : (s : Span) (w : Word) → OneValue (word s w)
word_one s word_of.Null u e = let k : (r : Span) × (u ≡ word r word_of.Null) = word_null u (one_kind (word s word_of.Null) u e) in same_as (word s word_of.Null) u (word k.0 word_of.Null) k.1 words
word_one s word_of.False u e = let k : (r : Span) × (u ≡ word r word_of.False) = word_false u (one_kind (word s word_of.False) u e) in same_as (word s word_of.False) u (word k.0 word_of.False) k.1 words
word_one s word_of.True u e = let k : (r : Span) × (u ≡ word r word_of.True) = word_true u (one_kind (word s word_of.True) u e) in same_as (word s word_of.True) u (word k.0 word_of.True) k.1 words

marked_one : (a : ℕ) (bs cs : List ℕ) → a ∷ marked bs ≡ a ∷ marked cs → bs ≡ cs
marked_one a bs cs e = (marked_ends bs cs [] [] (ap (λ z. z ++ []) (one_byte a (marked bs) (marked cs) e))).0

number_one : (s : Span) (ds : List ℕ) → OneValue (number s ds)
number_one s ds u e =
    let k : (r : Span) × (es : List ℕ) × (u ≡ number r es) = number_of u (one_kind (number s ds) u e) in
    let h : ds ≡ k.1 = marked_one 48 ds k.1 (e ∙ ap value_text k.2) in
    same_as (number s ds) u (number k.0 k.1) k.2 (subst (λ (xs : List ℕ). Same (number s ds) (number k.0 xs)) h numbers)

string_one : (s : Span) (cs : List ℕ) → OneValue (string s cs)
string_one s cs u e =
    let k : (r : Span) × (ds : List ℕ) × (u ≡ string r ds) = string_of u (one_kind (string s cs) u e) in
    let h : cs ≡ k.1 = encodes_same cs k.1 (marked_one 34 (encode_utf8_all cs) (encode_utf8_all k.1) (e ∙ ap value_text k.2)) in
    same_as (string s cs) u (string k.0 k.1) k.2 (subst (λ (xs : List ℕ). Same (string s cs) (string k.0 xs)) h strings)

items_same : (js ks : Items) → ItemsHave OneValue js → items_text js ≡ items_text ks → SameItems js ks
items_same no_items no_items f e = no_more
items_same no_items (item k ks) f e = absurd (cc)
items_same (item j js) no_items f e = absurd (cc)
items_same (item j js) (item k ks) f e =
    let p : (value_text j ≡ value_text k) × (items_text js ≡ items_text ks) = value_ends j k (items_text js) (items_text ks) (one_byte 1 (value_text j ++ items_text js) (value_text k ++ items_text ks) e) in
    one_more (f 0 j refl k p.0) (items_same js ks (λ n i h. f (suc n) i h) p.1)

array_one : (s : Span) (js : Items) → ItemsHave OneValue js → OneValue (array s js)
array_one s js f u e =
    let k : (r : Span) × (ks : Items) × (u ≡ array r ks) = array_of u (one_kind (array s js) u e) in
    same_as (array s js) u (array k.0 k.1) k.2 (arrays (items_same js k.1 f (one_byte 91 (items_text js) (items_text k.1) (e ∙ ap value_text k.2))))

named_same : (o p : Option Json) → ((j : Json) → o ≡ Some j → OneValue j) → option_map value_text o ≡ option_map value_text p → SameNamed o p
named_same None None f e = neither
named_same None (Some k) f e = absurd (cc)
named_same (Some j) None f e = absurd (cc)
named_same (Some j) (Some k) f e = let h : value_text j ≡ value_text k = cc in both (f j refl k h)

object_one : (s : Span) (ms : Members) → MembersHave OneValue ms → OneValue (object s ms)
object_one s ms f u e =
    let k : (r : Span) × (ns : Members) × (u ≡ object r ns) = object_of u (one_kind (object s ms) u e) in
    let h : pairs_text (pairs_with [] ms) ≡ pairs_text (pairs_with [] k.1) = one_byte 123 (pairs_text (pairs_with [] ms)) (pairs_text (pairs_with [] k.1)) (e ∙ ap value_text k.2) in
    let q : pairs_with [] ms ≡ pairs_with [] k.1 = (pairs_end (pairs_with [] ms) (pairs_with [] k.1) [] [] (pairs_have Ends ms [] (members_end ms) tt) (pairs_have IsText k.1 [] (each_text k.1) tt) (ap (λ z. z ++ []) h)).0 in
    same_as (object s ms) u (object k.0 k.1) k.2
    (objects (λ cs. named_same (named cs ms) (named cs k.1) (λ j g. f cs j g) (sym (named_text cs ms) ∙ ap (λ ps. map.find by_name cs ps) q ∙ named_text cs k.1)))

one_value : Steps OneValue
one_value = record {
  words = λ s w. word_one s w;
  numbers = λ s ds. number_one s ds;
  strings = λ s cs. string_one s cs;
  arrays = λ s js f. array_one s js f;
  objects = λ s ms f. object_one s ms f;
}

-- two values say the same just where their texts are equal
pub same_text : (t u : Json) → same t u ≡ bytes_eq (value_text t) (value_text u)
same_text t u = decided (same t u) (value_text t) (value_text u) ((λ h. every OneText one_text t u ((same_law t u).0 h)), (λ e. (same_law t u).1 (every OneValue one_value t u e)))
