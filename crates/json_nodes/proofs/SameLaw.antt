-- The test of two values is true exactly where they say the same.
use Rattle.std.proofs.Common.{◌≡◌, ℕ, Bool, true, false, ◌&&◌, ◌||◌, List, refl, sym, ◌∙◌, ap, subst}
use Rattle.std.specs.Prelude.{Option, Some, None, bytes_eq}
use Rattle.std.specs.Bool.{Decides}
use Rattle.std.specs.Option.{is_some}
use Rattle.std.proofs.lemmas.Slice.Eq.{bytes_eq-Decides}
use Rattle.json_text.specs.declared.kind.Word.{Word}
use Rattle.json_text.specs.declared.kind.Word.TheVariants as word_of
use Rattle.json_text.specs.declared.span.Span.{Span}
use Rattle.json_text.specs.Json.{Json, word, number, string, array, object, Items, no_items, item, Members, no_members, member}
use Rattle.json_text.specs.Named.{named, if_named, or_else}
use Rattle.json_nodes.specs.Same.{same, same_items, same_members, names_within, has_name, if_some}
use Rattle.json_nodes.specs.SameTree.{Same, SameItems, SameNamed, words, numbers, strings, arrays, objects, no_more, one_more, neither, both}
use Rattle.json_nodes.proofs.Spelling.{named_member, named_none}

and_left : (a b : Bool) → (a && b) ≡ true → a ≡ true
and_left true b h = refl
and_left false b h = cc

and_right : (a b : Bool) → (a && b) ≡ true → b ≡ true
and_right true b h = h
and_right false b h = cc

and_true : (a b : Bool) → a ≡ true → b ≡ true → (a && b) ≡ true
and_true a b h g = rw (h, g) refl

or_right : (a b : Bool) → (a || b) ≡ true → a ≡ false → b ≡ true
or_right true b h e = cc
or_right false b h e = h

-- claims of a value and of members

abbrev Sound : Json → Type 0
Sound j = (u : Json) → same j u ≡ true → Same j u

abbrev Complete : Json → Type 0
Complete j = (u : Json) → Same j u → same j u ≡ true

-- the last value of this name is the same as some last value of the name
abbrev Matched : List ℕ → Json → Members → Type 0
Matched cs j ns = (k : Json) × (named cs ns ≡ Some k) × Same j k

abbrev AllMatched : Members → Members → Type 0
AllMatched ms ns = (cs : List ℕ) (j : Json) → named cs ms ≡ Some j → Matched cs j ns

abbrev MembersSound : Members → Type 0
MembersSound ms = (ns : Members) → same_members ms ns ≡ true → AllMatched ms ns

abbrev MembersComplete : Members → Type 0
MembersComplete ms = (ns : Members) → AllMatched ms ns → same_members ms ns ≡ true

-- one member

matched_by : (cs : List ℕ) (j : Json) (ns : Members) (o : Option Json) → named cs ns ≡ o → Sound j → if_some o (λ k. same j k) ≡ true → Matched cs j ns
matched_by cs j ns None e f h = cc
matched_by cs j ns (Some k) e f h = (k, e, f k h)

the_member : (cs ds : List ℕ) (j i : Json) (b : Bool) → bytes_eq cs ds ≡ b → if_named b j ≡ Some i → (cs ≡ ds) × (j ≡ i)
the_member cs ds j i true e h = ((bytes_eq-Decides cs ds).0 e, (let same : j ≡ i = cc in same))
the_member cs ds j i false e h = cc

here_or_later : (cs ds : List ℕ) (j i : Json) (ms ns : Members) (o : Option Json) → named cs ms ≡ o → or_else o (if_named (bytes_eq cs ds) j) ≡ Some i → Sound j → AllMatched ms ns → (has_name ds ms || if_some (named ds ns) (λ k. same j k)) ≡ true → Matched cs i ns
here_or_later cs ds j i ms ns (Some k) e h f g t = g cs i (e ∙ h)
here_or_later cs ds j i ms ns None e h f g t =
    let p : (cs ≡ ds) × (j ≡ i) = the_member cs ds j i (bytes_eq cs ds) refl h in
    let none : named ds ms ≡ None = ap (λ xs. named xs ms) (sym p.0) ∙ e in
    let here : if_some (named ds ns) (λ k. same j k) ≡ true = or_right (has_name ds ms) (if_some (named ds ns) (λ k. same j k)) t (ap (λ o. is_some o) none) in
    let m : Matched ds j ns = matched_by ds j ns (named ds ns) refl f here in
    subst (λ (k : Json). Matched cs k ns) p.1 (subst (λ (xs : List ℕ). Matched xs j ns) (sym p.0) m)

member_sound : (s : Span) (ds : List ℕ) (j : Json) (ms : Members) → Sound j → MembersSound ms → MembersSound (member s ds j ms)
member_sound s ds j ms f g ns t cs i h =
    let first : (has_name ds ms || if_some (named ds ns) (λ k. same j k)) ≡ true = and_left (has_name ds ms || if_some (named ds ns) (λ k. same j k)) (same_members ms ns) t in
    let rest : same_members ms ns ≡ true = and_right (has_name ds ms || if_some (named ds ns) (λ k. same j k)) (same_members ms ns) t in
    here_or_later cs ds j i ms ns (named cs ms) refl (sym (named_member cs ds s j ms) ∙ h) f (g ns rest) first

none_sound : MembersSound no_members
none_sound ns t cs j h = let e : None ≡ Some j = sym (named_none cs) ∙ h in cc

same_bytes : (cs : List ℕ) → bytes_eq cs cs ≡ true
same_bytes cs = (bytes_eq-Decides cs cs).1 refl

first_holds : (s : Span) (ds : List ℕ) (j : Json) (ms ns : Members) (o : Option Json) → named ds ms ≡ o → Complete j → AllMatched (member s ds j ms) ns → (is_some o || if_some (named ds ns) (λ k. same j k)) ≡ true
first_holds s ds j ms ns (Some i) e f g = refl
first_holds s ds j ms ns None e f g =
    let mine : named ds (member s ds j ms) ≡ Some j = named_member ds ds s j ms ∙ rw (e, same_bytes ds) refl in
    let m : Matched ds j ns = g ds j mine in
    rw m.1 (f m.0 m.2)

member_complete : (s : Span) (ds : List ℕ) (j : Json) (ms : Members) → Complete j → MembersComplete ms → MembersComplete (member s ds j ms)
member_complete s ds j ms f g ns all =
    and_true (has_name ds ms || if_some (named ds ns) (λ k. same j k)) (same_members ms ns)
    (first_holds s ds j ms ns (named ds ms) refl f all)
    (g ns (λ cs i h. all cs i (named_member cs ds s j ms ∙ ap (λ o. or_else o (if_named (bytes_eq cs ds) j)) h)))

-- names

some_is : (o : Option Json) → is_some o ≡ true → (k : Json) × (o ≡ Some k)
some_is None h = cc
some_is (Some k) h = (k, refl)

names_sound : (ns ms : Members) → names_within ns ms ≡ true → (cs : List ℕ) (k : Json) → named cs ns ≡ Some k → has_name cs ms ≡ true
names_sound no_members ms t cs k h = let e : None ≡ Some k = sym (named_none cs) ∙ h in cc
names_sound (member s ds j ns) ms t cs k h = go cs ds j k ms (named cs ns) (sym (named_member cs ds s j ns) ∙ h) (λ i e. names_sound ns ms (and_right (has_name ds ms) (names_within ns ms) t) cs i e) (and_left (has_name ds ms) (names_within ns ms) t)
  where
    go : (cs ds : List ℕ) (j k : Json) (ms : Members) (o : Option Json) → or_else o (if_named (bytes_eq cs ds) j) ≡ Some k → ((i : Json) → o ≡ Some i → has_name cs ms ≡ true) → has_name ds ms ≡ true → has_name cs ms ≡ true
    go cs ds j k ms (Some i) h f t = f i refl
    go cs ds j k ms None h f t = let p : (cs ≡ ds) × (j ≡ k) = the_member cs ds j k (bytes_eq cs ds) refl h in ap (λ xs. has_name xs ms) p.0 ∙ t

names_complete : (ns ms : Members) → ((cs : List ℕ) (k : Json) → named cs ns ≡ Some k → has_name cs ms ≡ true) → names_within ns ms ≡ true
names_complete no_members ms f = refl
names_complete (member s ds j ns) ms f =
    and_true (has_name ds ms) (names_within ns ms)
    (last (named ds ns) (λ k h. f ds k (named_member ds ds s j ns ∙ h)))
    (names_complete ns ms (λ cs k h. f cs k (named_member cs ds s j ns ∙ ap (λ o. or_else o (if_named (bytes_eq cs ds) j)) h)))
  where
    last : (o : Option Json) → ((k : Json) → or_else o (if_named (bytes_eq ds ds) j) ≡ Some k → has_name ds ms ≡ true) → has_name ds ms ≡ true
    last (Some i) f = f i refl
    last None f = f j (rw (same_bytes ds) refl)

-- objects

named_both : (ms ns : Members) (cs : List ℕ) (o p : Option Json) → named cs ms ≡ o → named cs ns ≡ p → AllMatched ms ns → ((k : Json) → named cs ns ≡ Some k → has_name cs ms ≡ true) → SameNamed o p
named_both ms ns cs (Some j) p e f all back = let m : Matched cs j ns = all cs j e in subst (λ (q : Option Json). SameNamed (Some j) q) (sym m.1 ∙ f) (both m.2)
named_both ms ns cs None None e f all back = neither
named_both ms ns cs None (Some k) e f all back = let h : false ≡ true = sym (ap (λ o. is_some o) e) ∙ back k f in cc

object_sound : (s : Span) (ms : Members) → MembersSound ms → Sound (object s ms)
object_sound s ms f (object r ns) t =
    let all : AllMatched ms ns = f ns (and_left (same_members ms ns) (names_within ns ms) t) in
    objects (λ cs. named_both ms ns cs (named cs ms) (named cs ns) refl refl all (λ k h. names_sound ns ms (and_right (same_members ms ns) (names_within ns ms) t) cs k h))
object_sound s ms f (word r w) t = cc
object_sound s ms f (number r ds) t = cc
object_sound s ms f (string r ds) t = cc
object_sound s ms f (array r js) t = cc

matched_of : (cs : List ℕ) (ns : Members) (o p : Option Json) (j : Json) → o ≡ Some j → named cs ns ≡ p → SameNamed o p → Matched cs j ns
matched_of cs ns o p j e f neither = cc
matched_of cs ns o p j e f (both {j = i} {k = k} h) = let same : i ≡ j = cc in (k, f, subst (λ (v : Json). Same v k) same h)

missing_of : (cs : List ℕ) (ms ns : Members) (o p : Option Json) (k : Json) → named cs ms ≡ o → p ≡ Some k → SameNamed o p → has_name cs ms ≡ true
missing_of cs ms ns o p k e f neither = cc
missing_of cs ms ns o p k e f (both h) = ap (λ q. is_some q) e

object_complete : (s : Span) (ms : Members) → MembersComplete ms → Complete (object s ms)
object_complete s ms f (object r ns) (objects g) =
    and_true (same_members ms ns) (names_within ns ms)
    (f ns (λ cs j e. matched_of cs ns (named cs ms) (named cs ns) j e refl (g cs)))
    (names_complete ns ms (λ cs k e. missing_of cs ms ns (named cs ms) (named cs ns) k refl e (g cs)))
object_complete s ms f (word r w) h = elim h [ ]
object_complete s ms f (number r ds) h = elim h [ ]
object_complete s ms f (string r ds) h = elim h [ ]
object_complete s ms f (array r js) h = elim h [ ]

-- arrays

abbrev ItemsSound : Items → Type 0
ItemsSound js = (ks : Items) → same_items js ks ≡ true → SameItems js ks

abbrev ItemsComplete : Items → Type 0
ItemsComplete js = (ks : Items) → SameItems js ks → same_items js ks ≡ true

no_items_sound : ItemsSound no_items
no_items_sound no_items t = no_more
no_items_sound (item k ks) t = cc

item_sound : (j : Json) (js : Items) → Sound j → ItemsSound js → ItemsSound (item j js)
item_sound j js f g no_items t = cc
item_sound j js f g (item k ks) t = one_more (f k (and_left (same j k) (same_items js ks) t)) (g ks (and_right (same j k) (same_items js ks) t))

no_items_complete : ItemsComplete no_items
no_items_complete no_items h = refl
no_items_complete (item k ks) h = elim h [ ]

item_complete : (j : Json) (js : Items) → Complete j → ItemsComplete js → ItemsComplete (item j js)
item_complete j js f g no_items h = elim h [ ]
item_complete j js f g (item k ks) (one_more h i) = and_true (same j k) (same_items js ks) (f k h) (g ks i)

array_sound : (s : Span) (js : Items) → ItemsSound js → Sound (array s js)
array_sound s js f (array r ks) t = arrays (f ks t)
array_sound s js f (word r w) t = cc
array_sound s js f (number r ds) t = cc
array_sound s js f (string r ds) t = cc
array_sound s js f (object r ms) t = cc

array_complete : (s : Span) (js : Items) → ItemsComplete js → Complete (array s js)
array_complete s js f (array r ks) (arrays h) = f ks h
array_complete s js f (word r w) h = elim h [ ]
array_complete s js f (number r ds) h = elim h [ ]
array_complete s js f (string r ds) h = elim h [ ]
array_complete s js f (object r ms) h = elim h [ ]

-- words, numbers and strings

word_sound : (s : Span) (w : Word) → Sound (word s w)
word_sound s word_of.Null (word r word_of.Null) t = words
word_sound s word_of.Null (word r word_of.False) t = cc
word_sound s word_of.Null (word r word_of.True) t = cc
word_sound s word_of.False (word r word_of.Null) t = cc
word_sound s word_of.False (word r word_of.False) t = words
word_sound s word_of.False (word r word_of.True) t = cc
word_sound s word_of.True (word r word_of.Null) t = cc
word_sound s word_of.True (word r word_of.False) t = cc
word_sound s word_of.True (word r word_of.True) t = words
word_sound s w (number r ds) t = cc
word_sound s w (string r ds) t = cc
word_sound s w (array r js) t = cc
word_sound s w (object r ms) t = cc

word_self : (s r : Span) (w : Word) → same (word s w) (word r w) ≡ true
word_self s r word_of.Null = refl
word_self s r word_of.False = refl
word_self s r word_of.True = refl

word_complete : (s : Span) (w : Word) → Complete (word s w)
word_complete s w (word r v) (words {w = x}) = word_self s r x
word_complete s w (number r ds) h = elim h [ ]
word_complete s w (string r ds) h = elim h [ ]
word_complete s w (array r js) h = elim h [ ]
word_complete s w (object r ms) h = elim h [ ]

number_sound : (s : Span) (ds : List ℕ) → Sound (number s ds)
number_sound s ds (number r es) t = subst (λ (xs : List ℕ). Same (number s ds) (number r xs)) ((bytes_eq-Decides ds es).0 t) numbers
number_sound s ds (word r w) t = cc
number_sound s ds (string r es) t = cc
number_sound s ds (array r js) t = cc
number_sound s ds (object r ms) t = cc

number_complete : (s : Span) (ds : List ℕ) → Complete (number s ds)
number_complete s ds (number r es) (numbers {ds = xs}) = same_bytes xs
number_complete s ds (word r w) h = elim h [ ]
number_complete s ds (string r es) h = elim h [ ]
number_complete s ds (array r js) h = elim h [ ]
number_complete s ds (object r ms) h = elim h [ ]

string_sound : (s : Span) (cs : List ℕ) → Sound (string s cs)
string_sound s cs (string r ds) t = subst (λ (xs : List ℕ). Same (string s cs) (string r xs)) ((bytes_eq-Decides cs ds).0 t) strings
string_sound s cs (word r w) t = cc
string_sound s cs (number r ds) t = cc
string_sound s cs (array r js) t = cc
string_sound s cs (object r ms) t = cc

string_complete : (s : Span) (cs : List ℕ) → Complete (string s cs)
string_complete s cs (string r ds) (strings {cs = xs}) = same_bytes xs
string_complete s cs (word r w) h = elim h [ ]
string_complete s cs (number r ds) h = elim h [ ]
string_complete s cs (array r js) h = elim h [ ]
string_complete s cs (object r ms) h = elim h [ ]

mutual
  value_sound : (j : Json) → Sound j
  value_sound (word s w) = word_sound s w
  value_sound (number s ds) = number_sound s ds
  value_sound (string s cs) = string_sound s cs
  value_sound (array s js) = array_sound s js (items_sound js)
  value_sound (object s ms) = object_sound s ms (members_sound ms)

  items_sound : (js : Items) → ItemsSound js
  items_sound no_items = no_items_sound
  items_sound (item j js) = item_sound j js (value_sound j) (items_sound js)

  members_sound : (ms : Members) → MembersSound ms
  members_sound no_members = none_sound
  members_sound (member s cs j ms) = member_sound s cs j ms (value_sound j) (members_sound ms)

mutual
  value_complete : (j : Json) → Complete j
  value_complete (word s w) = word_complete s w
  value_complete (number s ds) = number_complete s ds
  value_complete (string s cs) = string_complete s cs
  value_complete (array s js) = array_complete s js (items_complete js)
  value_complete (object s ms) = object_complete s ms (members_complete ms)

  items_complete : (js : Items) → ItemsComplete js
  items_complete no_items = no_items_complete
  items_complete (item j js) = item_complete j js (value_complete j) (items_complete js)

  members_complete : (ms : Members) → MembersComplete ms
  members_complete no_members = λ ns all. refl
  members_complete (member s cs j ms) = member_complete s cs j ms (value_complete j) (members_complete ms)

-- the test is true exactly where the two say the same
pub same_law : (t u : Json) → Decides (same t u) (Same t u)
same_law t u = (value_sound t u, value_complete t u)
