-- The order is reflexive and transitive, and goes by names.
use Rattle.std.proofs.Common.{◌≡◌, ℕ, zero, suc, Bool, true, false, ◌&&◌, ◌||◌, List, refl, sym, ◌∙◌, ap, subst, ◌↔◌}
use Rattle.std.specs.Prelude.{Option, Some, None, bytes_eq}
use Rattle.std.specs.List.{slice_get}
use Rattle.std.specs.Option.{is_some}
use Rattle.std.proofs.lemmas.Slice.Eq.{bytes_eq-Decides}
use Rattle.json_text.specs.declared.kind.Word.{Word}
use Rattle.json_text.specs.declared.kind.Word.TheVariants as word_of
use Rattle.json_text.specs.declared.span.Span.{Span}
use Rattle.json_text.specs.Json.{Json, word, number, string, array, object, Items, no_items, item, Members, no_members, member}
use Rattle.json_text.specs.Named.{items_list, named, if_named, or_else}
use Rattle.json_nodes.specs.Same.{same, has_name, if_some}
use Rattle.json_nodes.proofs.Spelling.{named_member, named_none}
use Rattle.capability_meet.specs.Order.{below, below_given, is_among, is_least, items_below, members_below}
use Rattle.json_nodes.proofs.Induction.{MembersHave, Steps, every}
use Rattle.json_nodes.proofs.SameLaws.{same_self, same_through, number_through, string_through}

pub and_left : (a b : Bool) → (a && b) ≡ true → a ≡ true
and_left true b h = refl
and_left false b h = cc

pub and_right : (a b : Bool) → (a && b) ≡ true → b ≡ true
and_right true b h = h
and_right false b h = cc

pub and_true : (a b : Bool) → a ≡ true → b ≡ true → (a && b) ≡ true
and_true a b h g = rw (h, g) refl

pub or_right : (a b : Bool) → (a || b) ≡ true → a ≡ false → b ≡ true
or_right true b h e = cc
or_right false b h e = h

pub or_true : (a b : Bool) → b ≡ true → (a || b) ≡ true
or_true true b e = refl
or_true false b e = e

-- items among items

pub among_at : (ks : Items) (n : ℕ) (j k : Json) → slice_get (items_list ks) n ≡ Some k → same j k ≡ true → is_among j ks ≡ true
among_at no_items n j k h e = absurd (cc)
among_at (item l ks) zero j k h e = let same_item : l ≡ k = cc in ap (λ v. v || is_among j ks) (ap (λ z. same j z) same_item ∙ e)
among_at (item l ks) (suc n) j k h e = or_true (same j l) (is_among j ks) (among_at ks n j k h e)

pub record Twin (j : Json) (ks : Items) : Type 0 where
  pub place : ℕ
  pub twin : Json
  pub there : slice_get (items_list ks) place ≡ Some twin
  pub says : same j twin ≡ true

twin_here : (j k : Json) (ks : Items) (b : Bool) → same j k ≡ b → (is_among j ks ≡ true → Twin j ks) → is_among j (item k ks) ≡ true → Twin j (item k ks)
twin_here j k ks true e f h = record { place = 0; twin = k; there = refl; says = e }
twin_here j k ks false e f h = let t : Twin j ks = f (or_right (same j k) (is_among j ks) h e) in record { place = suc t.place; twin = t.twin; there = t.there; says = t.says }

pub twin_of : (j : Json) (ks : Items) → is_among j ks ≡ true → Twin j ks
twin_of j no_items h = absurd (cc)
twin_of j (item k ks) h = twin_here j k ks (same j k) refl (λ g. twin_of j ks g) h

abbrev pub AllAmong : Items → Items → Type 0
AllAmong js ks = (n : ℕ) (j : Json) → slice_get (items_list js) n ≡ Some j → is_among j ks ≡ true

pub items_complete : (js ks : Items) → AllAmong js ks → items_below js ks ≡ true
items_complete no_items ks f = refl
items_complete (item j js) ks f = and_true (is_among j ks) (items_below js ks) (f 0 j refl) (items_complete js ks (λ n i e. f (suc n) i e))

pub items_sound : (js ks : Items) → items_below js ks ≡ true → AllAmong js ks
items_sound no_items ks h n j e = absurd (cc)
items_sound (item i js) ks h zero j e = let same_item : i ≡ j = cc in ap (λ z. is_among z ks) (sym same_item) ∙ and_left (is_among i ks) (items_below js ks) h
items_sound (item i js) ks h (suc n) j e = items_sound js ks (and_right (is_among i ks) (items_below js ks) h) n j e

-- members by their names

pub given_is : (j : Json) (o : Option Json) → (is_least j || if_some o (λ k. below j k)) ≡ below_given (Some j) o
given_is (word s word_of.Null) None = refl
given_is (word s word_of.Null) (Some k) = refl
given_is (word s word_of.False) None = refl
given_is (word s word_of.False) (Some k) = refl
given_is (word s word_of.True) None = refl
given_is (word s word_of.True) (Some k) = refl
given_is (number s ds) None = refl
given_is (number s ds) (Some k) = refl
given_is (string s cs) None = refl
given_is (string s cs) (Some k) = refl
given_is (array s js) None = refl
given_is (array s js) (Some k) = refl
given_is (object s ms) None = refl
given_is (object s ms) (Some k) = refl

abbrev pub AllBelow : Members → Members → Type 0
AllBelow ms ns = (cs : List ℕ) (j : Json) → named cs ms ≡ Some j → below_given (Some j) (named cs ns) ≡ true

the_member : (cs ds : List ℕ) (j i : Json) (b : Bool) → bytes_eq cs ds ≡ b → if_named b j ≡ Some i → (cs ≡ ds) × (j ≡ i)
the_member cs ds j i true e h = ((bytes_eq-Decides cs ds).0 e, (let same_value : j ≡ i = cc in same_value))
the_member cs ds j i false e h = absurd (cc)

last_sound : (cs ds : List ℕ) (j i : Json) (ms ns : Members) (o : Option Json) → named cs ms ≡ o → or_else o (if_named (bytes_eq cs ds) j) ≡ Some i → AllBelow ms ns
    → (has_name ds ms || (is_least j || if_some (named ds ns) (λ k. below j k))) ≡ true → below_given (Some i) (named cs ns) ≡ true
last_sound cs ds j i ms ns (Some k) e h g t = g cs i (e ∙ h)
last_sound cs ds j i ms ns None e h g t =
    let p : (cs ≡ ds) × (j ≡ i) = the_member cs ds j i (bytes_eq cs ds) refl h in
    let none : named ds ms ≡ None = ap (λ xs. named xs ms) (sym p.0) ∙ e in
    let here : (is_least j || if_some (named ds ns) (λ k. below j k)) ≡ true = or_right (has_name ds ms) (is_least j || if_some (named ds ns) (λ k. below j k)) t (ap (λ o. is_some o) none) in
    let given : below_given (Some j) (named ds ns) ≡ true = sym (given_is j (named ds ns)) ∙ here in
    subst (λ (k : Json). below_given (Some k) (named cs ns) ≡ true) p.1 (subst (λ (xs : List ℕ). below_given (Some j) (named xs ns) ≡ true) (sym p.0) given)

pub members_sound : (ms ns : Members) → members_below ms ns ≡ true → AllBelow ms ns
members_sound no_members ns t cs j h = let e : None ≡ Some j = sym (named_none cs) ∙ h in absurd (cc)
members_sound (member s ds j ms) ns t cs i h =
    last_sound cs ds j i ms ns (named cs ms) refl (sym (named_member cs ds s j ms) ∙ h) (members_sound ms ns (and_right (has_name ds ms || (is_least j || if_some (named ds ns) (λ k. below j k))) (members_below ms ns) t))
    (and_left (has_name ds ms || (is_least j || if_some (named ds ns) (λ k. below j k))) (members_below ms ns) t)

pub same_bytes : (cs : List ℕ) → bytes_eq cs cs ≡ true
same_bytes cs = (bytes_eq-Decides cs cs).1 refl

first_complete : (s : Span) (ds : List ℕ) (j : Json) (ms ns : Members) (o : Option Json) → named ds ms ≡ o → AllBelow (member s ds j ms) ns → (is_some o || (is_least j || if_some (named ds ns) (λ k. below j k))) ≡ true
first_complete s ds j ms ns (Some i) e g = refl
first_complete s ds j ms ns None e g =
    let mine : named ds (member s ds j ms) ≡ Some j = named_member ds ds s j ms ∙ rw (e, same_bytes ds) refl in
    given_is j (named ds ns) ∙ g ds j mine

pub members_complete : (ms ns : Members) → AllBelow ms ns → members_below ms ns ≡ true
members_complete no_members ns f = refl
members_complete (member s ds j ms) ns f =
    and_true (has_name ds ms || (is_least j || if_some (named ds ns) (λ k. below j k))) (members_below ms ns)
    (first_complete s ds j ms ns (named ds ms) refl f)
    (members_complete ms ns (λ cs i h. f cs i (named_member cs ds s j ms ∙ ap (λ o. or_else o (if_named (bytes_eq cs ds) j)) h)))

by_name : (ms ns : Members) (cs : List ℕ) (o : Option Json) → named cs ms ≡ o → AllBelow ms ns → below_given o (named cs ns) ≡ true
by_name ms ns cs None e f = refl
by_name ms ns cs (Some j) e f = f cs j e

pub members_law : (s r : Span) (ms ns : Members) → (below (object s ms) (object r ns) ≡ true) ↔ ((name : List ℕ) → below_given (named name ms) (named name ns) ≡ true)
members_law s r ms ns = (
  (λ h name. by_name ms ns name (named name ms) refl (members_sound ms ns h)),
  (λ f. members_complete ms ns (λ cs j e. ap (λ o. below_given o (named cs ns)) (sym e) ∙ f cs)),
)

-- reflexive

abbrev Self : Json → Type 0
Self j = below j j ≡ true

word_self : (s : Span) (w : Word) → Self (word s w)
word_self s word_of.Null = refl
word_self s word_of.False = refl
word_self s word_of.True = refl

self_steps : Steps Self
self_steps = record {
  words = word_self;
  numbers = λ s ds. same_bytes ds;
  strings = λ s cs. same_bytes cs;
  arrays = λ s js h. items_complete js js (λ n j e. among_at js n j j e (same_self j));
  objects = λ s ms h. members_complete ms ms (λ cs j e. ap (λ o. below_given (Some j) o) e ∙ h cs j e);
}

pub below_self : (j : Json) → below j j ≡ true
below_self j = every Self self_steps j

-- transitive

pub least_below : (j : Json) (o : Option Json) → is_least j ≡ true → below_given (Some j) o ≡ true
least_below j o e = sym (given_is j o) ∙ ap (λ v. v || if_some o (λ k. below j k)) e

-- what is below a least value is least
least_under : (j k : Json) → below j k ≡ true → is_least k ≡ true → is_least j ≡ true
least_under (word s word_of.Null) k h e = refl
least_under (word s word_of.False) k h e = refl
least_under (word s word_of.True) (word r word_of.Null) h e = cc
least_under (word s word_of.True) (word r word_of.False) h e = cc
least_under (word s word_of.True) (word r word_of.True) h e = cc
least_under (word s word_of.True) (number r ds) h e = cc
least_under (word s word_of.True) (string r ds) h e = cc
least_under (word s word_of.True) (array r ds) h e = cc
least_under (word s word_of.True) (object r ds) h e = cc
least_under (number s ds) (word r w) h e = cc
least_under (number s ds) (number r es) h e = cc
least_under (number s ds) (string r es) h e = cc
least_under (number s ds) (array r es) h e = cc
least_under (number s ds) (object r es) h e = cc
least_under (string s ds) (word r w) h e = cc
least_under (string s ds) (number r es) h e = cc
least_under (string s ds) (string r es) h e = cc
least_under (string s ds) (array r es) h e = cc
least_under (string s ds) (object r es) h e = cc
least_under (array s ds) (word r w) h e = cc
least_under (array s ds) (number r es) h e = cc
least_under (array s ds) (string r es) h e = cc
least_under (array s ds) (array r es) h e = cc
least_under (array s ds) (object r es) h e = cc
least_under (object s ds) (word r w) h e = cc
least_under (object s ds) (number r es) h e = cc
least_under (object s ds) (string r es) h e = cc
least_under (object s ds) (array r es) h e = cc
least_under (object s ds) (object r es) h e = cc

abbrev Through : Json → Type 0
Through i = (j k : Json) → below i j ≡ true → below j k ≡ true → below i k ≡ true

word_through : (s : Span) (w : Word) → Through (word s w)
word_through s word_of.Null j k h g = refl
word_through s word_of.False j k h g = refl
word_through s word_of.True (word r word_of.Null) k h g = cc
word_through s word_of.True (word r word_of.False) k h g = cc
word_through s word_of.True (word r word_of.True) k h g = g
word_through s word_of.True (number r ds) k h g = cc
word_through s word_of.True (string r ds) k h g = cc
word_through s word_of.True (array r ds) k h g = cc
word_through s word_of.True (object r ds) k h g = cc

number_below : (s : Span) (ds : List ℕ) → Through (number s ds)
number_below s ds (number r es) k h g = number_through ds (number r es) k h g
number_below s ds (word r w) k h g = cc
number_below s ds (string r es) k h g = cc
number_below s ds (array r es) k h g = cc
number_below s ds (object r es) k h g = cc

string_below : (s : Span) (ds : List ℕ) → Through (string s ds)
string_below s ds (string r es) k h g = string_through ds (string r es) k h g
string_below s ds (word r w) k h g = cc
string_below s ds (number r es) k h g = cc
string_below s ds (array r es) k h g = cc
string_below s ds (object r es) k h g = cc

among_through : (i : Json) (js ks : Items) → is_among i js ≡ true → items_below js ks ≡ true → is_among i ks ≡ true
among_through i js ks h g =
    let t : Twin i js = twin_of i js h in
    let u : Twin t.twin ks = twin_of t.twin ks (items_sound js ks g t.place t.twin t.there) in
    among_at ks u.place i u.twin u.there (same_through i t.twin u.twin t.says u.says)

array_below : (s : Span) (is : Items) → Through (array s is)
array_below s is (array r js) (array t ks) h g = items_complete is ks (λ n i e. among_through i js ks (items_sound is js h n i e) g)
array_below s is (array r js) (word t w) h g = cc
array_below s is (array r js) (number t w) h g = cc
array_below s is (array r js) (string t w) h g = cc
array_below s is (array r js) (object t w) h g = cc
array_below s is (word r w) k h g = cc
array_below s is (number r w) k h g = cc
array_below s is (string r w) k h g = cc
array_below s is (object r w) k h g = cc

-- by what the second and the third have of a name
given_through : (i : Json) (p q : Option Json) → Through i → below_given (Some i) p ≡ true → below_given p q ≡ true → below_given (Some i) q ≡ true
given_through i None q f h g = least_below i q h
given_through i (Some j) None f h g = least_under i j h g
given_through i (Some j) (Some k) f h g = f j k h g

object_below : (s : Span) (ms : Members) → MembersHave Through ms → Through (object s ms)
object_below s ms f (object r ns) (object t ls) h g = members_complete ms ls (λ cs i e. given_through i (named cs ns) (named cs ls) (f cs i e) (members_sound ms ns h cs i e) (by_name ns ls cs (named cs ns) refl (members_sound ns ls g)))
object_below s ms f (object r ns) (word t w) h g = cc
object_below s ms f (object r ns) (number t w) h g = cc
object_below s ms f (object r ns) (string t w) h g = cc
object_below s ms f (object r ns) (array t w) h g = cc
object_below s ms f (word r w) k h g = cc
object_below s ms f (number r w) k h g = cc
object_below s ms f (string r w) k h g = cc
object_below s ms f (array r w) k h g = cc

through_steps : Steps Through
through_steps = record { words = word_through; numbers = number_below; strings = string_below; arrays = λ s js h. array_below s js; objects = object_below }

pub below_through : (i j k : Json) → below i j ≡ true → below j k ≡ true → below i k ≡ true
below_through i j k h g = every Through through_steps i j k h g
