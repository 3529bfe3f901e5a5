-- A value says the same as itself, and what says the same as a third by way of a second.
use Rattle.std.proofs.Common.{◌≡◌, ℕ, suc, true, List, refl, sym, subst}
use Rattle.std.specs.Prelude.{Option, Some, None}
use Rattle.std.proofs.lemmas.Slice.Eq.{bytes_eq-Decides}
use Rattle.json_text.specs.declared.kind.Word.{Word}
use Rattle.json_text.specs.declared.kind.Word.TheVariants as word_of
use Rattle.json_text.specs.declared.span.Span.{Span}
use Rattle.json_text.specs.Json.{Json, word, number, string, array, object, Items, no_items, item, Members}
use Rattle.json_text.specs.Named.{named}
use Rattle.json_nodes.specs.Same.{same, is_number, is_string}
use Rattle.json_nodes.specs.SameTree.{Same, SameItems, SameNamed, words, numbers, strings, arrays, objects, no_more, one_more, neither, both}
use Rattle.json_nodes.proofs.SameLaw.{same_law}
use Rattle.json_nodes.proofs.Induction.{ItemsHave, MembersHave, Steps, every}

abbrev Self : Json → Type 0
Self j = Same j j

items_self : (js : Items) → ItemsHave Self js → SameItems js js
items_self no_items h = no_more
items_self (item j js) h = one_more (h 0 j refl) (items_self js (λ n k e. h (suc n) k e))

named_self : (o : Option Json) → ((j : Json) → o ≡ Some j → Self j) → SameNamed o o
named_self None h = neither
named_self (Some j) h = both (h j refl)

self_steps : Steps Self
self_steps = record {
  words = λ s w. words;
  numbers = λ s ds. numbers;
  strings = λ s cs. strings;
  arrays = λ s js h. arrays (items_self js h);
  objects = λ s ms h. objects (λ cs. named_self (named cs ms) (λ j e. h cs j e));
}

pub same_self : (j : Json) → same j j ≡ true
same_self j = (same_law j j).1 (every Self self_steps j)

-- by way of a second

abbrev Through : Json → Type 0
Through i = (j k : Json) → Same i j → Same j k → Same i k

word_through : (s : Span) (w : Word) (j k : Json) → same (word s w) j ≡ true → same j k ≡ true → same (word s w) k ≡ true
word_through s word_of.Null (word r word_of.Null) k h g = g
word_through s word_of.Null (word r word_of.False) k h g = cc
word_through s word_of.Null (word r word_of.True) k h g = cc
word_through s word_of.False (word r word_of.Null) k h g = cc
word_through s word_of.False (word r word_of.False) k h g = g
word_through s word_of.False (word r word_of.True) k h g = cc
word_through s word_of.True (word r word_of.Null) k h g = cc
word_through s word_of.True (word r word_of.False) k h g = cc
word_through s word_of.True (word r word_of.True) k h g = g
word_through s w (number r ds) k h g = cc
word_through s w (string r ds) k h g = cc
word_through s w (array r ds) k h g = cc
word_through s w (object r ds) k h g = cc

pub number_through : (ds : List ℕ) (j k : Json) → is_number ds j ≡ true → same j k ≡ true → is_number ds k ≡ true
number_through ds (number r es) k h g = subst (λ xs. is_number xs k ≡ true) (sym ((bytes_eq-Decides ds es).0 h)) g
number_through ds (word r w) k h g = cc
number_through ds (string r es) k h g = cc
number_through ds (array r es) k h g = cc
number_through ds (object r es) k h g = cc

pub string_through : (ds : List ℕ) (j k : Json) → is_string ds j ≡ true → same j k ≡ true → is_string ds k ≡ true
string_through ds (string r es) k h g = subst (λ xs. is_string xs k ≡ true) (sym ((bytes_eq-Decides ds es).0 h)) g
string_through ds (word r w) k h g = cc
string_through ds (number r es) k h g = cc
string_through ds (array r es) k h g = cc
string_through ds (object r es) k h g = cc

items_through : (is js ks : Items) → ItemsHave Through is → SameItems is js → SameItems js ks → SameItems is ks
items_through no_items no_items no_items f h g = no_more
items_through no_items no_items (item k ks) f h g = elim g [ ]
items_through no_items (item j js) ks f h g = elim h [ ]
items_through (item i is) no_items ks f h g = elim h [ ]
items_through (item i is) (item j js) no_items f h g = elim g [ ]
items_through (item i is) (item j js) (item k ks) f (one_more h hs) (one_more g gs) = one_more (f 0 i refl j k h g) (items_through is js ks (λ n l e. f (suc n) l e) hs gs)

array_through : (s : Span) (is : Items) → ItemsHave Through is → Through (array s is)
array_through s is f (array r js) (array t ks) (arrays h) (arrays g) = arrays (items_through is js ks f h g)
array_through s is f (array r js) (word t w) h g = elim g [ ]
array_through s is f (array r js) (number t w) h g = elim g [ ]
array_through s is f (array r js) (string t w) h g = elim g [ ]
array_through s is f (array r js) (object t w) h g = elim g [ ]
array_through s is f (word r w) k h g = elim h [ ]
array_through s is f (number r w) k h g = elim h [ ]
array_through s is f (string r w) k h g = elim h [ ]
array_through s is f (object r w) k h g = elim h [ ]

named_through : (o p q : Option Json) → ((i : Json) → o ≡ Some i → Through i) → SameNamed o p → SameNamed p q → SameNamed o q
named_through None None None f h g = neither
named_through None None (Some k) f h g = elim g [ ]
named_through None (Some j) q f h g = elim h [ ]
named_through (Some i) None q f h g = elim h [ ]
named_through (Some i) (Some j) None f h g = elim g [ ]
named_through (Some i) (Some j) (Some k) f (both h) (both g) = both (f i refl j k h g)

object_through : (s : Span) (ms : Members) → MembersHave Through ms → Through (object s ms)
object_through s ms f (object r ns) (object t ls) (objects h) (objects g) = objects (λ cs. named_through (named cs ms) (named cs ns) (named cs ls) (λ i e. f cs i e) (h cs) (g cs))
object_through s ms f (object r ns) (word t w) h g = elim g [ ]
object_through s ms f (object r ns) (number t w) h g = elim g [ ]
object_through s ms f (object r ns) (string t w) h g = elim g [ ]
object_through s ms f (object r ns) (array t w) h g = elim g [ ]
object_through s ms f (word r w) k h g = elim h [ ]
object_through s ms f (number r w) k h g = elim h [ ]
object_through s ms f (string r w) k h g = elim h [ ]
object_through s ms f (array r w) k h g = elim h [ ]

through_steps : Steps Through
through_steps = record {
  words = λ s w j k h g. (same_law (word s w) k).0 (word_through s w j k ((same_law (word s w) j).1 h) ((same_law j k).1 g));
  numbers = λ s ds j k h g. (same_law (number s ds) k).0 (number_through ds j k ((same_law (number s ds) j).1 h) ((same_law j k).1 g));
  strings = λ s cs j k h g. (same_law (string s cs) k).0 (string_through cs j k ((same_law (string s cs) j).1 h) ((same_law j k).1 g));
  arrays = λ s js f. array_through s js f;
  objects = λ s ms f. object_through s ms f;
}

pub same_through : (i j k : Json) → same i j ≡ true → same j k ≡ true → same i k ≡ true
same_through i j k h g = (same_law i k).1 (every Through through_steps i j k ((same_law i j).0 h) ((same_law j k).0 g))
