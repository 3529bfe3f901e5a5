-- What says the same as a value is said by it.
use Rattle.std.proofs.Common.{◌≡◌, ℕ, suc, true, List, refl}
use Rattle.std.specs.Prelude.{Option, Some, None}
use Rattle.json_text.specs.declared.kind.Word.{Word}
use Rattle.json_text.specs.declared.span.Span.{Span}
use Rattle.json_text.specs.Json.{Json, word, number, string, array, object, Items, no_items, item, Members}
use Rattle.json_text.specs.Named.{named}
use Rattle.json_nodes.specs.Same.{same}
use Rattle.json_nodes.specs.SameTree.{Same, SameItems, SameNamed, words, numbers, strings, arrays, objects, no_more, one_more, neither, both}
use Rattle.json_nodes.proofs.SameLaw.{same_law}
use Rattle.json_nodes.proofs.Induction.{ItemsHave, MembersHave, Steps, every}

abbrev Turned : Json → Type 0
Turned i = (j : Json) → Same i j → Same j i

word_turned : (s : Span) (w : Word) → Turned (word s w)
word_turned s w (word r v) words = words
word_turned s w (number r ds) h = elim h [ ]
word_turned s w (string r ds) h = elim h [ ]
word_turned s w (array r ds) h = elim h [ ]
word_turned s w (object r ds) h = elim h [ ]

number_turned : (s : Span) (ds : List ℕ) → Turned (number s ds)
number_turned s ds (number r es) numbers = numbers
number_turned s ds (word r es) h = elim h [ ]
number_turned s ds (string r es) h = elim h [ ]
number_turned s ds (array r es) h = elim h [ ]
number_turned s ds (object r es) h = elim h [ ]

string_turned : (s : Span) (ds : List ℕ) → Turned (string s ds)
string_turned s ds (string r es) strings = strings
string_turned s ds (word r es) h = elim h [ ]
string_turned s ds (number r es) h = elim h [ ]
string_turned s ds (array r es) h = elim h [ ]
string_turned s ds (object r es) h = elim h [ ]

items_turned : (is js : Items) → ItemsHave Turned is → SameItems is js → SameItems js is
items_turned no_items no_items f h = no_more
items_turned no_items (item j js) f h = elim h [ ]
items_turned (item i is) no_items f h = elim h [ ]
items_turned (item i is) (item j js) f (one_more h hs) = one_more (f 0 i refl j h) (items_turned is js (λ n l e. f (suc n) l e) hs)

array_turned : (s : Span) (is : Items) → ItemsHave Turned is → Turned (array s is)
array_turned s is f (array r js) (arrays h) = arrays (items_turned is js f h)
array_turned s is f (word r w) h = elim h [ ]
array_turned s is f (number r w) h = elim h [ ]
array_turned s is f (string r w) h = elim h [ ]
array_turned s is f (object r w) h = elim h [ ]

named_turned : (o p : Option Json) → ((i : Json) → o ≡ Some i → Turned i) → SameNamed o p → SameNamed p o
named_turned None None f h = neither
named_turned None (Some j) f h = elim h [ ]
named_turned (Some i) None f h = elim h [ ]
named_turned (Some i) (Some j) f (both h) = both (f i refl j h)

object_turned : (s : Span) (ms : Members) → MembersHave Turned ms → Turned (object s ms)
object_turned s ms f (object r ns) (objects h) = objects (λ cs. named_turned (named cs ms) (named cs ns) (λ i e. f cs i e) (h cs))
object_turned s ms f (word r w) h = elim h [ ]
object_turned s ms f (number r w) h = elim h [ ]
object_turned s ms f (string r w) h = elim h [ ]
object_turned s ms f (array r w) h = elim h [ ]

turned_steps : Steps Turned
turned_steps = record { words = word_turned; numbers = number_turned; strings = string_turned; arrays = λ s js f. array_turned s js f; objects = λ s ms f. object_turned s ms f }

pub same_turned : (i j : Json) → same i j ≡ true → same j i ≡ true
same_turned i j h = (same_law j i).1 (every Turned turned_steps i j ((same_law i j).0 h))
