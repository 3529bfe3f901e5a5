-- What says the same is alike in the order.
use Rattle.std.proofs.Common.{◌≡◌, ℕ, zero, suc, true, List, refl, sym, subst}
use Rattle.std.specs.Prelude.{Option, Some, None}
use Rattle.std.specs.List.{slice_get}
use Rattle.json_text.specs.Bare.{bare}
use Rattle.json_text.specs.declared.kind.Word.{Word}
use Rattle.json_text.specs.declared.kind.Word.TheVariants as word_of
use Rattle.json_text.specs.declared.span.Span.{Span}
use Rattle.json_text.specs.Json.{Json, word, number, string, array, object, Items, no_items, item, Members}
use Rattle.json_text.specs.Named.{items_list, named}
use Rattle.json_nodes.specs.Same.{same}
use Rattle.json_nodes.specs.SameTree.{Same, SameItems, SameNamed, numbers, strings, arrays, objects, one_more, both}
use Rattle.json_nodes.proofs.SameLaw.{same_law}
use Rattle.capability_meet.specs.Order.{below, below_given}
use Rattle.capability_meet.proofs.BelowLaws.{among_at, below_self, below_through, items_complete, members_complete, same_bytes}
use Rattle.json_nodes.proofs.Induction.{MembersHave, Steps, every}
use Rattle.json_nodes.proofs.SameBytes.{same_bares}

-- what says the same is below

abbrev Under : Json → Type 0
Under j = (k : Json) → Same j k → below j k ≡ true

word_under : (s : Span) (w : Word) → Under (word s w)
word_under s word_of.Null k h = refl
word_under s word_of.False k h = refl
word_under s word_of.True (word r word_of.True) h = refl
word_under s word_of.True (word r word_of.Null) h = elim h [ ]
word_under s word_of.True (word r word_of.False) h = elim h [ ]
word_under s word_of.True (number r ds) h = elim h [ ]
word_under s word_of.True (string r ds) h = elim h [ ]
word_under s word_of.True (array r ds) h = elim h [ ]
word_under s word_of.True (object r ds) h = elim h [ ]

number_under : (s : Span) (ds : List ℕ) → Under (number s ds)
number_under s ds (number r es) numbers = same_bytes ds
number_under s ds (word r es) h = elim h [ ]
number_under s ds (string r es) h = elim h [ ]
number_under s ds (array r es) h = elim h [ ]
number_under s ds (object r es) h = elim h [ ]

string_under : (s : Span) (ds : List ℕ) → Under (string s ds)
string_under s ds (string r es) strings = same_bytes ds
string_under s ds (word r es) h = elim h [ ]
string_under s ds (number r es) h = elim h [ ]
string_under s ds (array r es) h = elim h [ ]
string_under s ds (object r es) h = elim h [ ]

items_under : (js ks : Items) → SameItems js ks → (n : ℕ) (j : Json) → slice_get (items_list js) n ≡ Some j → (k : Json) × (slice_get (items_list ks) n ≡ Some k) × Same j k
items_under no_items ks h n j e = absurd (cc)
items_under (item i js) no_items h n j e = elim h [ ]
items_under (item i js) (item k ks) (one_more h hs) zero j e = let same_item : i ≡ j = cc in (k, refl, subst (λ (z : Json). Same z k) same_item h)
items_under (item i js) (item k ks) (one_more h hs) (suc n) j e = items_under js ks hs n j e

array_under : (s : Span) (js : Items) → Under (array s js)
array_under s js (array r ks) (arrays h) = items_complete js ks (λ n j e. let t : (k : Json) × (slice_get (items_list ks) n ≡ Some k) × Same j k = items_under js ks h n j e in among_at ks n j t.0 t.1 ((same_law j t.0).1 t.2))
array_under s js (word r es) h = elim h [ ]
array_under s js (number r es) h = elim h [ ]
array_under s js (string r es) h = elim h [ ]
array_under s js (object r es) h = elim h [ ]

given_under : (i : Json) (o p : Option Json) → o ≡ Some i → Under i → SameNamed o p → below_given (Some i) p ≡ true
given_under i None p e f h = absurd (cc)
given_under i (Some j) None e f h = elim h [ ]
given_under i (Some j) (Some k) e f (both h) = let is : j ≡ i = cc in f k (subst (λ (z : Json). Same z k) is h)

object_under : (s : Span) (ms : Members) → MembersHave Under ms → Under (object s ms)
object_under s ms f (object r ns) (objects h) = members_complete ms ns (λ cs i e. given_under i (named cs ms) (named cs ns) e (f cs i e) (h cs))
object_under s ms f (word r es) h = elim h [ ]
object_under s ms f (number r es) h = elim h [ ]
object_under s ms f (string r es) h = elim h [ ]
object_under s ms f (array r es) h = elim h [ ]

under_steps : Steps Under
under_steps = record { words = word_under; numbers = number_under; strings = string_under; arrays = λ s js f. array_under s js; objects = λ s ms f. object_under s ms f }

pub same_below : (j k : Json) → same j k ≡ true → below j k ≡ true
same_below j k h = every Under under_steps j k ((same_law j k).0 h)

-- each below the other

pub record Alike (j k : Json) : Type 0 where
  pub down : below j k ≡ true
  pub up : below k j ≡ true

pub alike_bares : (j k : Json) → bare j ≡ bare k → Alike j k
alike_bares j k e = record { down = same_below j k (same_bares j k e); up = same_below k j (same_bares k j (sym e)) }

pub alike_self : (j : Json) → Alike j j
alike_self j = record { down = below_self j; up = below_self j }

pub alike_through : (i j k : Json) → Alike i j → Alike j k → Alike i k
alike_through i j k h g = record { down = below_through i j k h.down g.down; up = below_through k j i g.up h.up }
