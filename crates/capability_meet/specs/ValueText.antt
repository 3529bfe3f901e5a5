-- A text of each value, such that two values say the same just where their texts are equal.
use Rattle.std.specs.Prelude.{ℕ, List, [], ◌∷◌, ◌++◌, encode_utf8_all}
use Rattle.std.specs.declared.cmp.Ordering.{Ordering}
use Rattle.std.specs.Ordering.{nat_cmp}
use Rattle.std.specs.Cmp.Lexicographic.{slice_cmp}
use Rattle.std.specs.FinMap.Entries as map
use Rattle.json_text.specs.declared.kind.Word.{Word}
use Rattle.json_text.specs.declared.kind.Word.TheVariants as word_of
use Rattle.json_text.specs.Json.{Json, word, number, string, array, object, Items, no_items, item, Members, no_members, member}

-- a name's characters and a value's text
abbrev pub Pair : Type 0
Pair = List ℕ × List ℕ

-- the order of names by their texts in UTF-8
abbrev pub by_name : List ℕ → List ℕ → Ordering
by_name cs ds = slice_cmp nat_cmp (encode_utf8_all cs) (encode_utf8_all ds)

abbrev pub word_byte : Word → ℕ
word_byte word_of.Null = 110
word_byte word_of.False = 102
word_byte word_of.True = 116

-- bytes, a 1 in front of each, and a 0 behind all
abbrev pub marked : List ℕ → List ℕ
marked [] = 0 ∷ []
marked (b ∷ bs) = 1 ∷ b ∷ marked bs

-- the same of pairs
abbrev pub pairs_text : List Pair → List ℕ
pairs_text [] = 0 ∷ []
pairs_text (p ∷ ps) = 1 ∷ (marked (encode_utf8_all p.0) ++ (p.1 ++ pairs_text ps))

abbrev mutual
  -- a byte for the kind of a value, and then what it says; of several members of one name the last counts
  pub value_text : Json → List ℕ
  value_text (word s w) = word_byte w ∷ []
  value_text (number s ds) = 48 ∷ marked ds
  value_text (string s cs) = 34 ∷ marked (encode_utf8_all cs)
  value_text (array s js) = 91 ∷ items_text js
  value_text (object s ms) = 123 ∷ pairs_text (pairs_with [] ms)

  -- items, a 1 in front of each, and a 0 behind all
  pub items_text : Items → List ℕ
  items_text no_items = 0 ∷ []
  items_text (item j js) = 1 ∷ (value_text j ++ items_text js)

  -- pairs in the order of their names, with those of members put among them
  pub pairs_with : List Pair → Members → List Pair
  pairs_with ps no_members = ps
  pairs_with ps (member s cs j ms) = pairs_with (map.put by_name cs (value_text j) ps) ms
