-- Values compared, worked out by the checker.
use Rattle.std.proofs.Common.{◌≡◌, true, false, refl}
use Rattle.std.specs.Prelude.{codes}
use Rattle.json_text.specs.Bare.{nowhere}
use Rattle.json_text.specs.Json.{Json, number, array, object, no_items, item, no_members, member}
use Rattle.json_text.specs.Named.{named}
use Rattle.json_nodes.specs.Same.{same}

abbrev one : Json
one = number nowhere (codes "1")

abbrev two : Json
two = number nowhere (codes "2")

abbrev two_point : Json
two_point = number nowhere (codes "2.0")

number_texts_count : same two two_point ≡ false
number_texts_count = refl

in_any_order : same (object nowhere (member nowhere (codes "a") one (member nowhere (codes "b") two no_members))) (object nowhere (member nowhere (codes "b") two (member nowhere (codes "a") one no_members))) ≡ true
unfolding named
in_any_order = refl

last_counts : same (object nowhere (member nowhere (codes "a") one (member nowhere (codes "a") two no_members))) (object nowhere (member nowhere (codes "a") two no_members)) ≡ true
unfolding named
last_counts = refl

first_does_not : same (object nowhere (member nowhere (codes "a") one no_members)) (object nowhere (member nowhere (codes "a") one (member nowhere (codes "a") two no_members))) ≡ false
unfolding named
first_does_not = refl

one_name_more : same (object nowhere (member nowhere (codes "a") one no_members)) (object nowhere (member nowhere (codes "a") one (member nowhere (codes "b") two no_members))) ≡ false
unfolding named
one_name_more = refl

items_in_order : same (array nowhere (item one (item two no_items))) (array nowhere (item two (item one no_items))) ≡ false
items_in_order = refl
