-- Readings worked out by the checker.
use Rattle.std.proofs.Common.{◌≡◌, [], ◌∷◌, refl}
use Rattle.std.specs.Prelude.{Some, None, codes}
use Rattle.json_text.specs.Computes.{computes}
use Rattle.json_text.specs.Json.{number, string, array, object, no_items, item, no_members, member}
use Rattle.json_text.specs.Tree.{tree_of}

number_read : tree_of (codes " -1.50e+7 ") ≡ Some (number (record { from = 1; to = 9 }) (codes "-1.50e+7"))
unfolding computes
number_read = refl

leading_zero : tree_of (codes "01") ≡ None
unfolding computes
leading_zero = refl

member_read : tree_of (codes "{\"a\" : [1,\"b\"]}") ≡ Some (object (record { from = 0; to = 15 }) (member (record { from = 1; to = 4 }) (codes "a") (array (record { from = 7; to = 14 }) (item (number (record { from = 8; to = 9 }) (codes "1")) (item (string (record { from = 10; to = 13 }) (codes "b")) no_items))) no_members))
unfolding computes
member_read = refl

lone_surrogate : tree_of (34 ∷ 92 ∷ 117 ∷ 100 ∷ 56 ∷ 48 ∷ 48 ∷ 92 ∷ 110 ∷ 195 ∷ 169 ∷ 34 ∷ []) ≡ Some (string (record { from = 0; to = 12 }) (0xFFFD ∷ 10 ∷ 233 ∷ []))
unfolding computes
lone_surrogate = refl
