-- Tables beside the members that they stand for.
use Rattle.std.proofs.Common.{◌≡◌, suc, List, [], ◌∷◌, length, Option, Some, None, IsSome, option_map, String, Global, Less, nat_cmp, string_bytes, refl, ap}
use Rattle.toml.specs.View.{members_view}
use Rattle.toml.proofs.Views.{Entry}
use Rattle.std.specs.Cmp.Lexicographic.{slice_cmp}
use Rattle.std.specs.List.{AllByRecursion}
use Rattle.std.specs.List.Sorted.{IsStrictlySortedBy}
use Rattle.std.specs.Map.{keys_of}
use Rattle.std.specs.String.{string_cmp}
use Rattle.mux_config.specs.Chosen.{names_of, servers_of}
use Rattle.mux_config.specs.Settings.{count}

pub counted : (es : List Entry) → count (members_view es) ≡ length es
counted [] = refl
counted (e ∷ es) = ap suc (counted es)

pub there : {A B : Type 0} (f : A → B) (r : Option A) (b : B) → option_map f r ≡ Some b → IsSome r
there f None b e = absurd (cc)
there f (Some x) b e = refl

-- names that ascend

above : (k : String Global) (es : List Entry) → AllByRecursion (λ y. string_cmp k y ≡ Less) (keys_of es) → AllByRecursion (λ y. slice_cmp nat_cmp (string_bytes k) y ≡ Less) (names_of (servers_of (members_view es)))
above k [] h = tt
above k (e ∷ es) h = (h.0, above k es h.1)

pub ascending : (es : List Entry) → IsStrictlySortedBy string_cmp (keys_of es) → IsStrictlySortedBy (slice_cmp nat_cmp) (names_of (servers_of (members_view es)))
unfolding IsStrictlySortedBy
ascending [] h = tt
ascending (e ∷ es) h = (above e.0 es h.0, ascending es h.1)
