-- The text that is declared, as it is written in one pass over the two values. It is the compact text of the declared tree.
use Rattle.std.specs.Prelude.{ℕ, Bool, false, ◌||◌, List, [], ◌∷◌, ◌++◌, bytes_eq, codes, if◌then◌else◌}
use Rattle.std.specs.Prelude.{Option, Some, None}
use Rattle.std.specs.Option.{option_and_then, option_map}
use Rattle.json_text.specs.Json.{Json, word, number, string, array, object, Items, no_items, item, Members, no_members, member}
use Rattle.json_text.specs.Named.{named}
use Rattle.json_text.specs.Tree.{tree_of}
use Rattle.json_nodes.specs.Same.{has_name}
use Rattle.capability_meet.specs.declared.spot.Spot.{Spot}
use Rattle.capability_meet.specs.declared.spot.Spot.TheVariants as spot
use Rattle.capability_meet.specs.Compact.{compact, name_text}
use Rattle.capability_meet.specs.Meet.{if_meets, items_of, meets, named_meets}
use Rattle.capability_meet.specs.Order.{is_among}
use Rattle.capability_meet.specs.Parts.{braced, bracketed}
use Rattle.capability_meet.specs.Shown.{members_of}

-- where the value of a member of this name stands
abbrev pub spot_of : Spot → List ℕ → Spot
spot_of spot.Top name = if bytes_eq (codes "window") name then spot.Window else if bytes_eq (codes "general") name then spot.General else spot.Elsewhere
spot_of spot.Window name = if bytes_eq (codes "showDocument") name then spot.ShowDocument else spot.Elsewhere
spot_of spot.General name = if bytes_eq (codes "staleRequestSupport") name then spot.StaleRequestSupport else spot.Elsewhere
spot_of spot.ShowDocument name = spot.Elsewhere
spot_of spot.StaleRequestSupport name = spot.Elsewhere
spot_of spot.Elsewhere name = spot.Elsewhere

-- members that aren't declared
abbrev pub is_left_out : Spot → List ℕ → Bool
is_left_out spot.Top name = bytes_eq (codes "notebookDocument") name || bytes_eq (codes "offsetEncoding") name
is_left_out spot.Window name = false
is_left_out spot.General name = false
is_left_out spot.ShowDocument name = false
is_left_out spot.StaleRequestSupport name = false
is_left_out spot.Elsewhere name = false

-- what a member is met with at a spot
abbrev pub twin_at : Spot → List ℕ → Json → Members → Members → Option Json
twin_at spot name j ms ns = if has_name name ms || is_left_out spot name then None else if_meets j (named name ns)

abbrev pub put : Option Json → (Json → List ℕ) → List (List ℕ) → List (List ℕ)
put None f xs = xs
put (Some k) f xs = f k ∷ xs

-- the items that say the same as some item of the other
abbrev pub items_met : List ℕ → Items → Items → List (List ℕ)
items_met bs no_items ks = []
items_met bs (item j js) ks = if is_among j ks then compact bs j ∷ items_met bs js ks else items_met bs js ks

-- what the standard requires and isn't there
abbrev pub required : Spot → Members → Members → List (List ℕ)
required spot.ShowDocument ms ns = if named_meets (codes "support") ms ns then [] else (codes "\"support\":false" ∷ [])
required spot.StaleRequestSupport ms ns = if named_meets (codes "cancel") ms ns then [] else (codes "\"cancel\":false" ∷ [])
required spot.Top ms ns = []
required spot.Window ms ns = []
required spot.General ms ns = []
required spot.Elsewhere ms ns = []

abbrev mutual
  pub text_at : List ℕ → Spot → Json → Json → List ℕ
  text_at bs spot (word s w) u = compact bs (word s w)
  text_at bs spot (number s ds) u = compact bs (number s ds)
  text_at bs spot (string s cs) u = compact bs (string s cs)
  text_at bs spot (array s js) u = bracketed (items_met bs js (items_of u))
  text_at bs spot (object s ms) u = braced (pairs_at bs spot ms (members_of u) ++ required spot ms (members_of u))

  pub pairs_at : List ℕ → Spot → Members → Members → List (List ℕ)
  pairs_at bs spot no_members ns = []
  pairs_at bs spot (member p name j ms) ns = put (twin_at spot name j ms ns) (λ k. name_text bs p name ++ (58 ∷ text_at bs (spot_of spot name) j k)) (pairs_at bs spot ms ns)

abbrev pub whole_at : List ℕ → Spot → Json → Json → List ℕ
whole_at bs spot j k = if meets j k then text_at bs spot j k else codes "{}"

abbrev pub met_at : Spot → List ℕ → List ℕ → Option (List ℕ)
met_at spot a b = option_and_then (λ j. option_map (λ k. whole_at a spot j k) (tree_of b)) (tree_of a)
