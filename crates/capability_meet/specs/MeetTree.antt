-- What two capabilities have in common (LSP 3.17, ClientCapabilities and ServerCapabilities of the Initialize Request): in the
-- order of the first, with its places, and as text with its bytes.
use Rattle.std.specs.Prelude.{◌≡◌, ℕ, List, codes, if◌then◌else◌}
use Rattle.std.specs.Prelude.{Option, Some, None}
use Rattle.std.specs.Option.{option_and_then, option_map}
use Rattle.json_text.specs.declared.span.Span.{Span}
use Rattle.json_text.specs.Json.{Json, word, number, string, array, object, Items, no_items, item, Members, no_members, member}
use Rattle.json_text.specs.Bare.{bare}
use Rattle.json_text.specs.Tree.{tree_of}
use Rattle.capability_meet.specs.Compact.{compact}
use Rattle.capability_meet.specs.Meet.{items_of, meets, twin}
use Rattle.capability_meet.specs.Order.{is_among}
use Rattle.capability_meet.specs.Shown.{members_of}

-- the items that say the same as some item of the other
abbrev pub common_items : Items → Items → Items
common_items no_items ks = no_items
common_items (item j js) ks = if is_among j ks then item j (common_items js ks) else common_items js ks

abbrev pub put_member : Span → List ℕ → Option Json → Members → Members
put_member p name None ms = ms
put_member p name (Some j) ms = member p name j ms

abbrev mutual
  pub meet_tree : Json → Json → Json
  meet_tree (word s w) u = word s w
  meet_tree (number s ds) u = number s ds
  meet_tree (string s cs) u = string s cs
  meet_tree (array s js) u = array s (common_items js (items_of u))
  meet_tree (object s ms) u = object s (common_members ms (members_of u))

  -- each member that has a twin in the other, with what the two have in common
  pub common_members : Members → Members → Members
  common_members no_members ns = no_members
  common_members (member p name j ms) ns = put_member p name (option_map (λ k. meet_tree j k) (twin name j ms ns)) (common_members ms ns)

-- a tree of the two, written with the bytes of the first; where they have nothing in common, an object with no members
abbrev pub whole_text : (Json → Json → Json) → List ℕ → Json → Json → List ℕ
whole_text tree bs j k = if meets j k then compact bs (tree j k) else codes "{}"

-- of two texts
abbrev pub met_text : (Json → Json → Json) → List ℕ → List ℕ → Option (List ℕ)
met_text tree a b = option_and_then (λ j. option_map (λ k. whole_text tree a j k) (tree_of b)) (tree_of a)

abbrev pub meet_of : List ℕ → List ℕ → Option (List ℕ)
meet_of a b = met_text (λ j k. meet_tree j k) a b

-- the bytes are a text that says this tree, wherever its values stand
abbrev pub SaysTree : List ℕ → Json → Type 0
SaysTree text j = (t : Json) × (tree_of text ≡ Some t) × (bare t ≡ bare j)
