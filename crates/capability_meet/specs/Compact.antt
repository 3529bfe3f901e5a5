-- A value's text with no white space between its tokens.
use Rattle.std.specs.Prelude.{ℕ, List, [], ◌∷◌, ◌++◌, ◌==◌, if◌then◌else◌}
use Rattle.json_text.specs.declared.span.Span.{Span}
use Rattle.json_text.specs.Json.{Json, word, number, string, array, object, Items, no_items, item, Members, no_members, member, letters}
use Rattle.json_nodes.specs.Texts.{between}
use Rattle.capability_meet.specs.Parts.{braced, bracketed, own}

-- the bytes of a name with these characters: those at its place, or the characters themselves where it stands nowhere
abbrev pub name_text : List ℕ → Span → List ℕ → List ℕ
name_text bs p cs = if p.to == 0 then 34 ∷ (cs ++ 34 ∷ []) else between p.from p.to bs

-- a value whose strings and names stand in these bytes
abbrev mutual
  pub compact : List ℕ → Json → List ℕ
  compact bs (word s w) = letters w
  compact bs (number s ds) = ds
  compact bs (string s cs) = own bs (string s cs)
  compact bs (array s js) = bracketed (compact_items bs js)
  compact bs (object s ms) = braced (compact_members bs ms)

  pub compact_items : List ℕ → Items → List (List ℕ)
  compact_items bs no_items = []
  compact_items bs (item j js) = compact bs j ∷ compact_items bs js

  pub compact_members : List ℕ → Members → List (List ℕ)
  compact_members bs no_members = []
  compact_members bs (member p cs j ms) = (name_text bs p cs ++ (58 ∷ compact bs j)) ∷ compact_members bs ms
