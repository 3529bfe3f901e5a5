-- A tree without its places: what a text says, and not where.
use Rattle.json_text.specs.declared.span.Span.{Span}
use Rattle.json_text.specs.Json.{Json, word, number, string, array, object, Items, no_items, item, Members, no_members, member}

abbrev pub nowhere : Span
nowhere = record { from = 0; to = 0 }

-- two trees say the same, to the order of the members, where these are equal
abbrev mutual
  pub bare : Json → Json
  bare (word s w) = word nowhere w
  bare (number s ds) = number nowhere ds
  bare (string s cs) = string nowhere cs
  bare (array s js) = array nowhere (bare_items js)
  bare (object s ms) = object nowhere (bare_members ms)

  pub bare_items : Items → Items
  bare_items no_items = no_items
  bare_items (item j js) = item (bare j) (bare_items js)

  pub bare_members : Members → Members
  bare_members no_members = no_members
  bare_members (member s cs j ms) = member nowhere cs (bare j) (bare_members ms)
