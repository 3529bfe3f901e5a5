-- The members of an object by their names, and the values in an array or an object.
use Rattle.std.specs.Prelude.{ℕ, Bool, true, false, List, [], ◌∷◌, bytes_eq}
use Rattle.std.specs.Prelude.{Option, Some, None}
use Rattle.json_text.specs.Json.{Json, word, number, string, array, object, Items, no_items, item, Members, no_members, member}

abbrev pub if_named : Bool → Json → Option Json
if_named true j = Some j
if_named false j = None

abbrev pub or_else : Option Json → Option Json → Option Json
or_else (Some j) other = Some j
or_else None other = other

-- the value of the last member of this name
unfoldable pub named : List ℕ → Members → Option Json
named cs no_members = None
named cs (member s ds j ms) = or_else (named cs ms) (if_named (bytes_eq cs ds) j)

-- the last member of this name, where the value is an object
abbrev pub named_in : List ℕ → Json → Option Json
named_in cs (object s ms) = named cs ms
named_in cs (word s w) = None
named_in cs (number s ds) = None
named_in cs (string s ds) = None
named_in cs (array s js) = None

abbrev pub items_list : Items → List Json
items_list no_items = []
items_list (item j js) = j ∷ items_list js

abbrev pub values_list : Members → List Json
values_list no_members = []
values_list (member s cs j ms) = j ∷ values_list ms

-- an array's items, or the values of an object's members, in order
abbrev pub children : Json → List Json
children (array s js) = items_list js
children (object s ms) = values_list ms
children (word s w) = []
children (number s ds) = []
children (string s cs) = []
