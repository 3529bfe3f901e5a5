-- A value deep inside a tree, by the names and numbers that lead to it, and a tree with another value there.
use Rattle.std.specs.Prelude.{ℕ, zero, suc, List, [], ◌∷◌, bytes_eq, is_some, if◌then◌else◌}
use Rattle.std.specs.Prelude.{Option, Some, None}
use Rattle.std.specs.Option.{option_and_then}
use Rattle.json_text.specs.Json.{Json, word, number, string, array, object, Items, no_items, item, Members, no_members, member}
use Rattle.json_text.specs.Named.{named, named_in}

-- to the value of the last member of this name, or to the item of this number
pub data Step : Type 0 where
  key : List ℕ → Step
  index : ℕ → Step

unfoldable pub item_at : ℕ → Items → Option Json
item_at n no_items = None
item_at zero (item j js) = Some j
item_at (suc n) (item j js) = item_at n js

abbrev pub step_to : Step → Json → Option Json
step_to (key cs) j = named_in cs j
step_to (index n) (array s js) = item_at n js
step_to (index n) (object s ms) = None
step_to (index n) (word s w) = None
step_to (index n) (number s ds) = None
step_to (index n) (string s cs) = None

-- the value at the end of the path
unfoldable pub value_at : List Step → Json → Option Json
value_at [] j = Some j
value_at (s ∷ path) j = option_and_then (λ k. value_at path k) (step_to s j)

-- the last member of this name with another value
unfoldable pub put_named : List ℕ → Json → Members → Members
put_named cs u no_members = no_members
put_named cs u (member s ds j ms) = if is_some (named cs ms) then member s ds j (put_named cs u ms) else member s ds (if bytes_eq cs ds then u else j) ms

unfoldable pub put_item : ℕ → Json → Items → Items
put_item n u no_items = no_items
put_item zero u (item j js) = item u js
put_item (suc n) u (item j js) = item j (put_item n u js)

abbrev pub put_step : Step → Json → Json → Json
put_step (key cs) u (object s ms) = object s (put_named cs u ms)
put_step (key cs) u (array s js) = array s js
put_step (key cs) u (word s w) = word s w
put_step (key cs) u (number s ds) = number s ds
put_step (key cs) u (string s ds) = string s ds
put_step (index n) u (array s js) = array s (put_item n u js)
put_step (index n) u (object s ms) = object s ms
put_step (index n) u (word s w) = word s w
put_step (index n) u (number s ds) = number s ds
put_step (index n) u (string s ds) = string s ds

-- the tree with another value at the end of the path, where it leads to one
unfoldable pub put_at : List Step → Json → Json → Json
put_at [] u j = u
put_at (s ∷ path) u j = elim (step_to s j) [ None ↦ j | Some k ↦ put_step s (put_at path u k) j ]
