-- Two values that say the same: numbers by their text, strings by their characters, arrays item by item, and objects by name,
-- in any order; of several members of one name the last counts.
use Rattle.std.specs.Prelude.{ℕ, zero, suc, Bool, true, false, ◌&&◌, ◌||◌, List, bytes_eq}
use Rattle.std.specs.Prelude.{Option, Some, None}
use Rattle.std.specs.Option.{is_some}
use Rattle.json_text.specs.declared.kind.Kind.{Kind}
use Rattle.json_text.specs.declared.kind.Kind.TheVariants as kind
use Rattle.json_text.specs.declared.kind.Word.{Word}
use Rattle.json_text.specs.declared.kind.Word.TheVariants as word_of
use Rattle.json_text.specs.Json.{Json, word, number, string, array, object, Items, no_items, item, Members, no_members, member}
use Rattle.json_text.specs.Named.{named}

abbrev pub same_word : Word → Word → Bool
same_word word_of.Null word_of.Null = true
same_word word_of.False word_of.False = true
same_word word_of.True word_of.True = true
same_word _ _ = false

abbrev pub is_word : Word → Json → Bool
is_word w (word s v) = same_word w v
is_word w _ = false

abbrev pub is_number : List ℕ → Json → Bool
is_number ds (number s es) = bytes_eq ds es
is_number ds _ = false

abbrev pub is_string : List ℕ → Json → Bool
is_string cs (string s ds) = bytes_eq cs ds
is_string cs _ = false

-- where it is an array, by its items; where it is an object, by its members
abbrev pub if_array : Json → (Items → Bool) → Bool
if_array (array s js) f = f js
if_array _ f = false

abbrev pub if_object : Json → (Members → Bool) → Bool
if_object (object s ms) f = f ms
if_object _ f = false

abbrev pub if_some : Option Json → (Json → Bool) → Bool
if_some (Some j) f = f j
if_some None f = false

-- whether a member has this name
abbrev pub has_name : List ℕ → Members → Bool
has_name cs ms = is_some (named cs ms)

-- whether each name of the first is one of the second
abbrev pub names_within : Members → Members → Bool
names_within no_members ns = true
names_within (member s cs j ms) ns = has_name cs ns && names_within ms ns

abbrev pub is_empty : Items → Bool
is_empty no_items = true
is_empty (item j js) = false

abbrev pub if_item : Items → (Json → Items → Bool) → Bool
if_item no_items f = false
if_item (item j js) f = f j js

abbrev mutual
  pub same : Json → Json → Bool
  same (word s w) u = is_word w u
  same (number s ds) u = is_number ds u
  same (string s cs) u = is_string cs u
  same (array s js) u = if_array u (λ ks. same_items js ks)
  same (object s ms) u = if_object u (λ ns. same_members ms ns && names_within ns ms)

  pub same_items : Items → Items → Bool
  same_items no_items ks = is_empty ks
  same_items (item j js) ks = if_item ks (λ k rest. same j k && same_items js rest)

  -- each member, unless a later one has its name, says the same as the last one of its name in the second
  pub same_members : Members → Members → Bool
  same_members no_members ns = true
  same_members (member s cs j ms) ns = (has_name cs ms || if_some (named cs ns) (λ k. same j k)) && same_members ms ns

-- what is left of these behind the first n
abbrev pub drop_items : ℕ → Items → Items
drop_items zero js = js
drop_items (suc n) no_items = no_items
drop_items (suc n) (item j js) = drop_items n js

abbrev pub drop_members : ℕ → Members → Members
drop_members zero ms = ms
drop_members (suc n) no_members = no_members
drop_members (suc n) (member s cs j ms) = drop_members n ms

-- two values of these kinds may be the same
abbrev pub same_kind : Kind → Kind → Bool
same_kind kind.Null kind.Null = true
same_kind kind.False kind.False = true
same_kind kind.True kind.True = true
same_kind kind.Number kind.Number = true
same_kind kind.Text kind.Text = true
same_kind kind.Array kind.Array = true
same_kind kind.Object kind.Object = true
same_kind _ _ = false
