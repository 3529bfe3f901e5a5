-- The order of capabilities (LSP 3.17, ClientCapabilities and ServerCapabilities of the Initialize Request): what is below
-- another offers no more than it. An absent member, null and false offer nothing.
use Rattle.std.specs.Prelude.{Bool, true, false, ◌&&◌, ◌||◌}
use Rattle.std.specs.Prelude.{Option, Some, None}
use Rattle.json_text.specs.declared.kind.Word.TheVariants as word_of
use Rattle.json_text.specs.Json.{Json, word, number, string, array, object, Items, no_items, item, Members, no_members, member}
use Rattle.json_text.specs.Named.{named}
use Rattle.json_nodes.specs.Same.{same, is_word, is_number, is_string, if_array, if_object, if_some, has_name}

-- null and false
abbrev pub is_least : Json → Bool
is_least (word s word_of.Null) = true
is_least (word s word_of.False) = true
is_least (word s word_of.True) = false
is_least (number s ds) = false
is_least (string s cs) = false
is_least (array s js) = false
is_least (object s ms) = false

-- whether some item says the same
abbrev pub is_among : Json → Items → Bool
is_among j no_items = false
is_among j (item k ks) = same j k || is_among j ks

-- whether each item says the same as some item of the other
abbrev pub items_below : Items → Items → Bool
items_below no_items ks = true
items_below (item j js) ks = is_among j ks && items_below js ks

abbrev mutual
  pub below : Json → Json → Bool
  below (word s word_of.Null) u = true
  below (word s word_of.False) u = true
  below (word s word_of.True) u = is_word word_of.True u
  below (number s ds) u = is_number ds u
  below (string s cs) u = is_string cs u
  below (array s js) u = if_array u (λ ks. items_below js ks)
  below (object s ms) u = if_object u (λ ns. members_below ms ns)

  -- each member, unless a later one has its name, is below the last one of its name in the second
  pub members_below : Members → Members → Bool
  members_below no_members ns = true
  members_below (member s cs j ms) ns = (has_name cs ms || (is_least j || if_some (named cs ns) (λ k. below j k))) && members_below ms ns

-- the same where either may be absent
abbrev pub below_given : Option Json → Option Json → Bool
below_given None p = true
below_given (Some j) None = is_least j
below_given (Some j) (Some k) = below j k
