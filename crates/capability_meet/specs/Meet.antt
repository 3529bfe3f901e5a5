-- What two values have in common at all (LSP 3.17, ClientCapabilities and ServerCapabilities of the Initialize Request).
use Rattle.std.specs.Prelude.{ℕ, Bool, true, false, List, if◌then◌else◌}
use Rattle.std.specs.Prelude.{Option, Some, None}
use Rattle.json_text.specs.declared.kind.Word.TheVariants as word_of
use Rattle.json_text.specs.Json.{Json, word, number, string, array, object, Items, no_items, Members}
use Rattle.json_text.specs.Named.{named}
use Rattle.json_nodes.specs.Same.{has_name, if_array, if_object, if_some, is_number, is_string, is_word}

-- whether two values have more in common than the least value
abbrev pub meets : Json → Json → Bool
meets (word s word_of.Null) u = false
meets (word s word_of.False) u = false
meets (word s word_of.True) u = is_word word_of.True u
meets (number s ds) u = is_number ds u
meets (string s cs) u = is_string cs u
meets (array s js) u = if_array u (λ ks. true)
meets (object s ms) u = if_object u (λ ns. true)

abbrev pub items_of : Json → Items
items_of (array s js) = js
items_of (word s w) = no_items
items_of (number s ds) = no_items
items_of (string s cs) = no_items
items_of (object s ms) = no_items

abbrev pub if_meets : Json → Option Json → Option Json
if_meets j None = None
if_meets j (Some k) = if meets j k then Some k else None

-- what a member is met with: none where a later one has its name, or the two have nothing in common
abbrev pub twin : List ℕ → Json → Members → Members → Option Json
twin name j ms ns = if has_name name ms then None else if_meets j (named name ns)

-- whether the two have something in common under this name
abbrev pub named_meets : List ℕ → Members → Members → Bool
named_meets name ms ns = if_some (named name ms) (λ j. if_some (named name ns) (λ k. meets j k))
