-- The items of an array by their texts.
use Rattle.std.specs.Prelude.{◌≡◌, ℕ, Bool, false, ◌||◌, List, Vec, bytes_eq}
use Rattle.std.specs.Global.{Global}
use Rattle.std.specs.Option.{IfSome}
use Rattle.std.specs.Ordering.{nat_cmp}
use Rattle.std.specs.Cmp.Lexicographic.{slice_cmp}
use Rattle.std.specs.BTreeSet.{BTreeSet, contains_by}
use Rattle.json_text.specs.declared.span.Span.{Span}
use Rattle.json_text.specs.Json.{array, Items, no_items, item}
use Rattle.json_nodes.specs.At.{At}
use Rattle.json_nodes.specs.Doc.{Doc}
use Rattle.json_nodes.specs.Values.{doc_of}
use Rattle.capability_meet.specs.declared.indexed_array.IndexedArray.{IndexedArray}
use Rattle.capability_meet.specs.ValueText.{value_text}

-- whether some item has this text
abbrev pub any_text : List ℕ → Items → Bool
any_text text no_items = false
any_text text (item k ks) = bytes_eq text (value_text k) || any_text text ks

abbrev pub has_text : BTreeSet (Vec ℕ Global) → List ℕ → Bool
has_text texts text = contains_by (λ other. slice_cmp nat_cmp text other.items) texts

-- the texts are those of the items of value number k, if that is an array
abbrev pub KeepsTexts : BTreeSet (Vec ℕ Global) → Doc → ℕ → Type 0
KeepsTexts texts doc k = (s : Span) (ks : Items) (text : List ℕ) → At doc k (array s ks) → has_text texts text ≡ any_text text ks

abbrev pub IsIndexedArray : IndexedArray → Type 0
IsIndexedArray l = IfSome l.texts (λ texts. KeepsTexts texts (doc_of l.values) l.node)
