-- The last members of the names of an object, by the names' characters in UTF-8.
use Rattle.std.specs.Prelude.{◌≡◌, ℕ, ◌+◌, ◌==◌, Bool, false, List, Vec, bytes_eq, encode_utf8_all}
use Rattle.std.specs.Prelude.{Option, Some, None}
use Rattle.std.specs.Global.{Global}
use Rattle.std.specs.Option.{IfSome}
use Rattle.std.specs.Ordering.{nat_cmp}
use Rattle.std.specs.Cmp.Lexicographic.{slice_cmp}
use Rattle.std.specs.BTreeMap.{BTreeMap, get_by}
use Rattle.json_text.specs.declared.span.Span.{Span}
use Rattle.json_text.specs.Json.{object, Members, no_members, member}
use Rattle.json_nodes.specs.At.{At}
use Rattle.json_nodes.specs.Doc.{Doc}
use Rattle.json_nodes.specs.Nodes.{size}
use Rattle.json_nodes.specs.Steps.{some_if}
use Rattle.json_nodes.specs.declared.index.Indexed.{Indexed}
use Rattle.json_nodes.specs.Values.{doc_of}

abbrev pub either : Option ℕ → Option ℕ → Option ℕ
either (Some m) other = Some m
either None other = other

-- the number of the value of the last of these members of this name, where that of the first has number i
abbrev pub last_number : List ℕ → ℕ → Members → Option ℕ
last_number cs i no_members = None
last_number cs i (member s ds j ms) = either (last_number cs (i + size j) ms) (some_if (bytes_eq cs ds) i)

-- the number that is kept under these characters
abbrev pub number_of : BTreeMap (Vec ℕ Global) ℕ → List ℕ → Option ℕ
number_of last cs = get_by (λ name. slice_cmp nat_cmp (encode_utf8_all cs) name.items) last

-- whether the number is this one
abbrev pub is_number : Option ℕ → ℕ → Bool
is_number None m = false
is_number (Some k) m = k == m

-- the numbers that are kept are those of value number k, if that is an object
abbrev pub KeepsLast : BTreeMap (Vec ℕ Global) ℕ → Doc → ℕ → Type 0
KeepsLast last doc k = (s : Span) (ms : Members) (cs : List ℕ) → At doc k (object s ms) → number_of last cs ≡ last_number cs (k + 1) ms

abbrev pub IsIndexed : Indexed → Type 0
IsIndexed o = IfSome o.last (λ last. KeepsLast last (doc_of o.values) o.node)
