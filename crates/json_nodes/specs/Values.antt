-- The values of a text, as the code has them.
use Rattle.std.specs.Prelude.{ℕ, List}
use Rattle.json_text.specs.declared.span.Span.{Span}
use Rattle.json_text.specs.Json.{Json, array, object, Items, Members, span_of}
use Rattle.json_nodes.specs.declared.values.Values.{Values}
use Rattle.json_nodes.specs.At.{At}
use Rattle.json_nodes.specs.Doc.{Doc}
use Rattle.json_nodes.specs.Texts.{between}

abbrev pub doc_of : Values → Doc
doc_of v = record { bytes = v.bytes.now; nodes = v.nodes.now }

-- a value's bytes
abbrev pub bytes_at : Doc → Json → List ℕ
bytes_at doc t = between (span_of t).from (span_of t).to doc.bytes

-- what holds of two values, of two arrays by their items, and of two objects by their members
abbrev pub OfValues : Values → ℕ → Values → ℕ → (Json → Json → Type 0) → Type 0
OfValues left node right other P = (t u : Json) → At (doc_of left) node t → At (doc_of right) other u → P t u

abbrev pub OfArrays : Values → ℕ → Values → ℕ → (Items → Items → Type 0) → Type 0
OfArrays left node right other P = (s r : Span) (js ks : Items) → At (doc_of left) node (array s js) → At (doc_of right) other (array r ks) → P js ks

abbrev pub OfObjects : Values → ℕ → Values → ℕ → (Members → Members → Type 0) → Type 0
OfObjects left node right other P = (s r : Span) (ms ns : Members) → At (doc_of left) node (object s ms) → At (doc_of right) other (object r ns) → P ms ns
