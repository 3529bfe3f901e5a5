-- What the reader's answer says of a text.
use Rattle.std.proofs.Common.{◌≡◌, refl, ℕ, ◌<◌, ◌≤◌, List, length, get_or, ap, arith}
use Rattle.std.specs.Prelude.{Result, Ok, Err}
use Rattle.std.proofs.lemmas.Option.{slice_get-get_or}
use Rattle.json_text.specs.declared.span.Span.{Span}
use Rattle.json_text.specs.Json.{Json, IsText, depth, span_of}
use Rattle.json_text.specs.Faults.{IsSyntaxFault, IsDepthFault}
use Rattle.json_nodes.specs.declared.node.Node.{Node}
use Rattle.json_nodes.specs.Nodes.{nodes_of, unnamed}
use Rattle.json_nodes.specs.At.{At, preorder}
use Rattle.json_nodes.specs.Doc.{Doc, Holds}
use Rattle.json_nodes.specs.Texts.{IsSpelledAt}
use Rattle.json_nodes.proofs.Spelled.{span_text}
use Rattle.json_nodes.proofs.Tree.{nodes_length, preorder_length}
use Rattle.json_span.specs.declared.fault.JsonFault.{JsonFault}
use Rattle.json_span.specs.declared.fault.JsonFault.TheVariants.{Syntax, TooDeep, Memory}
use Rattle.json_span.specs.Machine.{Fault, start, read}
use Rattle.json_span.specs.Views.{Fails}
use Rattle.json_span.proofs.Passes.{complete}
use Rattle.json_span.proofs.Sound.{sound}
use Rattle.json_span.proofs.Faults.{syntax_fault, depth_fault}

same_nodes : (ns ms : List Node) (r : Result (List Node) Fault) → r ≡ Ok ns → r ≡ Ok ms → ns ≡ ms
same_nodes ns ms r h k = cc

pub read_holds : (bytes : List ℕ) (ns : List Node) (j : Json) → read 1024 0 bytes start ≡ Ok ns → IsText bytes j → depth j ≤ 1024 → Holds (record { bytes = bytes; nodes = ns }) j
read_holds bytes ns j h text fits = record {
  text = text;
  shallow = fits;
  nodes = same_nodes ns (nodes_of 0 0 unnamed j) (read 1024 0 bytes start) h (complete 1024 bytes j text fits);
}

pub some_holds : (bytes : List ℕ) (ns : List Node) → read 1024 0 bytes start ≡ Ok ns → (j : Json) × Holds (record { bytes = bytes; nodes = ns }) j
some_holds bytes ns h = let found = sound 1024 bytes ns h in (found.0, read_holds bytes ns found.0 h found.1 found.2)

no_fault : (ns : List Node) (f : Fault) (r : Result (List Node) Fault) → r ≡ Ok ns → r ≡ Err f → ⊥
no_fault ns f r h k = cc

pub only_memory : (bytes : List ℕ) (j : Json) (e : JsonFault) → Fails e (read 1024 0 bytes start) → IsText bytes j → depth j ≤ 1024 → e ≡ Memory
only_memory bytes j Memory h text fits = refl
only_memory bytes j (Syntax p) h text fits = absurd (no_fault (nodes_of 0 0 unnamed j) _ (read 1024 0 bytes start) (complete 1024 bytes j text fits) h)
only_memory bytes j (TooDeep p) h text fits = absurd (no_fault (nodes_of 0 0 unnamed j) _ (read 1024 0 bytes start) (complete 1024 bytes j text fits) h)

pub is_syntax_fault : (bytes : List ℕ) (e : JsonFault) (p : ℕ) → Fails e (read 1024 0 bytes start) → e ≡ Syntax p → IsSyntaxFault 1024 bytes p
is_syntax_fault bytes e p h is = syntax_fault 1024 p bytes (rw is at h)

pub is_depth_fault : (bytes : List ℕ) (e : JsonFault) (p : ℕ) → Fails e (read 1024 0 bytes start) → e ≡ TooDeep p → IsDepthFault 1024 bytes p
is_depth_fault bytes e p h is = depth_fault 1024 p bytes (rw is at h)

-- each number below the count of nodes is a value's
pub every_node : (doc : Doc) (j : Json) (k : ℕ) → Holds doc j → k < length doc.nodes → (t : Json) × At doc k t
every_node doc j k h lt =
    let within : k < length (preorder j) = omega (arith, ap length h.nodes, nodes_length j 0 0 unnamed, preorder_length j) in
    (get_or (preorder j) k j, record { tree = j; holds = h; there = slice_get-get_or (preorder j) k j within })

pub span_inside : (doc : Doc) (j : Json) (k : ℕ) (s : Span) → Holds doc j → k < length doc.nodes → ((t : Json) → At doc k t → s ≡ span_of t) → (s.from ≤ s.to) × (s.to ≤ length doc.bytes)
span_inside doc j k s h lt is =
    let found : (t : Json) × At doc k t = every_node doc j k h lt in
    let same : s ≡ span_of found.0 = is found.0 found.1 in
    let spelled : IsSpelledAt doc.bytes found.0 = span_text doc k found.0 found.1 in
    rw same (spelled.rises, spelled.fits)
