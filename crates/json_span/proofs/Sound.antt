-- What the machine reads is a JSON text.
use Rattle.std.proofs.Common.{◌≡◌, ℕ, ◌≤◌, List}
use Rattle.std.specs.Prelude.{Ok}
use Rattle.json_nodes.specs.declared.node.Node.{Node}
use Rattle.json_text.specs.Json.{Json, IsText, depth}
use Rattle.json_span.specs.Machine.{start, read}
use Rattle.json_span.proofs.ShapeOf.{read_accepts}
use Rattle.json_span.proofs.FoundTexts.{accepted}

pub sound : (d : ℕ) (bytes : List ℕ) (r : List Node) → read d 0 bytes start ≡ Ok r → (j : Json) × IsText bytes j × (depth j ≤ d)
sound d bytes r h = accepted d bytes (read_accepts d 0 bytes start r h)
