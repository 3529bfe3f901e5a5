use Rattle.std.proofs.Common.{length}
use Rattle.json_span.specs.json_nodes.proofs.Members.{left}
use Rattle.doc_text.proofs.Items.{ReadSoFar}
use Rattle.doc_text.proofs.read.items.Given as goal

abbrev pub invariant-loop-next : goal.invariant-loop-next
invariant-loop-next l = ReadSoFar l.tape l.fn.first l.next l.changes.items

abbrev pub decreases-loop-next : goal.decreases-loop-next
decreases-loop-next l = left (length l.tape.nodes) l.next
