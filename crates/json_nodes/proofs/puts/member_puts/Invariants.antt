use Rattle.std.proofs.Common.{length}
use Rattle.json_nodes.specs.Values.{doc_of}
use Rattle.json_nodes.specs.Puts.{text_for}
use Rattle.json_nodes.proofs.Members.{left}
use Rattle.json_nodes.proofs.Putting.{Putting}
use Rattle.json_nodes.proofs.puts.member_puts.Given as goal

abbrev pub invariant-loop-next : goal.invariant-loop-next
invariant-loop-next l = Putting (text_for l.puts) (doc_of l.values) l.node l.next l.changes.items

abbrev pub decreases-loop-next : goal.decreases-loop-next
decreases-loop-next l = left (length l.values.nodes.now) l.next
