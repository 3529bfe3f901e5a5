use Rattle.std.proofs.Common.{length}
use Rattle.json_nodes.specs.Index.{number_of}
use Rattle.json_nodes.specs.Values.{doc_of}
use Rattle.json_nodes.proofs.ByName.{Keeping}
use Rattle.json_nodes.proofs.Members.{left}
use Rattle.json_nodes.proofs.index.last_members.Given as goal

abbrev pub invariant-loop-next : goal.invariant-loop-next
invariant-loop-next l = Keeping (doc_of l.values) l.node (λ cs. number_of l.last cs) l.next

abbrev pub decreases-loop-next : goal.decreases-loop-next
decreases-loop-next l = left (length l.values.nodes.now) l.next
