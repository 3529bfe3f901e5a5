use Rattle.std.proofs.Common.{length}
use Rattle.json_nodes.specs.Values.{doc_of}
use Rattle.json_nodes.specs.Same.{names_within}
use Rattle.json_nodes.proofs.Members.{left}
use Rattle.json_nodes.proofs.Sames.{MembersWalk}
use Rattle.json_nodes.proofs.same.names_within.Given as goal

abbrev pub invariant-loop-next : goal.invariant-loop-next
invariant-loop-next l = MembersWalk (doc_of l.left.values) (doc_of l.right.values) l.left.node l.right.node names_within l.next

abbrev pub decreases-loop-next : goal.decreases-loop-next
decreases-loop-next l = left (length l.left.values.nodes.now) l.next
