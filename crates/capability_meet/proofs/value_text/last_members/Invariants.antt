use Rattle.std.proofs.Common.{length}
use Rattle.json_nodes.proofs.Members.{left}
use Rattle.json_nodes.specs.Values.{doc_of}
use Rattle.capability_meet.proofs.NamedPairs.{PairsWalk}
use Rattle.capability_meet.proofs.value_text.last_members.Given as goal

abbrev pub invariant-loop-next : goal.invariant-loop-next
invariant-loop-next l = PairsWalk (doc_of l.values) l.node l.last.entries l.next

abbrev pub decreases-loop-next : goal.decreases-loop-next
decreases-loop-next l = left (length l.values.nodes.now) l.next
