use Rattle.std.proofs.Common.{length, ◌+◌, ◌*◌, ◌-◌}
use Rattle.json_nodes.specs.Values.{doc_of}
use Rattle.json_nodes.specs.Same.{same_members}
use Rattle.json_nodes.proofs.Members.{left}
use Rattle.json_nodes.proofs.Sames.{Comparing, MembersWalk}
use Rattle.json_nodes.proofs.same.+same.Given as goal

abbrev pub decreases-same_values : goal.decreases-same_values
decreases-same_values l = 4 * (length l.left.nodes.now - l.node) + 2

abbrev pub decreases-same_objects : goal.decreases-same_objects
decreases-same_objects l = 4 * (length l.left.nodes.now - l.node) + 1

abbrev pub decreases-same_items : goal.decreases-same_items
decreases-same_items l = 4 * (length l.left.nodes.now - l.node)

abbrev pub decreases-same_members : goal.decreases-same_members
decreases-same_members l = 4 * (length l.left.now.values.nodes.now - l.left.now.node)

abbrev pub decreases-same_member : goal.decreases-same_member
decreases-same_member l = 4 * (length l.left.now.values.nodes.now - l.member) + 3

abbrev pub invariant-same_items-loop-next : goal.invariant-same_items-loop-next
invariant-same_items-loop-next l = Comparing (doc_of l.left) (doc_of l.right) l.node l.other l.next l.beside

abbrev pub decreases-same_items-loop-next : goal.decreases-same_items-loop-next
decreases-same_items-loop-next l = left (length l.left.nodes.now) l.next

abbrev pub invariant-same_members-loop-next : goal.invariant-same_members-loop-next
invariant-same_members-loop-next l = MembersWalk (doc_of l.left.values) (doc_of l.right.values) l.left.node l.right.node same_members l.next

abbrev pub decreases-same_members-loop-next : goal.decreases-same_members-loop-next
decreases-same_members-loop-next l = left (length l.left.values.nodes.now) l.next
