use Rattle.std.proofs.Common.{length, ◌+◌, ◌*◌, ◌-◌}
use Rattle.json_text.specs.declared.span.Span.{Span}
use Rattle.json_text.specs.Json.{object}
use Rattle.json_nodes.specs.At.{At}
use Rattle.json_nodes.proofs.Members.{left}
use Rattle.capability_meet.specs.Order.{members_below}
use Rattle.json_nodes.specs.Values.{doc_of}
use Rattle.capability_meet.proofs.Walks.{MembersWalk}
use Rattle.capability_meet.proofs.order.+below.Given as goal

abbrev pub decreases-values_below : goal.decreases-values_below
decreases-values_below l = 4 * (length l.left.nodes.now - l.node) + 2

abbrev pub decreases-objects_below : goal.decreases-objects_below
decreases-objects_below l = 4 * (length l.left.nodes.now - l.node) + 1

abbrev pub decreases-members_below : goal.decreases-members_below
decreases-members_below l = 4 * (length l.left.now.values.nodes.now - l.left.now.node)

abbrev pub decreases-member_below : goal.decreases-member_below
decreases-member_below l = 4 * (length l.left.now.values.nodes.now - l.member) + 3

abbrev pub invariant-members_below-loop-next : goal.invariant-members_below-loop-next
invariant-members_below-loop-next l = MembersWalk (doc_of l.left.values) l.left.node (λ ns. (r : Span) × At (doc_of l.right.values) l.right.node (object r ns)) (λ ns ms. members_below ms ns) (λ ns ms. members_below ms ns) l.next

abbrev pub decreases-members_below-loop-next : goal.decreases-members_below-loop-next
decreases-members_below-loop-next l = left (length l.left.values.nodes.now) l.next
