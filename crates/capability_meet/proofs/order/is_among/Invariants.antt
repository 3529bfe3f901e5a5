use Rattle.std.proofs.Common.{length}
use Rattle.json_nodes.specs.At.{At}
use Rattle.json_nodes.proofs.Members.{left}
use Rattle.capability_meet.specs.Order.{is_among}
use Rattle.json_nodes.specs.Values.{doc_of}
use Rattle.capability_meet.proofs.Walks.{ItemsWalk}
use Rattle.capability_meet.proofs.order.is_among.Given as goal

abbrev pub invariant-loop-next : goal.invariant-loop-next
invariant-loop-next l = ItemsWalk (doc_of l.right) l.other (λ t. At (doc_of l.left) l.node t) is_among is_among l.next

abbrev pub decreases-loop-next : goal.decreases-loop-next
decreases-loop-next l = left (length l.right.nodes.now) l.next
