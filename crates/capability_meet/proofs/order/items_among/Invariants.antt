use Rattle.std.proofs.Common.{length}
use Rattle.json_text.specs.declared.span.Span.{Span}
use Rattle.json_text.specs.Json.{array}
use Rattle.json_nodes.specs.At.{At}
use Rattle.json_nodes.proofs.Members.{left}
use Rattle.capability_meet.specs.Order.{items_below}
use Rattle.json_nodes.specs.Values.{doc_of}
use Rattle.capability_meet.proofs.Equals.{SomeItem}
use Rattle.capability_meet.proofs.Walks.{ItemsWalk}
use Rattle.capability_meet.proofs.order.items_among.Given as goal

abbrev pub invariant-loop-next : goal.invariant-loop-next
invariant-loop-next l = ItemsWalk (doc_of l.left) l.node (λ ks. (r : Span) × At (doc_of l.right.values) l.right.node (array r ks)) (λ ks js. items_below js ks) (λ ks js. items_below js ks) l.next × SomeItem (doc_of l.right.values) l.right.node l.beside

abbrev pub decreases-loop-next : goal.decreases-loop-next
decreases-loop-next l = left (length l.left.nodes.now) l.next
