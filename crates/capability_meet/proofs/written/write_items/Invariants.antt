use Rattle.std.proofs.Common.{length, ◌++◌, false}
use Rattle.json_text.specs.declared.span.Span.{Span}
use Rattle.json_text.specs.Json.{array}
use Rattle.json_nodes.specs.At.{At}
use Rattle.json_nodes.proofs.Members.{left}
use Rattle.capability_meet.specs.OnePass.{items_met}
use Rattle.capability_meet.specs.Parts.{listed}
use Rattle.json_nodes.specs.Values.{doc_of}
use Rattle.capability_meet.proofs.Walks.{ItemsWalk}
use Rattle.capability_meet.proofs.written.write_items.Given as goal

abbrev pub invariant-loop-next : goal.invariant-loop-next
invariant-loop-next l = ItemsWalk (doc_of l.left) l.node (λ ks. (r : Span) × At (doc_of l.right.values) l.right.node (array r ks)) (λ ks js. l.initial.out.items ++ listed false (items_met (doc_of l.left).bytes js ks)) (λ ks js. l.out.items ++ listed l.started (items_met (doc_of l.left).bytes js ks)) l.next

abbrev pub decreases-loop-next : goal.decreases-loop-next
decreases-loop-next l = left (length l.left.nodes.now) l.next
