use Rattle.std.proofs.Common.{length, ◌+◌, ◌*◌, ◌-◌, ◌++◌, false}
use Rattle.json_nodes.proofs.Members.{left}
use Rattle.capability_meet.specs.Compact.{compact_items, compact_members}
use Rattle.capability_meet.specs.Parts.{listed}
use Rattle.json_nodes.specs.Values.{doc_of}
use Rattle.capability_meet.proofs.Walks.{ItemsWalk, MembersWalk}
use Rattle.capability_meet.proofs.compact.+compact.Given as goal

abbrev pub decreases-write_compact : goal.decreases-write_compact
decreases-write_compact l = 4 * (length l.values.nodes.now - l.node) + 2

abbrev pub decreases-write_array : goal.decreases-write_array
decreases-write_array l = 4 * (length l.values.nodes.now - l.node) + 1

abbrev pub decreases-write_items : goal.decreases-write_items
decreases-write_items l = 4 * (length l.values.nodes.now - l.node)

abbrev pub decreases-write_object : goal.decreases-write_object
decreases-write_object l = 4 * (length l.values.nodes.now - l.node) + 1

abbrev pub decreases-write_members : goal.decreases-write_members
decreases-write_members l = 4 * (length l.values.nodes.now - l.node)

abbrev pub invariant-write_items-loop-next : goal.invariant-write_items-loop-next
invariant-write_items-loop-next l = ItemsWalk (doc_of l.values) l.node (λ (i : Unit {0}). Unit {0}) (λ i js. l.initial.out.items ++ listed false (compact_items (doc_of l.values).bytes js)) (λ i js. l.out.items ++ listed l.started (compact_items (doc_of l.values).bytes js)) l.next

abbrev pub decreases-write_items-loop-next : goal.decreases-write_items-loop-next
decreases-write_items-loop-next l = left (length l.values.nodes.now) l.next

abbrev pub invariant-write_members-loop-next : goal.invariant-write_members-loop-next
invariant-write_members-loop-next l = MembersWalk (doc_of l.values) l.node (λ (i : Unit {0}). Unit {0}) (λ i ms. l.initial.out.items ++ listed false (compact_members (doc_of l.values).bytes ms)) (λ i ms. l.out.items ++ listed l.started (compact_members (doc_of l.values).bytes ms)) l.next

abbrev pub decreases-write_members-loop-next : goal.decreases-write_members-loop-next
decreases-write_members-loop-next l = left (length l.values.nodes.now) l.next
