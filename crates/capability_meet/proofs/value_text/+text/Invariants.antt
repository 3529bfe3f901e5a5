use Rattle.std.proofs.Common.{List, length, ◌+◌, ◌*◌, ◌-◌, ◌++◌}
use Rattle.json_nodes.proofs.Members.{left}
use Rattle.json_nodes.specs.Values.{doc_of}
use Rattle.capability_meet.specs.NamedValues.{AreBetween, ArePairs}
use Rattle.capability_meet.specs.ValueText.{Pair, items_text, pairs_text}
use Rattle.capability_meet.proofs.NamedPairs.{PairsLeft}
use Rattle.capability_meet.proofs.Walks.{ItemsWalk}
use Rattle.capability_meet.proofs.value_text.+text.Given as goal

abbrev pub decreases-write_text : goal.decreases-write_text
decreases-write_text l = 4 * (length l.values.nodes.now - l.node) + 2

abbrev pub decreases-write_items : goal.decreases-write_items
decreases-write_items l = 4 * (length l.values.nodes.now - l.node)

abbrev pub decreases-write_object : goal.decreases-write_object
decreases-write_object l = 4 * (length l.values.nodes.now - l.node) + 1

abbrev pub decreases-write_pairs : goal.decreases-write_pairs
decreases-write_pairs l = 4 * (length l.values.nodes.now - l.node)

abbrev pub invariant-write_items-loop-next : goal.invariant-write_items-loop-next
invariant-write_items-loop-next l = ItemsWalk (doc_of l.values) l.node (λ (i : Unit {0}). Unit {0}) (λ i js. l.initial.out.items ++ items_text js) (λ i js. l.out.items ++ items_text js) l.next

abbrev pub decreases-write_items-loop-next : goal.decreases-write_items-loop-next
decreases-write_items-loop-next l = left (length l.values.nodes.now) l.next

abbrev pub invariant-write_pairs-loop-name : goal.invariant-write_pairs-loop-name
invariant-write_pairs-loop-name l = AreBetween l.node (length l.values.nodes.now) l.name-iterator × ((ps : List Pair) → ArePairs (doc_of l.values) l.last.entries ps → PairsLeft (doc_of l.values) l.name-iterator l.out.items (l.initial.out.items ++ pairs_text ps))
