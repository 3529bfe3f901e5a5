use Rattle.std.proofs.Common.{ℕ, List, length, ◌||◌}
use Rattle.json_nodes.proofs.Members.{left}
use Rattle.json_nodes.specs.Values.{doc_of}
use Rattle.capability_meet.specs.IndexedArray.{any_text, has_text}
use Rattle.capability_meet.proofs.Walks.{ItemsWalk}
use Rattle.capability_meet.proofs.indexed_array.item_texts.Given as goal

abbrev pub invariant-loop-next : goal.invariant-loop-next
invariant-loop-next l = ItemsWalk (doc_of l.values) l.node (λ (text : List ℕ). Unit {0}) any_text (λ text ks. has_text l.texts text || any_text text ks) l.next

abbrev pub decreases-loop-next : goal.decreases-loop-next
decreases-loop-next l = left (length l.values.nodes.now) l.next
