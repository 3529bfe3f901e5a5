use Rattle.std.proofs.Common.{length, ◌+◌, ◌*◌, ◌-◌, ◌++◌, false}
use Rattle.json_text.specs.declared.span.Span.{Span}
use Rattle.json_text.specs.Json.{object}
use Rattle.json_nodes.specs.At.{At}
use Rattle.json_nodes.proofs.Members.{left}
use Rattle.capability_meet.specs.OnePass.{pairs_at}
use Rattle.capability_meet.specs.Parts.{listed}
use Rattle.json_nodes.specs.Values.{doc_of}
use Rattle.capability_meet.proofs.Meets.{Beside}
use Rattle.capability_meet.proofs.Walks.{MembersWalk}
use Rattle.capability_meet.proofs.written.+met.Given as goal

abbrev pub decreases-write_met : goal.decreases-write_met
decreases-write_met l = 4 * (length l.left.nodes.now - l.node) + 2

abbrev pub decreases-write_object : goal.decreases-write_object
decreases-write_object l = 4 * (length l.left.nodes.now - l.node) + 1

abbrev pub decreases-write_pairs : goal.decreases-write_pairs
decreases-write_pairs l = 4 * (length l.left.now.values.nodes.now - l.left.now.node)

abbrev pub decreases-write_pair : goal.decreases-write_pair
decreases-write_pair l = 4 * (length l.left.now.values.nodes.now - l.pair) + 3

abbrev pub invariant-write_pairs-loop-next : goal.invariant-write_pairs-loop-next
invariant-write_pairs-loop-next l = MembersWalk (doc_of l.left.values) l.left.node (λ (b : Beside). (r : Span) × At (doc_of l.right.values) l.right.node (object r b.others)) (λ b ms. l.initial.out.items ++ listed false (pairs_at (doc_of l.left.values).bytes l.spot ms b.others ++ b.more)) (λ b ms. l.out.items ++ listed l.started (pairs_at (doc_of l.left.values).bytes l.spot ms b.others ++ b.more)) l.next

abbrev pub decreases-write_pairs-loop-next : goal.decreases-write_pairs-loop-next
decreases-write_pairs-loop-next l = left (length l.left.values.nodes.now) l.next
