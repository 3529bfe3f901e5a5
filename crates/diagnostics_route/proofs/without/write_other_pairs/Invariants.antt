use Rattle.std.proofs.Common.{length, ◌++◌, false}
use Rattle.std.specs.Prelude.{None}
use Rattle.std.specs.Str.{chars}
use Rattle.json_nodes.specs.Values.{doc_of}
use Rattle.json_nodes.proofs.Members.{left}
use Rattle.capability_meet.specs.Parts.{listed}
use Rattle.capability_meet.specs.Shown.{other_pairs}
use Rattle.capability_meet.proofs.Walks.{MembersWalk}
use Rattle.diagnostics_route.proofs.without.write_other_pairs.Given as goal

abbrev pub invariant-loop-next : goal.invariant-loop-next
invariant-loop-next l = MembersWalk (doc_of l.values) l.node (λ (i : Unit {0}). Unit {0}) (λ i ms. l.initial.out.items ++ listed false (other_pairs (doc_of l.values).bytes (chars l.name) None ms)) (λ i ms. l.out.items ++ listed l.started (other_pairs (doc_of l.values).bytes (chars l.name) None ms)) l.next

abbrev pub decreases-loop-next : goal.decreases-loop-next
decreases-loop-next l = left (length l.values.nodes.now) l.next
