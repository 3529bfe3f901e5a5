use Rattle.std.proofs.Common.{length}
use Rattle.rpc_message.specs.Message.{no_name_twice}
use Rattle.json_span.specs.json_nodes.specs.Values.{doc_of}
use Rattle.json_span.specs.json_nodes.proofs.Members.{left}
use Rattle.json_span.specs.json_nodes.proofs.Sames.{MembersWalk}
use Rattle.rpc_message.proofs.names.few_names_once.Given as goal

abbrev pub invariant-loop-next : goal.invariant-loop-next
invariant-loop-next l = MembersWalk (doc_of l.values) (doc_of l.values) l.node l.node (λ ms ns. no_name_twice ms) l.next

abbrev pub decreases-loop-next : goal.decreases-loop-next
decreases-loop-next l = left (length l.values.nodes.now) l.next
