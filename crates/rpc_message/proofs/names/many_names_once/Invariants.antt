use Rattle.std.proofs.Common.{length}
use Rattle.json_span.specs.json_nodes.specs.Values.{doc_of}
use Rattle.json_span.specs.json_nodes.proofs.Members.{left}
use Rattle.rpc_message.specs.Names.{has_name}
use Rattle.rpc_message.proofs.NamesMet.{Met}
use Rattle.rpc_message.proofs.names.many_names_once.Given as goal

abbrev pub invariant-loop-next : goal.invariant-loop-next
invariant-loop-next l = Met (doc_of l.values) l.node (λ cs. has_name l.names cs) l.next

abbrev pub decreases-loop-next : goal.decreases-loop-next
decreases-loop-next l = left (length l.values.nodes.now) l.next
