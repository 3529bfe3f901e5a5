use Rattle.std.proofs.Common.{length}
use Rattle.json_span.specs.json_nodes.proofs.Members.{Inside}
use Rattle.rpc_message.proofs.names.has_few.Given as goal

abbrev pub invariant-loop : goal.invariant-loop
invariant-loop l = Inside (length l.values.nodes.now) l.next
