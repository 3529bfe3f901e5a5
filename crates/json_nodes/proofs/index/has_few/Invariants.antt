use Rattle.std.proofs.Common.{length}
use Rattle.json_nodes.proofs.Members.{Inside}
use Rattle.json_nodes.proofs.index.has_few.Given as goal

abbrev pub invariant-loop : goal.invariant-loop
invariant-loop l = Inside (length l.values.nodes.now) l.next
