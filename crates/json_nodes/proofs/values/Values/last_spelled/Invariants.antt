use Rattle.std.proofs.Common.{length}
use Rattle.json_nodes.specs.Values.{doc_of}
use Rattle.json_nodes.proofs.Members.{left}
use Rattle.json_nodes.proofs.Spelling.{Looking}
use Rattle.json_nodes.proofs.values.Values.last_spelled.Given as goal

abbrev pub invariant-loop-next : goal.invariant-loop-next
invariant-loop-next l = Looking l.raw (doc_of l.self) l.fn.from l.next l.found

abbrev pub decreases-loop-next : goal.decreases-loop-next
decreases-loop-next l = left (length l.self.nodes.now) l.next
