use Rattle.std.proofs.Common.{length}
use Rattle.json_nodes.proofs.Members.{left}
use Rattle.group_keys.proofs.Gathering.{Gathering}
use Rattle.group_keys.proofs.folders.folders_in.Given as goal

abbrev pub invariant-loop-next : goal.invariant-loop-next
invariant-loop-next l = Gathering l.tape l.fn.list l.folders.items l.next

abbrev pub decreases-loop-next : goal.decreases-loop-next
decreases-loop-next l = left (length l.tape.nodes) l.next
