use Rattle.std.proofs.Common.{length}
use Rattle.mux_members.specs.json_nodes.proofs.Members.{left}
use Rattle.registrations.proofs.Gathering.{Gathering}
use Rattle.registrations.proofs.items.registrations_in.Given as goal

abbrev pub invariant-loop-next : goal.invariant-loop-next
invariant-loop-next l = Gathering l.tape l.fn.list l.items.items l.next

abbrev pub decreases-loop-next : goal.decreases-loop-next
decreases-loop-next l = left (length l.tape.nodes) l.next
