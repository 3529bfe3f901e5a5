use Rattle.std.proofs.Common.{length}
use Rattle.json_nodes.proofs.Members.{left}
use Rattle.mux_members.specs.Results.{any_edit_versioned}
use Rattle.mux_members.proofs.Walks.{Walking}
use Rattle.mux_members.proofs.outcome.any_edit_versioned.Given as goal

abbrev pub invariant-loop-next : goal.invariant-loop-next
invariant-loop-next l = Walking l.tape l.fn.actions (λ js. any_edit_versioned js) l.next

abbrev pub decreases-loop-next : goal.decreases-loop-next
decreases-loop-next l = left (length l.tape.nodes) l.next
