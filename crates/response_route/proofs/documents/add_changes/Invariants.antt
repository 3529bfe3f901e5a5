use Rattle.std.proofs.Common.{length}
use Rattle.json_nodes.proofs.Members.{left}
use Rattle.response_route.specs.Edits.{change_documents}
use Rattle.response_route.proofs.Walks.{Walking}
use Rattle.response_route.proofs.documents.add_changes.Given as goal

abbrev pub invariant-loop-next : goal.invariant-loop-next
invariant-loop-next l = Walking change_documents l.tape l.fn.first l.next l.initial.documents.items l.documents.items

abbrev pub decreases-loop-next : goal.decreases-loop-next
decreases-loop-next l = left (length l.tape.nodes) l.next
