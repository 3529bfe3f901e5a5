use Rattle.std.proofs.Common.{length}
use Rattle.std.specs.Str.{chars}
use Rattle.json_nodes.specs.Values.{doc_of}
use Rattle.json_nodes.proofs.Members.{Walking, left}
use Rattle.json_nodes.proofs.member.last_named.Given as goal

abbrev pub invariant-loop-next : goal.invariant-loop-next
invariant-loop-next l = Walking (chars l.name) (doc_of l.values) l.node l.next l.found

abbrev pub decreases-loop-next : goal.decreases-loop-next
decreases-loop-next l = left (length l.values.nodes.now) l.next
