use Rattle.std.proofs.Common.{length}
use Rattle.base_frame.specs.Machine.{Cuts}
use Rattle.base_frame.proofs.reader.split.Given as goal

abbrev pub invariant-loop-content : goal.invariant-loop-content
invariant-loop-content l = Cuts l.limit l.bytes l.ready.items l.rest

abbrev pub decreases-loop-content : goal.decreases-loop-content
decreases-loop-content l = length l.rest
