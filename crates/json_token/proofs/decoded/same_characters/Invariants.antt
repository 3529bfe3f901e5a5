use Rattle.std.proofs.Common.{length}
use Rattle.json_token.proofs.InOrder.{Aligned}
use Rattle.json_token.proofs.decoded.same_characters.Given as goal

abbrev pub invariant-loop-character : goal.invariant-loop-character
invariant-loop-character l = Aligned l.a l.b l.rest l.other_rest

abbrev pub decreases-loop-character : goal.decreases-loop-character
decreases-loop-character l = length l.rest
