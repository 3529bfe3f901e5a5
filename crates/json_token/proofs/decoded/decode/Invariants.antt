use Rattle.std.proofs.Common.{length}
use Rattle.json_token.proofs.Comparing.{Decoded}
use Rattle.json_token.proofs.decoded.decode.Given as goal

abbrev pub invariant-loop-text : goal.invariant-loop-text
invariant-loop-text l = Decoded l.raw l.rest l.text.items

abbrev pub decreases-loop-text : goal.decreases-loop-text
decreases-loop-text l = length l.rest
