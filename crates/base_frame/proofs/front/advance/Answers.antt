use Rattle.std.proofs.Common.{◌∙◌, sym}
use Rattle.base_frame.proofs.Places.{at_next}
use Rattle.base_frame.proofs.front.advance.Goals as goal

pub loop-at-preserved : goal.loop-at-preserved
loop-at-preserved c = at_next c.args.limit c.loop-at.at c.loop-at.state c.in-Goes.next c.args.bytes.now c.loop-at.invariant c.loop-at-test.true (sym c.step.ensures ∙ c.in-Goes.is)
