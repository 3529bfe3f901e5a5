-- An editor leaves one start more.
use Rattle.mux_tokens.proofs.Leaving.{left_more}
use Rattle.mux_tokens.proofs.created.leave_each.Goals as goal

pub loop-s-preserved : goal.loop-s-preserved
loop-s-preserved c = left_more c.args.editor c.args.all.now c.loop-s.s-index c.loop-s.starts.entries c.leave.new.starts.entries _ c.loop-s-test.true c.leave.ensures c.loop-s.invariant
