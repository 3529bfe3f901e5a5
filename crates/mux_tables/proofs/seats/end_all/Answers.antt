use Rattle.mux_tables.proofs.Ends.{ends_next}
use Rattle.mux_tables.proofs.seats.end_all.Goals as goal

pub loop-g-preserved : goal.loop-g-preserved
loop-g-preserved c = ends_next c.args.groups.now c.loop-g.groups c.end.new.self c.args.numbers.now c.loop-g.g-index _ c.loop-g-test.true c.loop-g.invariant c.end.ensures
