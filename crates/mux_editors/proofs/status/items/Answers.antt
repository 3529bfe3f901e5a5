-- One group more.
use Rattle.std.proofs.Common.{get_or, refl}
use Rattle.mux_editors.proofs.Telling.{run_at, told_next}
use Rattle.mux_editors.proofs.status.items.Goals as goal

pub loop-g-preserved : goal.loop-g-preserved
loop-g-preserved c = λ settings before servers all st.
    told_next settings before c.args.groups.now c.loop-g.g-index 0 (get_or c.args.groups.now c.loop-g.g-index 0) c.loop-g.items.items c.add_item.new.items.items _ c.loop-g-test.true refl (c.in_ok-add_item.ensures settings before servers (run_at before c.args.groups.now c.loop-g.g-index 0 all c.loop-g-test.true) st) (c.loop-g.invariant settings before servers all st)
