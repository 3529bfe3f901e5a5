use Rattle.std.proofs.Common.{length, arith}
use Rattle.json_text.proofs.Changes.{Next, next}
use Rattle.json_text.proofs.change.splice.Goals as goal

pub slice_bounds-extend_from_slice-end : goal.slice_bounds-extend_from_slice-end
slice_bounds-extend_from_slice-end c =
    let n : Next c.loop-change.at (length c.args.bytes.now) c.loop-change.change-index c.args.changes.now c.change-item.result
    = next c.loop-change.at (length c.args.bytes.now) c.loop-change.change-index c.args.changes.now c.change-item.result c.loop-change-test.true c.change-item.is c.loop-change.invariant.rise in
    omega (arith, n.ends, n.fits)
