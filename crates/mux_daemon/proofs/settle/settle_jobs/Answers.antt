use Rattle.std.proofs.Common.{rules, ◌≡◌, ◌<◌, ◌+◌, ◌-◌, ◌&&◌, length, slice_set, arith, subst}
use Rattle.mux_daemon.proofs.Places.{was_at}
use Rattle.mux_daemon.proofs.Settling.{SettledSoFar, last_pair, settled_more}
use Rattle.mux_daemon.proofs.settle.settle_jobs.Goals as goal
use Rattle.mux_daemon.proofs.settle.settle_jobs.Goals.{then-none_left, else-none_left}

pub settle_last-is_empty-requires : goal.settle_last-is_empty-requires
settle_last-is_empty-requires g c =
    let f = c.loop-done.invariant.far in
    let len = f.same.len in
    let count = c.loop-done.invariant.count in
    let less : c.loop-done.done < c.len-count.result = search rules in
    let at = c.len-count.result - 1 - c.loop-done.done in
    let place : at + c.loop-done.done + 1 ≡ length c.args.jobs.now.items = omega (arith, less, count) in
    let was = was_at c.loop-done.jobs.items at c.index_mut.result.now (omega (arith, less, count, len)) c.index_mut.ensures.value in
    last_pair c.loop-done.done at c.args.jobs.now.items c.loop-done.jobs.items c.args.hubs.now.items c.loop-done.hubs.items c.loop-done.none_left c.index_mut.result.now c.requires.pairs c.requires.enough f place was

pub loop-done-preserved : goal.loop-done-preserved
loop-done-preserved g c =
    let f = c.loop-done.invariant.far in
    let len = f.same.len in
    let count = c.loop-done.invariant.count in
    let less : c.loop-done.done < c.len-count.result = search rules in
    let at = c.len-count.result - 1 - c.loop-done.done in
    let place : at + c.loop-done.done + 1 ≡ length c.args.jobs.now.items = omega (arith, less, count) in
    let was = was_at c.loop-done.jobs.items at c.index_mut.result.now (omega (arith, less, count, len)) c.index_mut.ensures.value in
    let none : (c.loop-done.none_left && c.settle_last-is_empty.result) ≡ c.if-none_left.none_left = search rules in
    let e = c.settle_last-is_empty.ensures in
    record {
      count = count;
      far = subst (λ b. SettledSoFar (c.loop-done.done + 1) c.args.jobs.now.items (slice_set c.loop-done.jobs.items at c.settle_last-is_empty.new.job) c.args.hubs.now.items c.settle_last-is_empty.new.hubs.items b) none
          (settled_more c.loop-done.done at c.args.jobs.now.items c.loop-done.jobs.items c.args.hubs.now.items c.loop-done.hubs.items c.settle_last-is_empty.new.hubs.items c.loop-done.none_left c.settle_last-is_empty.result c.index_mut.result.now c.settle_last-is_empty.new.job f c.requires.enough place was e.same e.settled e.left e.front);
    }
