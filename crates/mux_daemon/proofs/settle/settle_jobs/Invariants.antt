use Rattle.std.proofs.Common.{◌≡◌, length}
use Rattle.mux_daemon.proofs.Settling.{SettledSoFar}
use Rattle.mux_daemon.proofs.settle.settle_jobs.Given as goal

abbrev pub invariant-loop-done : goal.invariant-loop-done
invariant-loop-done g l = record {
  count : l.count ≡ length l.fn.jobs.items;
  far : SettledSoFar l.done l.fn.jobs.items l.jobs.items l.fn.hubs.items l.hubs.items l.none_left;
}
