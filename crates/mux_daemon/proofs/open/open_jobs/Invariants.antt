use Rattle.std.proofs.Common.{◌≡◌}
use Rattle.mux_daemon.specs.Opens.{AreOpened, SameOutsides}
use Rattle.mux_daemon.proofs.open.open_jobs.Given as goal

abbrev pub invariant-loop-at : goal.invariant-loop-at
invariant-loop-at g l = record {
  same : SameOutsides l.fn.jobs.items l.jobs.items;
  number : l.number ≡ l.at;
  opened : AreOpened l.at l.fn.hubs.items l.hubs.items l.jobs.items;
}
