use Rattle.std.proofs.Common.{◌≡◌}
use Rattle.serve_program.specs.Daemons.{outsides}
use Rattle.serve_program.proofs.daemon.jobs_of.Given as goal

abbrev pub invariant-loop-one : goal.invariant-loop-one
invariant-loop-one g l = outsides l.jobs.items ≡ l.yielded
