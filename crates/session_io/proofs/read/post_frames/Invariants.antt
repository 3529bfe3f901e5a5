use Rattle.std.proofs.Common.{◌≡◌}
use Rattle.session_io.specs.Reads.{PostedSoFar}
use Rattle.session_io.proofs.read.post_frames.Given as goal

abbrev pub invariant-loop : goal.invariant-loop
invariant-loop g l = record {
  queue : l.inn.queue ≡ l.initial.inn.queue;
  posted : PostedSoFar l.initial.reader l.reader l.initial.inn.pushed l.inn.pushed;
}
