use Rattle.std.proofs.Common.{◌≡◌, ◌<◌, ◌≤◌, length}
use Rattle.session_io.specs.Reads.{ReadSoFar}
use Rattle.session_io.proofs.read.read_frames.Given as goal

abbrev pub invariant-loop : goal.invariant-loop
invariant-loop g l = record {
  room : 0 < length l.buf;
  queue : l.inn.queue ≡ l.initial.inn.queue;
  read : ReadSoFar l.limit l.reader (g.S.Source.taken l.initial.source) (g.S.Source.taken l.source) l.initial.inn.pushed l.inn.pushed;
  later : g.S.Source.faults l.initial.source ≤ g.S.Source.faults l.source;
}
