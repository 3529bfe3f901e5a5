use Rattle.std.proofs.Common.{◌≡◌, ◌-◌, ◌≤◌, drop, length}
use Rattle.json_span.specs.Machine.{start, read}
use Rattle.json_span.specs.Views.{state_of, Fits}
use Rattle.json_span.proofs.tape.read_nodes.Given as goal

abbrev pub invariant-loop-at : goal.invariant-loop-at
invariant-loop-at l = record {
  same : read 1024 l.at (drop l.at l.bytes) (state_of l.reader) ≡ read 1024 0 l.bytes start;
  fits : Fits l.at l.reader;
  inside : l.at ≤ length l.bytes;
}

abbrev pub decreases-loop-at : goal.decreases-loop-at
decreases-loop-at l = length l.bytes - l.at
