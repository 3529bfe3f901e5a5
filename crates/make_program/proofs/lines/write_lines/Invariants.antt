-- The lines of those so far were written.
use Rattle.std.proofs.Common.{◌≡◌, ◌≤◌, ◌++◌, length}
use Rattle.std.specs.Io.KnownBytes.{append_known}
use Rattle.std.specs.Vec.Iter.{into_iter_items, into_iter_len}
use Rattle.drive_text.specs.Made.{made}
use Rattle.make_program.specs.Shown.{causes_text}
use Rattle.make_program.proofs.lines.write_lines.Given as goal

abbrev pub invariant-loop-cause : goal.invariant-loop-cause
invariant-loop-cause g l = record {
  all : l.yielded ++ into_iter_items l.cause-iterator ≡ made l.fn.count l.fn.seed;
  left : into_iter_len l.cause-iterator ≡ length (into_iter_items l.cause-iterator);
  written : g.O.Sink.written l.output ≡ append_known (g.O.Sink.written l.initial.output) (causes_text l.yielded);
  later : g.O.Sink.faults l.initial.output ≤ g.O.Sink.faults l.output;
}
