use Rattle.std.proofs.Common.{◌≡◌, ◌-◌, ◌^◌, ◌<◌, ◌≤◌, []}
use Rattle.drive_program.specs.Buffers.{Came, known_lines, begun_lines}
use Rattle.drive_program.proofs.line.next_line.Given as goal

abbrev pub invariant-pieces : goal.invariant-pieces
invariant-pieces g l = record {
  same : known_lines l.initial.buffer (g.I.Source.left l.initial.input) ≡ begun_lines l.line.items l.buffer (g.I.Source.left l.input);
  begun : Came [] l.line.items l.initial.buffer l.buffer (g.I.Source.left l.initial.input) (g.I.Source.left l.input);
  used : l.initial.buffer.used ≤ l.buffer.used;
  moved : (l.line.items ≡ [] → ⊥) → l.initial.buffer.used < l.buffer.used;
  small : l.buffer.used ≤ 2 ^ 40;
  later : g.I.Source.faults l.initial.input ≤ g.I.Source.faults l.input;
}

abbrev pub decreases-pieces : goal.decreases-pieces
decreases-pieces g l = 2 ^ 40 - l.buffer.used
