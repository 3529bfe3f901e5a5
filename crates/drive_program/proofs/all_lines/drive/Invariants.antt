use Rattle.std.proofs.Common.{◌≡◌, ◌-◌, ◌^◌, ◌≤◌, false}
use Rattle.drive_program.specs.Stops.{Driving}
use Rattle.drive_program.proofs.all_lines.drive.Given as goal

abbrev pub invariant-lines : goal.invariant-lines
invariant-lines g l = record {
  driving : Driving g.J.Journal.told l.fn.content l.initial.hub.settings (g.I.Source.left l.initial.input) (g.I.Source.left l.input) l.buffer l.taken (g.O.Sink.written l.initial.output) (g.O.Sink.written l.output) l.hub;
  settings : l.hub.settings ≡ l.initial.hub.settings;
  ready : l.hub.spent ≡ false;
  count : l.taken ≤ l.buffer.used;
  small : l.buffer.used ≤ 2 ^ 40;
  journal_later : g.J.Journal.faults l.initial.hub.journal ≤ g.J.Journal.faults l.hub.journal;
  input_later : g.I.Source.faults l.initial.input ≤ g.I.Source.faults l.input;
  output_later : g.O.Sink.faults l.initial.output ≤ g.O.Sink.faults l.output;
}

abbrev pub decreases-lines : goal.decreases-lines
decreases-lines g l = 2 ^ 40 - l.buffer.used
