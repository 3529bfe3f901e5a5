use Rattle.std.proofs.Common.{◌≡◌, ◌≤◌, drop}
use Rattle.journal_show.specs.Readings.{read_from, read_text}
use Rattle.journal_show.proofs.Scans.{piece}
use Rattle.journal_show.proofs.reading.read_lines.Given as goal

abbrev pub invariant-loop-at : goal.invariant-loop-at
invariant-loop-at l = record {
  read : read_text l.bytes ≡ read_from l.lines l.reading (piece l.bytes l.start l.at) (drop l.at l.bytes);
  start : l.start ≤ l.at;
  lines : l.lines ≤ l.at;
}
