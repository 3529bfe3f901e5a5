use Rattle.std.proofs.Common.{◌≡◌, take}
use Rattle.journal_show.specs.Parts.{part_text}
use Rattle.journal_show.proofs.part.part_lines.Given as goal

abbrev pub invariant-loop-entry : goal.invariant-loop-entry
invariant-loop-entry l = l.text.items ≡ part_text l.side (take l.entry-index l.entries)
