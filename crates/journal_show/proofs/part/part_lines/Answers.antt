use Rattle.journal_show.proofs.Parts.{part_grown}
use Rattle.journal_show.proofs.part.part_lines.Goals as goal

pub loop-entry-preserved : goal.loop-entry-preserved
loop-entry-preserved c = part_grown c.args.side c.args.entries.now c.loop-entry.entry-index c.entry-item.result c.loop-entry.text.items c.write_part.new.text.items
    c.loop-entry-test.true c.entry-item.is c.loop-entry.invariant c.in_ok-write_part.ensures
