use Rattle.std.proofs.Common.{rules, arith, sym, ◌∙◌}
use Rattle.std.proofs.lemmas.Bool.{ne_eqb}
use Rattle.journal_show.specs.Readings.{read_text}
use Rattle.journal_show.proofs.Scans.{byte_read, line_taken}
use Rattle.journal_show.proofs.reading.read_lines.Goals as goal
use Rattle.journal_show.proofs.reading.read_lines.Goals.{then-bytes-at-eq10+in_ok-behind+in-Some, else-bytes-at-eq10}

pub loop-at-preserved : goal.loop-at-preserved
loop-at-preserved c = elim c.if-bytes-at-eq10.branch [
  | then-bytes-at-eq10+in_ok-behind+in-Some w ↦ record {
    read = line_taken (read_text c.args.bytes.now) c.loop-at.lines c.if-bytes-at-eq10.lines c.loop-at.reading w.in-Some.behind c.if-bytes-at-eq10.reading c.args.bytes.now
        c.loop-at.start c.if-bytes-at-eq10.start c.loop-at.at c.loop-at-test.true (search rules) (sym w.in_ok-behind.ensures ∙ w.in-Some.is) c.loop-at.invariant.read w.lines-is w.start-is w.reading-is;
    start = omega (arith, w.start-is);
    lines = omega (arith, w.lines-is, c.loop-at.invariant.lines);
  }
  | else-bytes-at-eq10 w ↦ record {
    read = byte_read (read_text c.args.bytes.now) c.loop-at.lines c.if-bytes-at-eq10.lines c.loop-at.reading c.if-bytes-at-eq10.reading c.args.bytes.now
        c.loop-at.start c.if-bytes-at-eq10.start c.loop-at.at c.loop-at.invariant.start c.loop-at-test.true (ne_eqb _ _ w.if-bytes-at-eq10.false) c.loop-at.invariant.read w.lines-is w.start-is w.reading-is;
    start = omega (arith, w.start-is, c.loop-at.invariant.start);
    lines = omega (arith, w.lines-is, c.loop-at.invariant.lines);
  }
]
