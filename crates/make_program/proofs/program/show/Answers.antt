use Rattle.make_program.specs.Counts.{summary_line}
use Rattle.make_program.proofs.Ending.{shown_of}
use Rattle.make_program.proofs.program.show.Goals as goal

pub returns : goal.returns
returns g c = shown_of (summary_line c.args.counts) (g.O.Sink.written c.args.output.now) (g.O.Sink.written c.write_counts-ended.new.output) (g.O.Sink.written c.finish.new.output)
    (g.O.Sink.faults c.args.output.now) (g.O.Sink.faults c.write_counts-ended.new.output) (g.O.Sink.faults c.finish.new.output) c.write_counts-ended.result c.finish.result
    c.write_counts-ended.ensures.shows c.write_counts-ended.ensures.output c.write_counts-ended.ensures.later c.finish.ensures.later c.finish.ensures.reported
