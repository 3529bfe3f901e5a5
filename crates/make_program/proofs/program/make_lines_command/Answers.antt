use Rattle.drive_text.specs.Made.{made}
use Rattle.make_program.specs.Shown.{causes_text}
use Rattle.make_program.proofs.Ending.{shown_of}
use Rattle.make_program.proofs.program.make_lines_command.Goals as goal

pub returns : goal.returns
returns g c = shown_of (causes_text (made c.args.count c.args.seed)) (g.O.Sink.written c.args.output.now) (g.O.Sink.written c.write_lines-ended.new.output) (g.O.Sink.written c.finish.new.output)
    (g.O.Sink.faults c.args.output.now) (g.O.Sink.faults c.write_lines-ended.new.output) (g.O.Sink.faults c.finish.new.output) c.write_lines-ended.result c.finish.result
    c.write_lines-ended.ensures.shows c.write_lines-ended.ensures.output c.write_lines-ended.ensures.later c.finish.ensures.later c.finish.ensures.reported
