use Rattle.program_settings.proofs.Lines.{wrote_of}
use Rattle.program_settings.proofs.line.write_line.Goals as goal

pub returns-clause-wrote : goal.returns-clause-wrote
returns-clause-wrote g c = wrote_of c.write_whole.result (g.O.Sink.written c.args.output.now) (g.O.Sink.written c.write_whole.new.sink) c.args.line.now (g.O.Sink.faults c.args.output.now) (g.O.Sink.faults c.write_whole.new.sink)
    c.write_whole.ensures.ok c.write_whole.ensures.cut c.write_whole.ensures.cause
