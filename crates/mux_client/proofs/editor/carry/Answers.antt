use Rattle.outside_io.specs.Sessions.{session_of}
use Rattle.mux_client.proofs.Carrying.{carried_opened}
use Rattle.mux_client.proofs.editor.carry.Goals as goal

pub returns : goal.returns
returns g c = rw c.in-Some.is
    (carried_opened c.args.limit c.in-Some.name.now c.in_ok-open_server-in-Some.field-0 (session_of g.I.Source.taken g.I.Source.left g.I.Source.faults g.O.Sink.written g.O.Sink.faults c.args.input.now c.args.output.now)
    (session_of g.I.Source.taken g.I.Source.left g.I.Source.faults g.O.Sink.written g.O.Sink.faults c.copy_both-in-Some.new.input c.copy_both-in-Some.new.output) (session_of g.S.Source.taken g.S.Source.left g.S.Source.faults g.K.Sink.written g.K.Sink.faults c.args.link.now.source c.args.link.now.sink)
    (session_of g.S.Source.taken g.S.Source.left g.S.Source.faults g.K.Sink.written g.K.Sink.faults c.open_server.new.source c.open_server.new.sink) (session_of g.S.Source.taken g.S.Source.left g.S.Source.faults g.K.Sink.written g.K.Sink.faults c.copy_both-in-Some.new.link.source c.copy_both-in-Some.new.link.sink)
    c.copy_both-in-Some.result c.in_ok-open_server-in-Some.ensures c.copy_both-in-Some.ensures)
