use Rattle.outside_io.specs.Sessions.{session_of}
use Rattle.mux_client.proofs.Dials.{at_link}
use Rattle.mux_client.proofs.question.ask_at.Goals as goal

pub returns : goal.returns
returns g c =
    at_link _ _ (g.P.Port.sessions c.args.port.now) (g.P.Port.sessions c.take_link.new.port) (g.P.Port.sessions c.hang_up.new.port) (g.P.Port.links c.args.port.now) (g.P.Port.links c.take_link.new.port) (g.P.Port.links c.hang_up.new.port) (g.P.Port.held c.args.port.now) (g.P.Port.held c.take_link.new.port) (g.P.Port.held c.hang_up.new.port) (g.P.Port.faults c.args.port.now) (g.P.Port.faults c.take_link.new.port) (g.P.Port.faults c.hang_up.new.port)
    (session_of g.P.In.Source.taken g.P.In.Source.left g.P.In.Source.faults g.P.Out.Sink.written g.P.Out.Sink.faults c.in-Ok.link.source c.in-Ok.link.sink) (session_of g.P.In.Source.taken g.P.In.Source.left g.P.In.Source.faults g.P.Out.Sink.written g.P.Out.Sink.faults c.ask_over-asked.new.link.source c.ask_over-asked.new.link.sink) c.ask_over-asked.result
    c.in-Ok.ensures.link c.in-Ok.ensures.given c.in-Ok.ensures.sessions c.hang_up.ensures.session c.hang_up.ensures.links c.hang_up.ensures.given c.ask_over-asked.ensures
