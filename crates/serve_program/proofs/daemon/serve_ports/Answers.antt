use Rattle.serve_program.proofs.Serving.{ports_served}
use Rattle.serve_program.proofs.daemon.serve_ports.Goals as goal

pub returns-clause-came : goal.returns-clause-came
returns-clause-came g c = ports_served g.J.Journal.told g.J.Journal.faults g.P.Port.sessions g.P.Port.links g.B.Berth.runs g.B.Berth.left g.B.Berth.faults g.C.Clock.given g.C.Clock.left
    c.args.config c.args.journal c.serve-left.result.journal c.args.ports.items c.args.berths.items c.args.clock c.in-Ok.lanes c.serve-left.result.lanes c.serve-left.result.answer c.fault_of.result
    c.in-Ok-hub_of.settled.content (g.J.Journal.faults c.in-Ok-hub_of.settled.hub.journal) c.in-Ok-hub_of.settled.hub.settings
    c.in-Ok.ensures c.in-Ok-hub_of.ensures.content c.in-Ok-hub_of.ensures.settings c.serve-left.ensures.served c.fault_of.ensures c.serve-left.ensures.journal c.in-Ok-hub_of.ensures.faults
