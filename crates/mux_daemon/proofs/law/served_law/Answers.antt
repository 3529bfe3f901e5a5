use Rattle.lane_desk.specs.Desks.{TooMany}
use Rattle.mux_daemon.proofs.Events.{came_of}
use Rattle.mux_daemon.proofs.law.served_law.Goals as goal

pub returns : goal.returns
returns g c = λ limit core old new x f.
    let law = c.origins_law.ensures in
    came_of g.K.Steps.stands (TooMany g.K.Steps.stands g.K.Steps.allows g.K.Steps.passes) g.K.Steps.stops g.P.Port.sessions g.P.Port.links g.P.Port.faults g.B.Berth.runs g.B.Berth.left g.B.Berth.faults g.C.Clock.given g.C.Clock.left limit core old new c.port_law.ensures c.port_law-2.ensures c.berth_law.ensures law.ticks law.editors law.starts x f
