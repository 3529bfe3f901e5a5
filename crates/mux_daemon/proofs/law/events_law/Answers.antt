use Rattle.mux_daemon.proofs.Causes.{events_of}
use Rattle.mux_daemon.proofs.law.events_law.Goals as goal

pub returns : goal.returns
returns g c = λ limit core old new x f.
    events_of g.P.Port.sessions g.P.Port.links g.B.Berth.runs g.B.Berth.left g.B.Berth.faults g.C.Clock.given g.C.Clock.left limit f.story x old new f.servers f.ports_len f.berths_len (c.served_law.ensures limit core old new x f) f.fair f.lanes c.sides_law.ensures.drained c.sides_law.ensures.failed f.once c.sides_law.ensures.starts f.editors
