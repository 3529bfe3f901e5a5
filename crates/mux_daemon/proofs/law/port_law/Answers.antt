use Rattle.mux_daemon.proofs.Sessions.{port_sessions}
use Rattle.mux_daemon.proofs.EndSessions.{by_ends}
use Rattle.mux_daemon.proofs.law.port_law.Goals as goal

pub returns : goal.returns
returns g c = λ limit s went i old new within fair served.
    port_sessions limit s went i g.P.Port.sessions g.P.Port.links g.P.Port.faults old new fair (c.sessions_law.ensures.cut s.editors s.servers i s.deeds within fair) (c.sessions_law.ensures.orders s.editors s.servers i s.deeds within fair)
    (by_ends s.editors s.servers i s.deeds within fair) served
