use Rattle.mux_daemon.proofs.Starts.{berth_starts}
use Rattle.mux_daemon.proofs.law.berth_law.Goals as goal

pub returns : goal.returns
returns g c = λ limit s went i old new within fair once served.
    let law = c.start_sessions_law.ensures in
    berth_starts limit s went i g.B.Berth.runs g.B.Berth.left g.B.Berth.faults old new (law.cut s.editors s.servers i s.deeds within fair once) (law.orders s.editors s.servers i s.deeds within fair once) (law.tried s.editors s.servers i s.deeds within fair once) served
