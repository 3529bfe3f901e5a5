use Rattle.mux_daemon.proofs.Running.{lanes_none}
use Rattle.mux_daemon.proofs.serve.run_deck.Goals as goal

pub returns-in-Err-clause-ran : goal.returns-in-Err-clause-ran
returns-in-Err-clause-ran g c = lanes_none g.P.Port.sessions g.P.Port.links g.P.Port.faults g.B.Berth.runs g.B.Berth.left g.B.Berth.faults g.C.Clock.given g.C.Clock.left c.args.limit c.args.lanes c.requires.over
