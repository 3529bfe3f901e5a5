use Rattle.lane_desk.specs.Desks.{TooMany}
use Rattle.mux_daemon.specs.declared.serve.Answer.TheVariants as answer
use Rattle.mux_daemon.proofs.Serving.{served_from, served_none}
use Rattle.mux_daemon.proofs.serve.serve_core.Goals as goal

pub returns-in_default-clause-served : goal.returns-in_default-clause-served
returns-in_default-clause-served g c =
    served_from g.K.Steps.stands (TooMany g.K.Steps.stands g.K.Steps.allows g.K.Steps.passes) g.K.Steps.stops g.P.Port.sessions g.P.Port.links g.P.Port.faults g.B.Berth.runs g.B.Berth.left g.B.Berth.faults g.C.Clock.given g.C.Clock.left c.args.limit c.args.core c.args.lanes c.open_lanes.new.lanes c.open_lanes.new.lanes answer.Memory c.open_lanes.ensures.same
    (served_none g.K.Steps.stands (TooMany g.K.Steps.stands g.K.Steps.allows g.K.Steps.passes) g.K.Steps.stops g.P.Port.sessions g.P.Port.links g.P.Port.faults g.B.Berth.runs g.B.Berth.left g.B.Berth.faults g.C.Clock.given g.C.Clock.left c.args.limit c.args.core c.open_lanes.new.lanes c.requires.core)

pub returns-clause-served : goal.returns-clause-served
returns-clause-served g c =
    served_from g.K.Steps.stands (TooMany g.K.Steps.stands g.K.Steps.allows g.K.Steps.passes) g.K.Steps.stops g.P.Port.sessions g.P.Port.links g.P.Port.faults g.B.Berth.runs g.B.Berth.left g.B.Berth.faults g.C.Clock.given g.C.Clock.left c.args.limit c.named.result.core c.args.lanes c.open_lanes.new.lanes c.named.result.lanes c.named.result.answer c.open_lanes.ensures.same
    c.named.ensures.served
