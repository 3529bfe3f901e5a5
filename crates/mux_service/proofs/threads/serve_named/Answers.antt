use Rattle.mux_service.proofs.Serving.{lanes_served}
use Rattle.mux_service.proofs.threads.serve_named.Goals as goal

pub returns-clause-served : goal.returns-clause-served
returns-clause-served g c =
    let served = c.serve_core-served.ensures.served in
    lanes_served g.J.Journal.told g.P.Port.sessions g.P.Port.links g.P.Port.faults g.B.Berth.runs g.B.Berth.left g.B.Berth.faults g.C.Clock.given g.C.Clock.left c.args.content g.N.Named.settings (λ k. k.hub)
    c.serve_core-served.result.core c.into_hub-hub.result c.close-journal.result c.args.lanes c.serve_core-served.result.lanes c.serve_core-served.result.answer
    (λ k. k.is) c.into_hub-hub.ensures.same c.into_hub-hub.ensures.settings c.close-journal.ensures served c.sessions_law.ensures
    (c.served_law.ensures c.args.content c.serve_core-served.result.core c.args.lanes c.serve_core-served.result.lanes c.serve_core-served.result.answer served)
    (c.events_law.ensures c.args.content c.serve_core-served.result.core c.args.lanes c.serve_core-served.result.lanes c.serve_core-served.result.answer served)
