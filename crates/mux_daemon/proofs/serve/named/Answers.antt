use Rattle.std.proofs.Common.{rules, [], subst, sym, ◌∙◌, ℕ}
use Rattle.lane_desk.specs.Desks.{TooMany}
use Rattle.mux_daemon.specs.Served.{LeftAs, ServedAs}
use Rattle.mux_daemon.proofs.Serving.{lanes_paired, served, served_none}
use Rattle.mux_daemon.proofs.serve.named.Goals as goal

pub returns-in-Err-clause-served : goal.returns-in-Err-clause-served
returns-in-Err-clause-served g c =
    let stands : g.K.Steps.stands c.in-Err.core [] = search rules in
    served_none g.K.Steps.stands (TooMany g.K.Steps.stands g.K.Steps.allows g.K.Steps.passes) g.K.Steps.stops g.P.Port.sessions g.P.Port.links g.P.Port.faults g.B.Berth.runs g.B.Berth.left g.B.Berth.faults g.C.Clock.given g.C.Clock.left c.args.limit c.in-Err.core c.args.lanes stands

pub finish-requires : goal.finish-requires
finish-requires g c =
    lanes_paired g.P.Port.sessions g.P.Port.links g.P.Port.faults g.B.Berth.runs g.B.Berth.left g.B.Berth.faults g.C.Clock.given g.C.Clock.left c.args.limit c.args.lanes c.run_deck-ran.result.lanes c.args.hubs c.run_deck-ran.result.left.ends.items
    c.requires.opened c.run_deck-ran.ensures.ran (c.run_deck-ran.ensures.queues ∙ sym c.requires.queues)

pub returns-clause-served : goal.returns-clause-served
returns-clause-served g c =
    let ran = c.run_deck-ran.result in
    let e = c.run_deck-ran.ensures in
    let left : LeftAs g.K.Steps.stands (TooMany g.K.Steps.stands g.K.Steps.allows g.K.Steps.passes) g.K.Steps.stops c.args.hubs.editors c.args.hubs.servers ran.left.core ran.left.ends.items ran.left.spent ran.left.done ran.left.no_editor ran.left.own_last ran.left.why =
    subst (λ (n : ℕ). LeftAs g.K.Steps.stands (TooMany g.K.Steps.stands g.K.Steps.allows g.K.Steps.passes) g.K.Steps.stops n c.args.hubs.servers ran.left.core ran.left.ends.items ran.left.spent ran.left.done ran.left.no_editor ran.left.own_last ran.left.why) (sym c.requires.counts.0)
    (subst (λ (m : ℕ). LeftAs g.K.Steps.stands (TooMany g.K.Steps.stands g.K.Steps.allows g.K.Steps.passes) g.K.Steps.stops g.N.Naming.editors m ran.left.core ran.left.ends.items ran.left.spent ran.left.done ran.left.no_editor ran.left.own_last ran.left.why) (sym c.requires.counts.1) e.kept) in
    subst (λ y. ServedAs g.K.Steps.stands (TooMany g.K.Steps.stands g.K.Steps.allows g.K.Steps.passes) g.K.Steps.stops g.P.Port.sessions g.P.Port.links g.P.Port.faults g.B.Berth.runs g.B.Berth.left g.B.Berth.faults g.C.Clock.given g.C.Clock.left c.args.limit y c.args.lanes c.finish.result.lanes c.finish.result.answer) (sym c.finish.ensures.core)
    (served g.P.Port.sessions g.P.Port.links g.P.Port.faults g.B.Berth.runs g.B.Berth.left g.B.Berth.faults g.C.Clock.given g.C.Clock.left c.args.limit c.args.lanes ran.lanes c.args.hubs ran.left.ends.items
    c.requires.opened e.ran (e.queues ∙ sym c.requires.queues) g.K.Steps.stands (TooMany g.K.Steps.stands g.K.Steps.allows g.K.Steps.passes) g.K.Steps.stops ran.left.core ran.left.spent ran.left.done ran.left.no_editor ran.closed ran.left.own_last ran.left.why c.finish.result.lanes c.finish.result.answer
    left e.goes e.through c.finish.ensures.finished c.finish.ensures.same c.finish.ensures.numbers)
