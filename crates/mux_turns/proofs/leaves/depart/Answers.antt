-- It leaves.
use Rattle.event_model.proofs.Turns.{does_alike, does_then}
use Rattle.mux_tables.proofs.DocumentOwed.{all_does}
use Rattle.mux_turns.proofs.Departing.{closings_paid, leave_alike, pays_later}
use Rattle.mux_turns.proofs.leaves.depart.Goals as goal

pub returns-clause-does : goal.returns-clause-does
returns-clause-does c = λ settings before base e owing leaves pays.
    let t = c.args.tables.now in
    let u = c.leave.new.tables in
    does_alike (λ _. leave_alike settings before e) (does_then
    (all_does settings t u owing owing base c.args.outs.now c.leave.new.outs (c.in_ok-leave.ensures.does settings before base e leaves) (λ st d. c.in_ok-leave.ensures.documents settings owing before base e leaves st d))
    (closings_paid settings before base e u c.leave.new.outs c.pay.new.outs c.args.owed owing c.in_ok-pay.ensures.outs (λ g z bodies at ready are. c.in_ok-pay.ensures.does settings base g z bodies at ready are)
    (pays_later settings before e t u c.args.owed owing c.in_ok-leave.ensures.starts c.in_ok-leave.ensures.stages c.in_ok-leave.ensures.groups pays)))
