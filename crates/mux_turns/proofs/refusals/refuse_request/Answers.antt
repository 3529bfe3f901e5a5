-- A request that no start takes.
use Rattle.event_model.proofs.Turns.{does_alike}
use Rattle.mux_turns.proofs.refusals.refuse_request.Goals as goal

pub returns-clause-does : goal.returns-clause-does
returns-clause-does c = λ settings before base body method id params read says row. does_alike (λ _. row) (c.in_ok-refuse.ensures.does settings base body method id params read says)
