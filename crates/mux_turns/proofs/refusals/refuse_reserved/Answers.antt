-- A request with a reserved token.
use Rattle.event_model.proofs.Turns.{does_alike}
use Rattle.mux_turns.proofs.Rows.{reserved_asked}
use Rattle.mux_turns.proofs.refusals.refuse_reserved.Goals as goal

pub returns-clause-does : goal.returns-clause-does
returns-clause-does c = λ settings before base body method id params read says reserved.
    does_alike (λ _. reserved_asked settings before c.args.e body reserved) (c.in_ok-refuse.ensures.does settings base body method id params read says)
