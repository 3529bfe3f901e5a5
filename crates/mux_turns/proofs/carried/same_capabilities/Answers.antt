-- Whether two bytes have the same capabilities.
use Rattle.mux_turns.specs.Carried.{capabilities_in}
use Rattle.mux_turns.proofs.Carrying.{lacks_left}
use Rattle.mux_turns.proofs.carried.same_capabilities.Goals as goal

pub returns-in_ok-answer-in-None : goal.returns-in_ok-answer-in-None
returns-in_ok-answer-in-None c = lacks_left c.args.a.now (capabilities_in c.args.b.now) c.in_ok-answer-in-None.answer (rw c.in-None.is at c.in_ok-found.ensures) c.in_ok-answer-in-None.ensures

pub returns-in_ok-answer-in-Some : goal.returns-in_ok-answer-in-Some
returns-in_ok-answer-in-Some c = c.in_ok-answer-in-Some.ensures c.args.a.now (rw c.in-Some.is at c.in_ok-found.ensures)
