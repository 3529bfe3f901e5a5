use Rattle.mux_client.proofs.Completing.{question_done}
use Rattle.mux_client.proofs.question.ask.Goals as goal

pub returns-clause-complete : goal.returns-clause-complete
returns-clause-complete g c = question_done _ _ _ _ _ _ _ _ c.ask_from.ensures.ran
