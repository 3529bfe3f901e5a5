use Rattle.mux_client.proofs.Completing.{client_done}
use Rattle.mux_client.proofs.editor.client.Goals as goal

pub returns-clause-complete : goal.returns-clause-complete
returns-clause-complete g c = client_done _ _ _ _ _ _ _ _ c.carry_from.ensures.ran
