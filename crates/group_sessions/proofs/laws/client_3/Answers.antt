use Rattle.group_sessions.proofs.Client3Law.{client_3_law}
use Rattle.group_sessions.proofs.laws.client_3.Goals as goal

pub returns : goal.returns
returns c = λ settings range history legal. client_3_law settings range history legal
