use Rattle.group_sessions.proofs.Client1Law.{client_1_law}
use Rattle.group_sessions.proofs.laws.client_1.Goals as goal

pub returns : goal.returns
returns c = λ settings range history legal. client_1_law settings range history legal
