use Rattle.group_sessions.proofs.Client2Law.{client_2_law}
use Rattle.group_sessions.proofs.laws.client_2.Goals as goal

pub returns : goal.returns
returns c = λ settings range history legal. client_2_law settings range history legal
