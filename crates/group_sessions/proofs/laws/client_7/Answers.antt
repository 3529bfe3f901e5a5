use Rattle.group_sessions.proofs.Client7Law.{client_7_law}
use Rattle.group_sessions.proofs.laws.client_7.Goals as goal

pub returns : goal.returns
returns c = λ settings range history legal. client_7_law settings range history legal
