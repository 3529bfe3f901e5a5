use Rattle.group_sessions.proofs.Client5Law.{client_5_law}
use Rattle.group_sessions.proofs.laws.client_5.Goals as goal

pub returns : goal.returns
returns c = λ settings range history legal. client_5_law settings range history legal
