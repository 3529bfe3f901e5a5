use Rattle.group_sessions.proofs.Client4Law.{client_4_law}
use Rattle.group_sessions.proofs.laws.client_4.Goals as goal

pub returns : goal.returns
returns c = λ settings range history legal. client_4_law settings range history legal
