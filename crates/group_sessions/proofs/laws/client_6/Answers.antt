use Rattle.group_sessions.proofs.Client6Law.{client_6_law}
use Rattle.group_sessions.proofs.Heard.{all_heard}
use Rattle.group_sessions.proofs.laws.client_6.Goals as goal

pub returns : goal.returns
returns c = λ settings range history legal. client_6_law settings range (all_heard settings range) history legal
