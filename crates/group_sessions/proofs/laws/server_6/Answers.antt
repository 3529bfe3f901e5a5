use Rattle.group_sessions.proofs.Server6Law.{server_6_law}
use Rattle.group_sessions.proofs.laws.server_6.Goals as goal

pub returns : goal.returns
returns c = λ settings range history legal. server_6_law settings range history legal
