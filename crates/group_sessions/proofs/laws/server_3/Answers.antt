use Rattle.group_sessions.proofs.Server3Law.{server_3_law}
use Rattle.group_sessions.proofs.laws.server_3.Goals as goal

pub returns : goal.returns
returns c = λ settings range history legal. server_3_law settings range history legal
