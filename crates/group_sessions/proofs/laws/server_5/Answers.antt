use Rattle.group_sessions.proofs.Server5Law.{server_5_law}
use Rattle.group_sessions.proofs.laws.server_5.Goals as goal

pub returns : goal.returns
returns c = λ settings range history legal. server_5_law settings range history legal
