use Rattle.group_sessions.proofs.Server2Law.{server_2_law}
use Rattle.group_sessions.proofs.laws.server_2.Goals as goal

pub returns : goal.returns
returns c = λ settings range history legal. server_2_law settings range history legal
