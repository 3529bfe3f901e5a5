use Rattle.group_sessions.proofs.Server4Law.{server_4_law}
use Rattle.group_sessions.proofs.laws.server_4.Goals as goal

pub returns : goal.returns
returns c = λ settings range history legal. server_4_law settings range history legal
