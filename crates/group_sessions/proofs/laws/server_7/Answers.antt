use Rattle.group_sessions.proofs.Server7Law.{server_7_law}
use Rattle.group_sessions.proofs.laws.server_7.Goals as goal

pub returns : goal.returns
returns c = λ settings range history legal. server_7_law settings range history legal
