use Rattle.group_sessions.proofs.Server8Law.{server_8_law}
use Rattle.group_sessions.proofs.laws.server_8.Goals as goal

pub returns : goal.returns
returns c = λ settings range history legal. server_8_law settings range history legal
