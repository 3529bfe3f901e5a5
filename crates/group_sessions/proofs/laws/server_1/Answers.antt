use Rattle.group_sessions.proofs.Server1Law.{server_1_law}
use Rattle.group_sessions.proofs.laws.server_1.Goals as goal

pub returns : goal.returns
returns c = λ settings range history legal. server_1_law settings range history legal
