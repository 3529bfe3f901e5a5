use Rattle.group_sessions.proofs.ExitsOver.{exits_law}
use Rattle.group_sessions.proofs.laws.exits_end.Goals as goal

pub returns : goal.returns
returns c = λ settings range history legal. exits_law settings range history legal
