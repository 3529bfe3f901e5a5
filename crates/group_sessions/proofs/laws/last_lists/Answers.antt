use Rattle.group_sessions.proofs.ListsLaw.{lists_law}
use Rattle.group_sessions.proofs.laws.last_lists.Goals as goal

pub returns : goal.returns
returns c = λ settings range history legal. lists_law settings range history legal
