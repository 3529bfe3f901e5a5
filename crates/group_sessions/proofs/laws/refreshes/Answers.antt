use Rattle.group_sessions.proofs.RefreshLaw.{refreshes_law}
use Rattle.group_sessions.proofs.laws.refreshes.Goals as goal

pub returns : goal.returns
returns c = λ settings range history legal. refreshes_law settings range history legal
