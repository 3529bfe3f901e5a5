use Rattle.group_sessions.proofs.ReplayLaw.{replayed_law}
use Rattle.group_sessions.proofs.laws.replays.Goals as goal

pub returns : goal.returns
returns c = λ settings range history legal. replayed_law settings range history legal
