use Rattle.group_sessions.proofs.DueDone.{due_law}
use Rattle.group_sessions.proofs.laws.progress_due.Goals as goal

pub returns : goal.returns
returns c = λ settings range history legal. due_law settings range history legal
