use Rattle.group_sessions.proofs.SpawnedLaw.{spawned_once_law}
use Rattle.group_sessions.proofs.laws.spawned_once.Goals as goal

pub returns : goal.returns
returns c = λ settings range history legal s. spawned_once_law settings range history legal s
