use Rattle.session_laws.proofs.SpawnedLaw.{counts_above, counts_below}
use Rattle.group_sessions.proofs.SpawnedLaw.{numbered}
use Rattle.group_sessions.proofs.laws.spawned_in_order.Goals as goal

pub returns-clause-below : goal.returns-clause-below
returns-clause-below c = λ settings range history legal s l. counts_below history s (numbered settings range history legal) l

pub returns-clause-above : goal.returns-clause-above
returns-clause-above c = λ settings range history legal s l. counts_above history s (numbered settings range history legal) l
