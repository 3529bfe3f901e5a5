use Rattle.group_facts.proofs.Settling.{settled_holds}
use Rattle.group_facts.proofs.laws.every_settled.Goals as goal

pub returns : goal.returns
returns c = λ settings range history legal. settled_holds settings range history legal
