use Rattle.group_facts.proofs.Everywhere.{known_holds}
use Rattle.group_facts.proofs.laws.every_history.Goals as goal

pub returns : goal.returns
returns c = λ settings range history legal. known_holds settings range history legal
