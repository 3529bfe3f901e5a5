use Rattle.group_facts.proofs.Everywhere.{reasons_hold}
use Rattle.group_facts.proofs.laws.every_out.Goals as goal

pub returns : goal.returns
returns c = λ settings range history legal. reasons_hold settings range history legal
