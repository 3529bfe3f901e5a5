use Rattle.group_facts.proofs.Switching.{switches_hold}
use Rattle.group_facts.proofs.laws.switches.Goals as goal

pub returns : goal.returns
returns c = λ settings range history legal. switches_hold settings range history legal
