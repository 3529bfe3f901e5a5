use Rattle.rest_laws.proofs.ToldLaw.{told_holds}
use Rattle.rest_laws.proofs.laws.told_ready.Goals as goal

pub returns : goal.returns
returns c = λ settings range history legal. told_holds settings range history legal
