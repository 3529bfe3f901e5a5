use Rattle.rest_laws.proofs.RestLaw.{rest_holds}
use Rattle.rest_laws.proofs.laws.rest.Goals as goal

pub returns : goal.returns
returns c = λ settings range history legal. rest_holds settings range history legal
