use Rattle.rest_laws.proofs.SilentLaw.{silent_holds}
use Rattle.rest_laws.proofs.laws.silence.Goals as goal

pub returns : goal.returns
returns c = λ settings range history legal. silent_holds settings range history legal
