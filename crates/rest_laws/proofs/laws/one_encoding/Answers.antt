use Rattle.rest_laws.proofs.Codes.{one_encoding_holds}
use Rattle.rest_laws.proofs.laws.one_encoding.Goals as goal

pub returns : goal.returns
returns c = λ settings range history legal. one_encoding_holds settings range history legal
