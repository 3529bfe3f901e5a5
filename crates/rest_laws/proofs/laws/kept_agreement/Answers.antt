use Rattle.rest_laws.proofs.Agreeing.{agreement}
use Rattle.rest_laws.proofs.laws.kept_agreement.Goals as goal

pub returns : goal.returns
returns c = λ settings s e events. agreement settings s e events
