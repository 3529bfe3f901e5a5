use Rattle.response_route.proofs.Responding.{error_responds, plain_answer, result_responds}
use Rattle.response_route.proofs.laws.answers_law.Goals as goal

pub returns-clause-outcome : goal.returns-clause-outcome
returns-clause-outcome c = λ r body w i k v gives says id. result_responds body w i k v says id r gives

pub returns-clause-failure : goal.returns-clause-failure
returns-clause-failure c = error_responds

pub returns-clause-plain : goal.returns-clause-plain
returns-clause-plain c = plain_answer
