use Rattle.response_route.proofs.Asking.{plain_asked, refusal_result, refusal_value, request_asks}
use Rattle.response_route.proofs.Rising.{asked_rise}
use Rattle.response_route.proofs.laws.asks_law.Goals as goal

pub returns-clause-rise : goal.returns-clause-rise
returns-clause-rise c = asked_rise

pub returns-clause-request : goal.returns-clause-request
returns-clause-request c = λ r body w text i k method params gives says id e. request_asks body w i k method params says id r gives text e

pub returns-clause-plain : goal.returns-clause-plain
returns-clause-plain c = plain_asked

pub returns-clause-refusal : goal.returns-clause-refusal
returns-clause-refusal c = refusal_result

pub returns-clause-refusal_value : goal.returns-clause-refusal_value
returns-clause-refusal_value c = refusal_value
