use Rattle.rpc_message.proofs.Ids.{request_with_id, result_with_id, error_with_id}
use Rattle.rpc_message.proofs.laws.renamed_law.Goals as goal

pub returns-clause-request : goal.returns-clause-request
returns-clause-request c = request_with_id

pub returns-clause-outcome : goal.returns-clause-outcome
returns-clause-outcome c = result_with_id

pub returns-clause-failure : goal.returns-clause-failure
returns-clause-failure c = error_with_id
