use Rattle.rpc_message.proofs.Decimals.{decimal_law}
use Rattle.rpc_message.proofs.Ids.{request_id_bytes, result_id_bytes, error_id_bytes, result_bytes_law}
use Rattle.rpc_message.proofs.laws.parts_law.Goals as goal

pub returns-clause-request : goal.returns-clause-request
returns-clause-request c = request_id_bytes

pub returns-clause-outcome : goal.returns-clause-outcome
returns-clause-outcome c = result_id_bytes

pub returns-clause-failure : goal.returns-clause-failure
returns-clause-failure c = error_id_bytes

pub returns-clause-value : goal.returns-clause-value
returns-clause-value c = result_bytes_law

pub returns-clause-number : goal.returns-clause-number
returns-clause-number c = decimal_law
