use Rattle.json_span.specs.json_nodes.proofs.PutBare.{flat_put}
use Rattle.rpc_message.proofs.PutLaws.{request_puts, result_puts, notification_puts, puts_rise}
use Rattle.rpc_message.proofs.laws.puts_law.Goals as goal

pub returns-clause-request : goal.returns-clause-request
returns-clause-request c = request_puts

pub returns-clause-outcome : goal.returns-clause-outcome
returns-clause-outcome c = result_puts

pub returns-clause-notification : goal.returns-clause-notification
returns-clause-notification c = notification_puts

pub returns-clause-rise : goal.returns-clause-rise
returns-clause-rise c = puts_rise

pub returns-clause-shallow : goal.returns-clause-shallow
returns-clause-shallow c = λ p path. flat_put path p
