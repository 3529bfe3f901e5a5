use Rattle.rpc_message.proofs.Replies.{request_law, notification_law}
use Rattle.rpc_message.proofs.laws.calls_law.Goals as goal

pub returns-clause-request : goal.returns-clause-request
returns-clause-request c = request_law

pub returns-clause-notification : goal.returns-clause-notification
returns-clause-notification c = notification_law
