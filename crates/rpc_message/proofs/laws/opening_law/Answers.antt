use Rattle.rpc_message.proofs.Fixed.{initialized_law}
use Rattle.rpc_message.proofs.Opening.{initialize_law}
use Rattle.rpc_message.proofs.laws.opening_law.Goals as goal

pub returns-clause-initialize : goal.returns-clause-initialize
returns-clause-initialize c = initialize_law

pub returns-clause-initialized : goal.returns-clause-initialized
returns-clause-initialized c = initialized_law
