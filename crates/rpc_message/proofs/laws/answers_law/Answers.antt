use Rattle.std.proofs.Common.{arith}
use Rattle.rpc_message.proofs.Fixed.{ok_law, error_law}
use Rattle.rpc_message.proofs.Replies.{error_reply_law}
use Rattle.rpc_message.proofs.laws.answers_law.Goals as goal

pub returns-clause-ok : goal.returns-clause-ok
returns-clause-ok c = λ i v id r h g d. ok_law i v id r h g d

pub returns-clause-failure : goal.returns-clause-failure
returns-clause-failure c = λ i id e h. error_law i id e h

pub returns-clause-any_failure : goal.returns-clause-any_failure
returns-clause-any_failure c = λ i id code text h n u. error_reply_law i id code text h (omega (arith, n.sfits)) u
