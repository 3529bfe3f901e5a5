use Rattle.rpc_message.proofs.Reading.{result_inside}
use Rattle.rpc_message.proofs.message.Message.result.Goals as goal

pub returns-in-Outcome-clause-inside : goal.returns-in-Outcome-clause-inside
returns-in-Outcome-clause-inside c = result_inside _ c.args.self.now _ c.in-Outcome.id c.in-Outcome.value c.self.view_is c.self.invariant c.in-Outcome.is
