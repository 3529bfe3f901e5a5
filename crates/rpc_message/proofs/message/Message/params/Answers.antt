use Rattle.rpc_message.proofs.Reading.{params_inside}
use Rattle.rpc_message.proofs.message.Message.params.Goals as goal

pub returns-in-Request-clause-inside : goal.returns-in-Request-clause-inside
returns-in-Request-clause-inside c = params_inside _ c.args.self.now _ c.in-Request.params c.self.view_is c.self.invariant c.in-Request.is

pub returns-in-Request-2-clause-inside : goal.returns-in-Request-2-clause-inside
returns-in-Request-2-clause-inside c = params_inside _ c.args.self.now _ c.in-Request.params c.self.view_is c.self.invariant c.in-Request.is
