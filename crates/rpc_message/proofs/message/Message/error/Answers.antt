use Rattle.std.proofs.Common.{ap}
use Rattle.rpc_message.specs.Parsed.{Parsed}
use Rattle.rpc_message.proofs.Reading.{error_found, error_inside}
use Rattle.rpc_message.proofs.message.Message.error.Goals as goal

pub returns-in-Failure-clause-value : goal.returns-in-Failure-clause-value
returns-in-Failure-clause-value c = error_found c.args.self.now c.self.inside.envelope c.in-Failure.id c.in-Failure.error (ap (λ (p : Parsed). p.envelope) c.self.view_is) c.in-Failure.is

pub returns-in-Failure-clause-inside : goal.returns-in-Failure-clause-inside
returns-in-Failure-clause-inside c = error_inside _ c.args.self.now _ c.in-Failure.id c.in-Failure.error c.self.view_is c.self.invariant c.in-Failure.is
