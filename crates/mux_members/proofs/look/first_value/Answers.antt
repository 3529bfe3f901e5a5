use Rattle.mux_members.proofs.Walks.{rest_absent}
use Rattle.mux_members.proofs.look.first_value.Goals as goal

pub returns-in_err-node-clause-rest : goal.returns-in_err-node-clause-rest
returns-in_err-node-clause-rest c = λ o f. rest_absent c.args.tape.now o c.args.node c.within.result c.from_residual.result f (c.within.ensures.same o f) c.in_err-node.was c.from_residual.ensures
