use Rattle.std.proofs.Common.{ap, length, arith}
use Rattle.mux_members.proofs.Walks.{rest_next, rest_inside}
use Rattle.mux_members.proofs.look.next_value.Goals as goal

pub returns-then-node-nodes-clause-rest : goal.returns-then-node-nodes-clause-rest
returns-then-node-nodes-clause-rest c = λ t more r. rest_next c.args.tape.now c.args.node c.next.result t more (λ k n t u a. c.next.ensures.next k n t u a) r

pub returns-else-node-nodes-clause-rest : goal.returns-else-node-nodes-clause-rest
returns-else-node-nodes-clause-rest c = λ t more r. absurd (omega (arith, rest_inside c.args.tape.now c.args.node _ r, ap length c.nodes.ensures, c.if-node-nodes.false))
