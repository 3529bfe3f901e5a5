use Rattle.json_nodes.specs.Values.{doc_of}
use Rattle.capability_meet.proofs.Meets.{met_so, not_met}
use Rattle.capability_meet.proofs.twins.if_meets.Goals as goal

pub returns-then-meets-clause-twin : goal.returns-then-meets-clause-twin
returns-then-meets-clause-twin c = λ t u a b. met_so (doc_of c.args.right) t u c.args.other c.meets.result b (c.meets.ensures t u a b) c.if-meets.true

pub returns-else-meets-clause-twin : goal.returns-else-meets-clause-twin
returns-else-meets-clause-twin c = λ t u a b. not_met (doc_of c.args.right) t u c.meets.result (c.meets.ensures t u a b) c.if-meets.false
