use Rattle.std.proofs.Common.{length, refl}
use Rattle.json_nodes.specs.Values.{doc_of}
use Rattle.json_nodes.proofs.Absent.{outside}
use Rattle.json_nodes.proofs.values.Values.within.Goals as goal

pub returns-in_default-clause-same : goal.returns-in_default-clause-same
returns-in_default-clause-same c = λ o f. absurd (outside (doc_of c.args.self) o c.args.node c.in-Some.number (length c.args.self.nodes.now) c.in-Some.is refl c.if-number-self.false f)
